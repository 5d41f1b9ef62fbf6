use Rattle.std.proofs.Common.{◌≡◌, ◌≤◌, ◌++◌, length, drop}
use Rattle.c_tree.specs.ProgramOf.{exprs_of}
use Rattle.c_compile.specs.Compiled.{exprs_code}
use Rattle.c_compile.proofs.expression_code.+expression.Given as goal

abbrev pub invariant-put_expressions-loop-left : goal.invariant-put_expressions-loop-left
invariant-put_expressions-loop-left l = (l.left ≤ length l.all) × (l.out ≡ exprs_code l.line (exprs_of (drop l.left l.all)) ++ l.initial.out)

abbrev pub decreases-put_expressions-loop-left : goal.decreases-put_expressions-loop-left
decreases-put_expressions-loop-left l = l.left
