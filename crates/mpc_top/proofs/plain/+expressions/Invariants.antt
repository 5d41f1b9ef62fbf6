use Rattle.std.proofs.Common.{◌≡◌, drop}
use Rattle.c_tree.specs.ProgramOf.{exprs_of}
use Rattle.c_compile.specs.Plain.{are_plain_exprs}
use Rattle.mpc_top.proofs.plain.+expressions.Given as goal

abbrev pub invariant-are_plain_exprs-loop-e : goal.invariant-are_plain_exprs-loop-e
invariant-are_plain_exprs-loop-e l = are_plain_exprs (exprs_of (drop l.e-index l.all)) ≡ are_plain_exprs (exprs_of l.all)
