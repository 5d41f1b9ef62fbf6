use Rattle.std.proofs.Common.{◌≡◌, drop}
use Rattle.c_tree.specs.SyntaxOf.{stmts_of}
use Rattle.c_types.specs.Statements.{escapes_both, escapes_all}
use Rattle.c_types.proofs.escapes.+escapes.Given as goal

abbrev pub invariant-escapes_all-loop-s : goal.invariant-escapes_all-loop-s
invariant-escapes_all-loop-s l = escapes_both l.found (escapes_all (stmts_of (drop l.s-index l.all))) ≡ escapes_all (stmts_of l.all)
