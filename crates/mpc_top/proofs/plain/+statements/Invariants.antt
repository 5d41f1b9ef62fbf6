use Rattle.std.proofs.Common.{◌≡◌, drop}
use Rattle.c_tree.specs.ProgramOf.{stmts_of}
use Rattle.c_compile.specs.Plain.{are_plain_stmts}
use Rattle.mpc_top.proofs.plain.+statements.Given as goal

abbrev pub invariant-are_plain_stmts-loop-s : goal.invariant-are_plain_stmts-loop-s
invariant-are_plain_stmts-loop-s l = are_plain_stmts (stmts_of (drop l.s-index l.all)) ≡ are_plain_stmts (stmts_of l.all)
