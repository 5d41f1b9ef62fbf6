use Rattle.std.proofs.Common.{◌≡◌, drop}
use Rattle.c_tree.specs.SyntaxOf.{stmts_of}
use Rattle.c_types.specs.Addresses as addresses
use Rattle.c_types.proofs.addresses.+behind.Given as goal

abbrev pub invariant-behind_all-loop-s : goal.invariant-behind_all-loop-s
invariant-behind_all-loop-s l = addresses.behind_all l.frame (stmts_of (drop l.s-index l.all)) ≡ addresses.behind_all l.initial.frame (stmts_of l.all)
