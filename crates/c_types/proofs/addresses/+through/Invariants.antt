use Rattle.std.proofs.Common.{◌≡◌, drop}
use Rattle.c_tree.specs.SyntaxOf.{exprs_of}
use Rattle.c_types.specs.Addresses as addresses
use Rattle.c_types.proofs.addresses.+through.Given as goal

abbrev pub invariant-through_all-loop-e : goal.invariant-through_all-loop-e
invariant-through_all-loop-e l = addresses.through_all l.frame (exprs_of (drop l.e-index l.all)) ≡ addresses.through_all l.initial.frame (exprs_of l.all)
