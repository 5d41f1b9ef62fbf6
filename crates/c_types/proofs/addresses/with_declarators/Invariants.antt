use Rattle.std.proofs.Common.{◌≡◌, drop, map}
use Rattle.c_tree.specs.SyntaxOf.{declarator_of}
use Rattle.c_types.specs.Addresses as addresses
use Rattle.c_types.proofs.addresses.with_declarators.Given as goal

abbrev pub invariant-loop-d : goal.invariant-loop-d
invariant-loop-d l =
    addresses.with_declarators l.is_static l.base l.frame (map declarator_of (drop l.d-index l.all)) ≡ addresses.with_declarators l.is_static l.base l.initial.frame (map declarator_of l.all)
