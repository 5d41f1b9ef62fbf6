use Rattle.std.proofs.Common.{◌≡◌, drop, map}
use Rattle.c_tree.specs.SyntaxOf.{item_of}
use Rattle.c_types.specs.Units.{has_main}
use Rattle.c_types.proofs.signatures.has_main.Given as goal

abbrev pub invariant-loop-item : goal.invariant-loop-item
invariant-loop-item l = has_main (map item_of (drop l.item-index l.items)) ≡ has_main (map item_of l.items)
