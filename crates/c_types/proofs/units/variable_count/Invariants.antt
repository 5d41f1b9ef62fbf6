use Rattle.std.proofs.Common.{◌≡◌, ◌+◌, drop, map}
use Rattle.c_tree.specs.SyntaxOf.{item_of}
use Rattle.c_types.specs.Units as units
use Rattle.c_types.proofs.units.variable_count.Given as goal

abbrev pub invariant-loop-item : goal.invariant-loop-item
invariant-loop-item l = l.count + units.variable_count (map item_of (drop l.item-index l.items)) ≡ units.variable_count (map item_of l.items)
