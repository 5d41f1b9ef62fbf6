use Rattle.std.proofs.Common.{◌≡◌, drop, map}
use Rattle.std.specs.FinMap as fin
use Rattle.c_tree.specs.SyntaxOf.{item_of}
use Rattle.c_types.specs.Units as units
use Rattle.c_types.proofs.units.definitions.Given as goal

abbrev pub invariant-loop-item : goal.invariant-loop-item
invariant-loop-item l = units.definitions_from l.number l.found (map item_of (drop l.item-index l.items)) ≡ units.definitions_from 0 fin.empty (map item_of l.items)
