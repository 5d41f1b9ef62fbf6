use Rattle.std.proofs.Common.{◌≡◌, ◌++◌, map, drop}
use Rattle.serial_node.specs.Slots.{first_object}
use Rattle.serial_node.proofs.places.first_objects.Given as goal

abbrev pub invariant-loop-variable : goal.invariant-loop-variable
invariant-loop-variable l = l.objects.items ++ map first_object (drop l.variable-index l.variables) ≡ map first_object l.variables
