use Rattle.std.proofs.Common.{◌≡◌, map}
use Rattle.std.specs.List.{filter, range_with_len}
use Rattle.topology.specs.Places.{cores_in, has_core}
use Rattle.topology.proofs.placements.groups.Given as goal

abbrev pub invariant-loop-id : goal.invariant-loop-id
invariant-loop-id l = l.list.items ≡ map (cores_in l.machine) (filter (has_core l.machine) (range_with_len 0 l.id))
