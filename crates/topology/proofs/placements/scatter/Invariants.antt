use Rattle.std.proofs.Common.{◌≡◌, map}
use Rattle.std.specs.List.{range_with_len}
use Rattle.topology.specs.Places.{scatter_core}
use Rattle.topology.proofs.placements.scatter.Given as goal

abbrev pub invariant-loop-task : goal.invariant-loop-task
invariant-loop-task l = l.list.items ≡ map (scatter_core l.machine) (range_with_len 0 l.task)
