use Rattle.std.proofs.Common.{refl}
use Rattle.topology.specs.Places.{scatter_core}
use Rattle.topology.proofs.Ranges.{map-range_next}
use Rattle.topology.proofs.placements.scatter.Goals as goal

pub loop-task-preserved : goal.loop-task-preserved
loop-task-preserved c =
    rw (c.in_ok-push.ensures.items, c.loop-task.invariant, c.turn_of.ensures, c.as_slice.ensures.value, c.in_ok-groups.ensures.items, map-range_next (scatter_core c.args.machine.now) c.loop-task.task) refl
