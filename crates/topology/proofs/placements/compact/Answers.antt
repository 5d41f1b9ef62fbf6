use Rattle.std.proofs.Common.{◌%◌, refl}
use Rattle.topology.proofs.Ranges.{map-range_next}
use Rattle.topology.proofs.placements.compact.Goals as goal

pub loop-task-preserved : goal.loop-task-preserved
loop-task-preserved c =
    rw (c.in_ok-push.ensures.items, c.loop-task.invariant, map-range_next (λ task. task % c.args.count) c.loop-task.task) refl
