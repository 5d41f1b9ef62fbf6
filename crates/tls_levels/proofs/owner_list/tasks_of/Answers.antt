use Rattle.std.proofs.Common.{refl}
use Rattle.mpc_values.specs.declared.owners.Owner.TheVariants.{Task}
use Rattle.topology.proofs.Ranges.{map-range_next}
use Rattle.tls_levels.proofs.owner_list.tasks_of.Goals as goal

pub loop-task-preserved : goal.loop-task-preserved
loop-task-preserved c = rw (c.in_ok-push.ensures.items, c.loop-task.invariant, map-range_next Task c.loop-task.task) refl
