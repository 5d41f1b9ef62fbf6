use Rattle.std.proofs.Common.{◌≡◌}
use Rattle.tls_levels.specs.Owners.{tasks_of}
use Rattle.tls_levels.proofs.owner_list.tasks_of.Given as goal

abbrev pub invariant-loop-task : goal.invariant-loop-task
invariant-loop-task l = l.owners.items ≡ tasks_of l.task
