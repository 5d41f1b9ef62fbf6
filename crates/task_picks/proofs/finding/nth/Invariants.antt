use Rattle.std.proofs.Common.{◌≡◌, ◌-◌, filter, slice_get}
use Rattle.std.specs.List.{range_with_len}
use Rattle.task_picks.specs.Picked.{goes}
use Rattle.task_picks.proofs.finding.nth.Given as goal

abbrev pub invariant-loop-task : goal.invariant-loop-task
invariant-loop-task l = slice_get (filter (goes l.node) (range_with_len 0 l.tasks)) l.place ≡ slice_get (filter (goes l.node) (range_with_len l.task (l.tasks - l.task))) l.left
