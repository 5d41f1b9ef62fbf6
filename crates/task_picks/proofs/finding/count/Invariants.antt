use Rattle.std.proofs.Common.{◌≡◌, ◌-◌, ◌+◌, ◌≤◌, length, filter}
use Rattle.std.specs.List.{range_with_len}
use Rattle.task_picks.specs.Picked.{goes}
use Rattle.task_picks.proofs.finding.count.Given as goal

abbrev pub invariant-loop-task : goal.invariant-loop-task
invariant-loop-task l = record {
  counted : length (filter (goes l.node) (range_with_len 0 l.tasks)) ≡ l.found + length (filter (goes l.node) (range_with_len l.task (l.tasks - l.task)));
  few : l.found ≤ l.task;
}
