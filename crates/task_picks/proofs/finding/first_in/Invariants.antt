use Rattle.std.proofs.Common.{◌≡◌, ◌-◌, find}
use Rattle.std.specs.List.{range_with_len}
use Rattle.task_picks.specs.Picked.{goes}
use Rattle.task_picks.proofs.finding.first_in.Given as goal

abbrev pub invariant-loop-task : goal.invariant-loop-task
invariant-loop-task l = find (goes l.node) (range_with_len l.from (l.to - l.from)) ≡ find (goes l.node) (range_with_len l.task (l.to - l.task))
