use Rattle.std.proofs.Common.{◌≡◌, length, All}
use Rattle.task_rounds.specs.Rounds.{IsNew}
use Rattle.picked_run.proofs.run.seats.Given as goal

abbrev pub invariant-loop-task : goal.invariant-loop-task
invariant-loop-task l = record { count : length l.all.items ≡ l._task; fresh : All (IsNew l.code.value) l.all.items }
