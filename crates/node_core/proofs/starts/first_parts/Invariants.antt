use Rattle.std.proofs.Common.{◌≡◌, length, All}
use Rattle.node_core.specs.Starts.{IsFirst}
use Rattle.node_core.proofs.starts.first_parts.Given as goal

abbrev pub invariant-loop-task : goal.invariant-loop-task
invariant-loop-task l = record { count : length l.parts.items ≡ l._task; first : All IsFirst l.parts.items }
