use Rattle.std.proofs.Common.{◌≡◌, length}
use Rattle.serial_run.specs.Rounds.{Together}
use Rattle.serial_run.proofs.run.run_to_end.Given as goal

abbrev pub invariant-loop-round : goal.invariant-loop-round
invariant-loop-round l = Together l.task l.node × (length l.node.entries ≡ l._round) × (l.node.setup ≡ l.fn.node.setup)
