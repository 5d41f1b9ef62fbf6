use Rattle.std.proofs.Common.{◌≤◌, length}
use Rattle.mpc_top.specs.Sent.{Sent}
use Rattle.mpc_top.proofs.outputs.write_all.Given as goal

abbrev pub invariant-loop-rest : goal.invariant-loop-rest
invariant-loop-rest g l = Sent (g.K.Sink.taken l.fn.sink) l.fn.text (g.K.Sink.taken l.sink) l.rest × (g.K.Sink.faults l.fn.sink ≤ g.K.Sink.faults l.sink)

abbrev pub decreases-loop-rest : goal.decreases-loop-rest
decreases-loop-rest g l = length l.rest
