use Rattle.std.proofs.Common.{arith}
use Rattle.mpc_top.proofs.SentLemmas.{Sent-more}
use Rattle.mpc_top.proofs.outputs.write_all.Goals as goal

pub loop-rest-preserved : goal.loop-rest-preserved
loop-rest-preserved g c =
    let more = Sent-more (g.K.Sink.taken c.args.sink.now) (g.K.Sink.taken c.loop-rest.sink) (g.K.Sink.taken c.write.new.self) c.args.text.now c.loop-rest.rest.now c.in_ok-count.count c.in_ok-count.ensures.count c.loop-rest.invariant.0 c.in_ok-count.ensures.took in
    (rw c.split_at.ensures.back more, omega (arith, c.loop-rest.invariant.1, c.in_ok-count.ensures.cause.later))
