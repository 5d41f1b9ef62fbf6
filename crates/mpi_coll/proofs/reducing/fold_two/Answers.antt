use Rattle.std.proofs.Common.{◌∙◌, arith}
use Rattle.mpi_coll.proofs.Folding.{folded_push, folded_done}
use Rattle.mpi_coll.proofs.reducing.fold_two.Goals as goal

pub loop-place-preserved : goal.loop-place-preserved
loop-place-preserved c =
    folded_push c.args.op c.args.kind c.args.a.now c.args.b.now c.loop-place.all.items c.push.new.self.items c.loop-place.place c.word_at-word.result
    (omega (arith, c.loop-place-test.true, c.min-places.ensures)) (omega (arith, c.loop-place-test.true, c.min-places.ensures)) c.word_at-word.ensures c.in_ok-push.ensures.items c.loop-place.invariant

pub returns : goal.returns
returns c =
    c.of.ensures ∙ folded_done c.args.op c.args.kind c.args.a.now c.args.b.now c.loop-place.all.items c.loop-place.place (omega (arith, c.loop-place-test.false, c.min-places.ensures)) c.loop-place.invariant
