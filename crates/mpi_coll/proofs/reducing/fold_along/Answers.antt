use Rattle.std.proofs.Common.{◌≡◌, ◌∷◌, ◌∙◌, arith}
use Rattle.mpi_coll.proofs.Folding.{along_step, along_push, along_done}
use Rattle.mpi_coll.proofs.reducing.fold_along.Goals as goal

pub loop-next-preserved : goal.loop-next-preserved
loop-next-preserved c = record {
  so_far = along_step c.args.op c.args.kind c.in_ok-so_far.so_far c.in-Some.more.now c.loop-next.next-index c.loop-next.so_far c.in_ok-longer.longer c.as_slice-in-loop-next.result.now c.as_slice-in-loop-next-2.result.now c.next-item.result
      (omega (arith, c.loop-next-test.true)) c.in_ok-longer.ensures c.as_slice-in-loop-next.ensures c.as_slice-in-loop-next-2.ensures c.next-item.is c.loop-next.invariant.so_far;
  all = along_push c.args.op c.args.kind c.in_ok-so_far.so_far c.in-Some.more.now c.loop-next.next-index c.loop-next.all.items c.push.new.self.items c.loop-next.so_far
      c.in_ok-push.ensures.items c.loop-next.invariant.all c.loop-next.invariant.so_far;
}

pub returns : goal.returns
returns c =
    let split : c.args.given.now ≡ c.in-Some.first.now ∷ c.in-Some.more.now = c.in-Some.ensures.cases.0 in
    along_done c.args.op c.args.kind c.args.given.now c.in-Some.first.now c.in_ok-so_far.so_far c.in-Some.more.now c.loop-next.next-index c.loop-next.all.items c.push-2.new.self.items c.loop-next.so_far
    split (c.in_ok-so_far.ensures ∙ c.as_slice.ensures) (omega (arith, c.loop-next-test.false, c.loop-next.auto.next-index-end)) c.in_ok-push-2.ensures.items c.loop-next.invariant.all c.loop-next.invariant.so_far
