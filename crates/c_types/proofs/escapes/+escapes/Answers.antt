use Rattle.c_types.proofs.Passes.{block_escapes, escapes_on}
use Rattle.c_types.proofs.escapes.+escapes.Goals as goal

pub escapes-returns-in-Block : goal.escapes-returns-in-Block
escapes-returns-in-Block t c = block_escapes _ _ _ _ _ c.in-Block.is c.deref.ensures.value _ c.escapes_all-all.ensures

pub escapes_all-loop-s-preserved : goal.escapes_all-loop-s-preserved
escapes_all-loop-s-preserved t c = escapes_on _ _ _ _ _ _ c.loop-s-test.true c.s-item.is c.escapes.ensures c.escapes_both-found.ensures c.loop-s.invariant
