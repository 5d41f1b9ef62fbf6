use Rattle.c_compile.proofs.Blocks.{closed_more, opened_more}
use Rattle.c_compile.proofs.statement_code.put_closing.Goals as goal

pub loop-item-preserved : goal.loop-item-preserved
loop-item-preserved c = (
  closed_more _ _ _ _ _ _ _ c.loop-item-test.true c.item-item.is c.loop-item.invariant.0 c.in_ok-put_drop_of.ensures.code,
  opened_more _ _ _ _ _ _ c.loop-item-test.true c.item-item.is c.loop-item.invariant.1 c.in_ok-put_drop_of.ensures.opened,
)
