use Rattle.mpc_top.proofs.PlainRows.{block_plain, stop_stmt}
use Rattle.mpc_top.proofs.plain.+statements.Goals as goal

pub are_plain_stmts-returns-then-not-is_plain_stmt : goal.are_plain_stmts-returns-then-not-is_plain_stmt
are_plain_stmts-returns-then-not-is_plain_stmt t c =
    stop_stmt _ _ _ _ c.loop-s-test.true c.s-item.is c.is_plain_stmt.ensures c.if-not-is_plain_stmt.true c.loop-s.invariant

pub is_plain_stmt-returns-in-Block : goal.is_plain_stmt-returns-in-Block
is_plain_stmt-returns-in-Block t c = block_plain _ _ _ _ _ c.in-Block.is c.deref.ensures.value c.are_plain_stmts.ensures
