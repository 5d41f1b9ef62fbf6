use Rattle.mpc_top.proofs.PlainRows.{call_plain, stop_expr}
use Rattle.mpc_top.proofs.plain.+expressions.Goals as goal

pub are_plain_exprs-returns-then-not-is_plain_expr : goal.are_plain_exprs-returns-then-not-is_plain_expr
are_plain_exprs-returns-then-not-is_plain_expr t c =
    stop_expr _ _ _ _ c.loop-e-test.true c.e-item.is c.is_plain_expr.ensures c.if-not-is_plain_expr.true c.loop-e.invariant

pub is_plain_expr-returns-then-is_plain_callee : goal.is_plain_expr-returns-then-is_plain_callee
is_plain_expr-returns-then-is_plain_callee t c =
    call_plain _ _ _ _ _ _ c.in-Apply.is c.is_plain_callee.ensures c.if-is_plain_callee.true c.deref-then-is_plain_callee.ensures.value c.are_plain_exprs.ensures
