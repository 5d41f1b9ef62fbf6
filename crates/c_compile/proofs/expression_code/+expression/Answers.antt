use Rattle.std.proofs.Common.{refl}
use Rattle.c_compile.proofs.Makings.{apply_made}
use Rattle.c_compile.proofs.expression_code.+expression.Goals as goal

pub put_expression-returns-in_ok-put_expressions-in-Apply : goal.put_expression-returns-in_ok-put_expressions-in-Apply
put_expression-returns-in_ok-put_expressions-in-Apply t c =
    apply_made _ _ _ _ _ _ _ _ _ c.in-Apply.is c.as_slice-arguments.ensures.value refl c.in_ok-put_callee-in-Apply.ensures c.in_ok-put_expressions-in-Apply.ensures
