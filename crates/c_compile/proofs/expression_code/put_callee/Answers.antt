use Rattle.c_compile.proofs.Makings.{print_made}
use Rattle.c_compile.proofs.expression_code.put_callee.Goals as goal

pub returns-in_ok-put-in-Print : goal.returns-in_ok-put-in-Print
returns-in_ok-put-in-Print c = print_made _ _ _ _ _ _ _ _ _ c.in-Print.is c.in_ok-format-in-Print.ensures c.in_ok-printed-in-Print.ensures c.in_ok-count.ensures c.in_ok-put-in-Print.ensures
