use Rattle.c_parse.specs.Expressions.{expr}
use Rattle.c_parse.proofs.expressions.+expr.Goals as goal

pub returns : goal.returns
unfolding expr
returns t c = c.part.ensures
