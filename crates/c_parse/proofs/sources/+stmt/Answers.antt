use Rattle.c_parse.specs.Statements.{statement}
use Rattle.c_parse.proofs.sources.+stmt.Goals as goal

pub returns : goal.returns
unfolding statement
returns t c = c.statement.ensures
