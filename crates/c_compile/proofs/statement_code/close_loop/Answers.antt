use Rattle.std.proofs.Common.{[]}
use Rattle.c_compile.proofs.Blocks.{loop_closed}
use Rattle.c_compile.proofs.statement_code.close_loop.Goals as goal

pub returns-clause-with_step : goal.returns-clause-with_step
returns-clause-with_step c = λ test step body rest o e t. loop_closed _ _ _ _ _ test step body rest _ _ _ o e t c.in_ok-back.ensures c.in_ok-passed.ensures c.mend.ensures c.in_ok-put.ensures

pub returns-clause-without_step : goal.returns-clause-without_step
returns-clause-without_step c = λ test body rest o e t. loop_closed _ _ _ _ _ test [] body rest _ _ _ o e t c.in_ok-back.ensures c.in_ok-passed.ensures c.mend.ensures c.in_ok-put.ensures
