use Rattle.c_compile.proofs.Blocks.{do_closed}
use Rattle.c_compile.proofs.statement_code.close_do.Goals as goal

pub returns : goal.returns
returns c = λ test body rest o e. do_closed _ _ _ test body rest _ _ _ o e c.in_ok-back.ensures c.mend.ensures c.in_ok-put.ensures
