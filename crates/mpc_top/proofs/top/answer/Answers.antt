use Rattle.mpc_top.proofs.Answering.{answered_of}
use Rattle.mpc_top.proofs.top.answer.Goals as goal

pub returns-in-Ok-clause-answered : goal.returns-in-Ok-clause-answered
returns-in-Ok-clause-answered g c =
    answered_of _ _ c.in-Some.name.now c.in-Ok.src.items c.in-Ok.ensures.content c.in-Some.mode _ _ _ _ _ _ _ _ c.in-Some.ensures c.in-Ok.ensures.calm
    (rw c.as_slice.ensures.value at c.answer_source.ensures)
