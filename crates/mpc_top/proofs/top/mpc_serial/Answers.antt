use Rattle.mpc_top.proofs.Answering.{done_of, status_of_kept, cut_of, usage_of, refuses_of, complete_of, kept_of}
use Rattle.mpc_top.proofs.top.mpc_serial.Goals as goal

pub returns-clause-done : goal.returns-clause-done
returns-clause-done g c = done_of _ _ _ _ _ _ _ _ _ _ c.answer.ensures.answered

pub returns-clause-run : goal.returns-clause-run
returns-clause-run g c = status_of_kept _ _ _ _ _ _ _ _ _ _ c.answer.ensures.answered

pub returns-clause-write_fault : goal.returns-clause-write_fault
returns-clause-write_fault g c = λ eight. (cut_of _ _ _ _ _ _ _ _ _ _ c.answer.ensures.answered eight).0

pub returns-clause-sink_failed : goal.returns-clause-sink_failed
returns-clause-sink_failed g c = λ eight. (cut_of _ _ _ _ _ _ _ _ _ _ c.answer.ensures.answered eight).1

pub returns-clause-usage : goal.returns-clause-usage
returns-clause-usage g c = usage_of _ _ _ _ _ _ _ _ _ _ c.answer.ensures.answered

pub returns-clause-refuses : goal.returns-clause-refuses
returns-clause-refuses g c = refuses_of _ _ _ _ _ _ _ _ _ _ c.lexing_laws.ensures c.parsing_laws.ensures c.typing_laws.ensures c.answer.ensures.answered

pub returns-clause-complete : goal.returns-clause-complete
returns-clause-complete g c = complete_of _ _ _ _ _ _ _ _ _ _ c.lexing_laws.ensures c.parsing_laws.ensures c.typing_laws.ensures c.answer.ensures.answered

pub returns-clause-kept : goal.returns-clause-kept
returns-clause-kept g c = kept_of _ _ _ _ _ _ _ _ _ _ c.answer.ensures.answered
