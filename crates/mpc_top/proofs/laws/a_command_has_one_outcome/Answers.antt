use Rattle.mpc_top.proofs.Outcomes.{one_outcome}
use Rattle.mpc_top.proofs.laws.a_command_has_one_outcome.Goals as goal

pub returns : goal.returns
returns c = one_outcome c.lexing_laws.ensures c.parsing_laws.ensures c.typing_laws.ensures
