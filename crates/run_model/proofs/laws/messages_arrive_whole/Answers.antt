use Rattle.run_model.proofs.WholeRuns.{wholes, orderly}
use Rattle.run_model.proofs.laws.messages_arrive_whole.Goals as goal

pub returns-clause-whole : goal.returns-clause-whole
returns-clause-whole c = λ setup order. (wholes setup order).whole

pub returns-clause-orderly : goal.returns-clause-orderly
returns-clause-orderly c = orderly
