use Rattle.run_model.proofs.Answers.{answered}
use Rattle.run_model.proofs.laws.answers_are_those_of_own_entries.Goals as goal

pub returns : goal.returns
returns c = λ setup order task. (answered setup order).own task
