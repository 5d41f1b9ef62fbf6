use Rattle.run_model.proofs.Steps.{step_is, task_is}
use Rattle.run_model.proofs.laws.steps_are_of_their_tasks.Goals as goal

pub returns-clause-step : goal.returns-clause-step
returns-clause-step c = step_is

pub returns-clause-task : goal.returns-clause-task
returns-clause-task c = λ setup w task entry after h. task_is (step_is setup w task entry after h)
