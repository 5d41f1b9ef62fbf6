use Rattle.run_model.specs.Run.{at_start}
use Rattle.run_model.proofs.Runs.{run_from-none, run_from-last}
use Rattle.run_model.proofs.laws.runs_go_on_by_one_step.Goals as goal

pub returns-clause-begins : goal.returns-clause-begins
returns-clause-begins c = λ setup. run_from-none setup (at_start setup)

pub returns-clause-goes_on : goal.returns-clause-goes_on
returns-clause-goes_on c = λ setup order task. run_from-last setup (at_start setup) order task
