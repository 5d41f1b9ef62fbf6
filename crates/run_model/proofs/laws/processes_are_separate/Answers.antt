use Rattle.run_model.proofs.Places.{owner_apart}
use Rattle.run_model.proofs.Steps.{step_is}
use Rattle.run_model.proofs.SeparateRuns.{separate, run_left}
use Rattle.run_model.specs.Run.{run}
use Rattle.run_model.proofs.laws.processes_are_separate.Goals as goal

pub returns-clause-others : goal.returns-clause-others
returns-clause-others c = λ setup order task entry after went.
    (run_left setup order task entry after (step_is setup (run setup order).world task entry after went)).others (separate setup order).own

pub returns-clause-places : goal.returns-clause-places
returns-clause-places c = λ setup order. (separate setup order).own

pub returns-clause-touched : goal.returns-clause-touched
returns-clause-touched c = owner_apart
