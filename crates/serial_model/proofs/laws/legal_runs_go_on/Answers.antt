use Rattle.serial_model.proofs.Runs.{world_of-push, entries-push}
use Rattle.serial_model.proofs.laws.legal_runs_go_on.Goals as goal

pub returns-clause-legal : goal.returns-clause-legal
returns-clause-legal c = λ setup entries entry world legal went. entries-push setup entries entry world legal went

pub returns-clause-world : goal.returns-clause-world
returns-clause-world c = λ setup entries entry world went. world_of-push setup entries entry world went
