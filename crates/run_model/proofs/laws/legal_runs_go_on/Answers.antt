use Rattle.run_model.proofs.Runs.{entries-push, world_of-push}
use Rattle.run_model.proofs.laws.legal_runs_go_on.Goals as goal

pub returns-clause-legal : goal.returns-clause-legal
returns-clause-legal c = entries-push

pub returns-clause-world : goal.returns-clause-world
returns-clause-world c = world_of-push
