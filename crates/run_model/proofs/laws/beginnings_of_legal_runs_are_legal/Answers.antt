use Rattle.run_model.proofs.Runs.{beginning_is_legal}
use Rattle.run_model.proofs.laws.beginnings_of_legal_runs_are_legal.Goals as goal

pub returns : goal.returns
returns c = beginning_is_legal
