use Rattle.run_model.proofs.Bounds.{bounded}
use Rattle.run_model.proofs.laws.runs_are_bounded.Goals as goal

pub returns : goal.returns
returns c = bounded
