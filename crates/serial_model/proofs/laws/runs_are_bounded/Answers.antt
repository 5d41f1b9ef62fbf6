use Rattle.serial_model.proofs.Bounds.{bounded}
use Rattle.serial_model.proofs.laws.runs_are_bounded.Goals as goal

pub returns : goal.returns
returns c = λ setup order. bounded setup order
