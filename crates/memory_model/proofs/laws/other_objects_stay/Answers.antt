use Rattle.memory_model.proofs.Accesses.{others_stay}
use Rattle.memory_model.proofs.laws.other_objects_stay.Goals as goal

pub returns : goal.returns
returns c = others_stay
