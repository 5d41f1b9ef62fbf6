use Rattle.memory_model.proofs.Accesses.{names_last}
use Rattle.memory_model.proofs.laws.names_are_never_given_again.Goals as goal

pub returns : goal.returns
returns c = names_last
