use Rattle.serial_memory.proofs.Names.{names_last}
use Rattle.serial_memory.proofs.names_are_never_given_again.Goals as goal

pub returns : goal.returns
returns c = λ task o left. names_last task o left
