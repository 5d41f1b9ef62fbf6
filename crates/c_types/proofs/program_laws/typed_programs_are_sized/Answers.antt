use Rattle.c_types.proofs.program_laws.typed_programs_are_sized.Goals as goal
use Rattle.c_types.proofs.Sizes.{typed_is_sized}

pub returns : goal.returns
returns c = typed_is_sized
