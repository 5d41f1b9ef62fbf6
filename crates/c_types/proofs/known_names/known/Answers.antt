use Rattle.std.proofs.Common.{refl}
use Rattle.c_types.proofs.Known.{function_known, other_known}
use Rattle.c_types.proofs.known_names.known.Goals as goal

pub returns-in-Some : goal.returns-in-Some
returns-in-Some c = function_known _ _ c.in-Some.ensures.value

pub returns-in-None : goal.returns-in-None
returns-in-None c = other_known _ _ _ refl c.in-None.ensures.value c.listed.ensures
