use Rattle.c_types.proofs.Applied.{applied_made}
use Rattle.c_types.proofs.call_nodes.applied.Goals as goal

pub returns-in-Ok-clause-made : goal.returns-in-Ok-clause-made
returns-in-Ok-clause-made c = applied_made _ _ c.in-Ok.arguments c.in-Ok.ensures.made
