use Rattle.memory_model.proofs.Maps.{same_memory, ordered_with, ordered_without}
use Rattle.memory_model.proofs.Accesses.{order_stays}
use Rattle.memory_model.proofs.laws.equal_memories_read_alike.Goals as goal

pub returns-clause-equal : goal.returns-clause-equal
returns-clause-equal c = same_memory

pub returns-clause-given : goal.returns-clause-given
returns-clause-given c = ordered_with

pub returns-clause-ended : goal.returns-clause-ended
returns-clause-ended c = ordered_without

pub returns-clause-accessed : goal.returns-clause-accessed
returns-clause-accessed c = order_stays
