use Rattle.object_heap.proofs.Heaps.{shows_given, shows_ended}
use Rattle.object_heap.proofs.laws.heaps_show_memories.Goals as goal

pub returns-clause-given : goal.returns-clause-given
returns-clause-given c = shows_given

pub returns-clause-ended : goal.returns-clause-ended
returns-clause-ended c = shows_ended
