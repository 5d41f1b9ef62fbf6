use Rattle.memory_model.proofs.Maps.{read_with_same, read_with_other, read_without_same, read_without_other}
use Rattle.memory_model.proofs.laws.each_object_has_its_words.Goals as goal

pub returns-clause-given : goal.returns-clause-given
returns-clause-given c = read_with_same

pub returns-clause-given_others : goal.returns-clause-given_others
returns-clause-given_others c = read_with_other

pub returns-clause-ended : goal.returns-clause-ended
returns-clause-ended c = read_without_same

pub returns-clause-ended_others : goal.returns-clause-ended_others
returns-clause-ended_others c = read_without_other
