use Rattle.serial_memory.specs.Memory.{key_of}
use Rattle.serial_memory.proofs.Memories.{get-insert_same, get-insert_other, get-remove_same, get-remove_other}
use Rattle.serial_memory.proofs.each_object_has_its_words.Goals as goal

pub returns-clause-given : goal.returns-clause-given
returns-clause-given c = λ m owner obj object. get-insert_same m (key_of owner obj) object

pub returns-clause-given_others : goal.returns-clause-given_others
returns-clause-given_others c =
    λ m owner other obj another object different. get-insert_other m (key_of owner obj) (key_of other another) object different

pub returns-clause-ended : goal.returns-clause-ended
returns-clause-ended c = λ m owner obj. get-remove_same m (key_of owner obj)

pub returns-clause-ended_others : goal.returns-clause-ended_others
returns-clause-ended_others c =
    λ m owner other obj another different. get-remove_other m (key_of owner obj) (key_of other another) different
