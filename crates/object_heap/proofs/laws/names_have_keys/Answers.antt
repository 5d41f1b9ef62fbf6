use Rattle.object_heap.proofs.Names.{first_key, no_key}
use Rattle.object_heap.proofs.Heaps.{object_named, mark_named, words_named, length_span}
use Rattle.object_heap.proofs.laws.names_have_keys.Goals as goal

pub returns-clause-key : goal.returns-clause-key
returns-clause-key c = λ h key owner obj sound named. first_key h.rows key owner obj sound.named named

pub returns-clause-none : goal.returns-clause-none
returns-clause-none c = λ h owner obj none. no_key h.rows owner obj none

pub returns-clause-object : goal.returns-clause-object
returns-clause-object c = λ h key owner obj sound named. object_named h key owner obj sound.named named

pub returns-clause-mark : goal.returns-clause-mark
returns-clause-mark c = λ h key p owner obj sound named. mark_named h key p owner obj sound.named named

pub returns-clause-words : goal.returns-clause-words
returns-clause-words c = λ h span owner obj sound good. words_named h span owner obj sound.named good

pub returns-clause-length : goal.returns-clause-length
returns-clause-length c = λ h span owner obj good. length_span h span good.places
