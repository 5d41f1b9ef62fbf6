use Rattle.mem_space.proofs.Staying.{marked_kept, marked_others}
use Rattle.mem_space.proofs.laws.messages_keep_their_marks.Goals as goal

pub returns-clause-kept : goal.returns-clause-kept
returns-clause-kept c = marked_kept

pub returns-clause-others : goal.returns-clause-others
returns-clause-others c = marked_others
