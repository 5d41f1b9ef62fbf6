use Rattle.c_tree.proofs.Fair as fair
use Rattle.c_tree.proofs.laws.next_laws.Goals as goal

pub returns : goal.returns
returns c = fair.next_laws
