use Rattle.object_heap.proofs.Copies.{one_of_all}
use Rattle.object_heap.proofs.laws.copies_are_one_by_one.Goals as goal

pub returns : goal.returns
returns c = one_of_all
