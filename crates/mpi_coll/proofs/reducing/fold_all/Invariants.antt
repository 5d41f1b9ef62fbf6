use Rattle.std.proofs.Common.{◌≡◌, fold, take}
use Rattle.mpi_coll.specs.Results.{folded_two}
use Rattle.mpi_coll.proofs.reducing.fold_all.Given as goal

abbrev pub invariant-loop-next : goal.invariant-loop-next
invariant-loop-next l = l.all ≡ fold (folded_two l.op l.kind) l.initial.all (take l.next-index l.more)
