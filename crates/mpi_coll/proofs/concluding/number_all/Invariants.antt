use Rattle.mpi_coll.proofs.Numbered.{Numbered}
use Rattle.mpi_coll.proofs.concluding.number_all.Given as goal

abbrev pub invariant-loop-rank : goal.invariant-loop-rank
invariant-loop-rank l = Numbered l.numbers l.members l.rank l.all.items
