use Rattle.std.proofs.Common.{◌≡◌}
use Rattle.mpi_coll.specs.Shares.{handed}
use Rattle.mpi_coll.proofs.shares.hand_out.Given as goal

abbrev pub invariant-loop-rank : goal.invariant-loop-rank
invariant-loop-rank l = l.all.items ≡ handed l.words l.takers l.rank
