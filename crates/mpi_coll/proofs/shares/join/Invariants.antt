use Rattle.std.proofs.Common.{◌≡◌, take}
use Rattle.mpi_coll.specs.Results.{joined}
use Rattle.mpi_coll.proofs.shares.join.Given as goal

abbrev pub invariant-loop-words : goal.invariant-loop-words
invariant-loop-words l = l.all.items ≡ joined (take l.words-index l.given)
