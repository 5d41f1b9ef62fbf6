use Rattle.std.proofs.Common.{◌≡◌, map, take}
use Rattle.mpi_coll.specs.Results.{part_of, joined}
use Rattle.mpi_coll.proofs.shares.parts.Given as goal

abbrev pub invariant-loop-words : goal.invariant-loop-words
invariant-loop-words l = l.all.items ≡ joined (map (part_of l.rank l.count) (take l.words-index l.given))
