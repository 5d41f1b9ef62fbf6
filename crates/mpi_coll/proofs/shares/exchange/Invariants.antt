use Rattle.std.proofs.Common.{◌≡◌, map}
use Rattle.std.specs.List.{range_with_len}
use Rattle.mpi_coll.specs.Results.{part_of, joined}
use Rattle.mpi_coll.proofs.shares.exchange.Given as goal

abbrev pub invariant-loop-rank : goal.invariant-loop-rank
invariant-loop-rank l = l.all.items ≡ map (λ rank. joined (map (part_of rank l.count) l.given)) (range_with_len 0 l.rank)
