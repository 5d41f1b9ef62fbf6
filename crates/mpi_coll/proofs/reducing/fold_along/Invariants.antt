use Rattle.std.proofs.Common.{◌≡◌, ◌∷◌, ◌+◌, fold, map, take}
use Rattle.std.specs.List.{range_with_len}
use Rattle.mpi_coll.specs.Results.{folded_two, folded}
use Rattle.mpi_coll.proofs.reducing.fold_along.Given as goal

abbrev pub invariant-loop-next : goal.invariant-loop-next
invariant-loop-next l = record {
  so_far : l.so_far ≡ fold (folded_two l.op l.kind) l.initial.so_far (take l.next-index l.more);
  all : l.all.items ≡ map (λ rank. folded l.op l.kind (take (rank + 1) (l.initial.so_far ∷ l.more))) (range_with_len 0 l.next-index);
}
