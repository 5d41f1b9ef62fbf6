use Rattle.std.proofs.Common.{◌≡◌, ◌++◌, drop}
use Rattle.mpi_coll.specs.Results.{folded_two}
use Rattle.mpi_coll.proofs.reducing.fold_two.Given as goal

abbrev pub invariant-loop-place : goal.invariant-loop-place
invariant-loop-place l = l.all.items ++ folded_two l.op l.kind (drop l.place l.a) (drop l.place l.b) ≡ folded_two l.op l.kind l.a l.b
