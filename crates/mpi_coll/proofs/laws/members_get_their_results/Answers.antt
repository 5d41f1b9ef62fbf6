use Rattle.std.specs.Prelude.{refl}
use Rattle.std.specs.Int.{int_wrap}
use Rattle.mpi_coll.proofs.laws.members_get_their_results.Goals as goal

pub returns-clause-bcast : goal.returns-clause-bcast
unfolding int_wrap
returns-clause-bcast c = refl

pub returns-clause-reduce : goal.returns-clause-reduce
unfolding int_wrap
returns-clause-reduce c = refl

pub returns-clause-allreduce : goal.returns-clause-allreduce
unfolding int_wrap
returns-clause-allreduce c = refl

pub returns-clause-scan : goal.returns-clause-scan
unfolding int_wrap
returns-clause-scan c = refl

pub returns-clause-exscan : goal.returns-clause-exscan
unfolding int_wrap
returns-clause-exscan c = refl

pub returns-clause-gather : goal.returns-clause-gather
unfolding int_wrap
returns-clause-gather c = refl

pub returns-clause-allgather : goal.returns-clause-allgather
unfolding int_wrap
returns-clause-allgather c = refl

pub returns-clause-scatter : goal.returns-clause-scatter
unfolding int_wrap
returns-clause-scatter c = refl

pub returns-clause-alltoall : goal.returns-clause-alltoall
unfolding int_wrap
returns-clause-alltoall c = refl

pub returns-clause-barrier : goal.returns-clause-barrier
unfolding int_wrap
returns-clause-barrier c = refl
