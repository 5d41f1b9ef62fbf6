use Rattle.mpi_comm.proofs.Groups.{few_at}
use Rattle.mpi_comm.proofs.splitting.made.Goals as goal

pub of-requires : goal.of-requires
of-requires c = record { few = few_at _ _ _ c.in_ok-tasks_of.ensures c.requires.few }
