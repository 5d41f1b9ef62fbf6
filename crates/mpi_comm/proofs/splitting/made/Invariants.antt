use Rattle.std.proofs.Common.{◌≡◌, map, take}
use Rattle.mpi_comm.specs.Seen.{made_of}
use Rattle.mpi_comm.specs.Asked.{tasks_at}
use Rattle.mpi_comm.proofs.splitting.made.Given as goal

abbrev pub invariant-loop-colour : goal.invariant-loop-colour
invariant-loop-colour l = l.made.items ≡ map (λ colour. made_of (tasks_at l.asked colour)) (take l.colour-index l.colours)
