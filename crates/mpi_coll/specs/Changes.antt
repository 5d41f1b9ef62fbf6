-- How a meeting changes the communicators (MPI 3.1, section 6.4).
use Rattle.std.specs.Prelude.{ℕ, List, map}
use Rattle.mpc_values.specs.declared.collectives.CollKind.{CollKind}
use Rattle.mpc_values.specs.declared.collectives.CollKind.TheVariants.{Dup, Split, Free}
use Rattle.mpi_comm.specs.declared.communicators.Communicator.{Communicator}
use Rattle.mpi_comm.specs.Splitting.{Chosen}
use Rattle.mpi_comm.specs.Making.{with_dup, with_split, freed}
use Rattle.mpi_coll.specs.declared.arrivals.Arrival.{Arrival}

-- what the members of a split ask
abbrev pub chosen_in : List Arrival → List Chosen
chosen_in meeting = map (λ (a : Arrival). record { colour = a.coll.colour; key = a.coll.key }) meeting

-- The communicators after the meeting of a number at a communicator, where all members have arrived: Dup makes one more,
-- Split one for each colour, and Free ends the communicator. The arrivals of the meeting are in rank order.
abbrev pub comms_after : CollKind → List Communicator → ℕ → ℕ → List ℕ → List Arrival → List Communicator
comms_after Dup comms comm number members meeting = with_dup comms comm number members
comms_after Split comms comm number members meeting = with_split comms comm number members (chosen_in meeting)
comms_after Free comms comm number members meeting = freed comms comm
comms_after what comms comm number members meeting = comms
