-- What a task sees of a communicator by what the node keeps of it (MPI 3.1, section 6.4).
use Rattle.std.specs.Prelude.{ℕ, List, Option, Some, None}
use Rattle.mpc_values.specs.declared.values.Word.{Word}
use Rattle.mpc_values.specs.declared.values.Word.TheVariants.{Undef, Int, Null, Ptr, Comm, Req}
use Rattle.mpi_comm.specs.declared.communicators.Seen.{Seen}
use Rattle.mpi_comm.specs.declared.communicators.View.{View}
use Rattle.mpi_comm.specs.Seen.{seen_at, alive, rank_in, size_in}

-- a member's view, by its rank and by how many members there are
abbrev pub view_with : ℕ → Option ℕ → Option ℕ → Option View
view_with number None size = None
view_with number (Some rank) None = None
view_with number (Some rank) (Some size) = Some (record { comm = number; rank = rank; size = size })

-- what a task sees of the communicator that a word names, where that lives and the task is a member
abbrev pub view_seen : List Seen → ℕ → Word → Option View
view_seen comms task (Comm number) = view_with number (rank_in task (alive (seen_at comms number))) (size_in (alive (seen_at comms number)))
view_seen comms task Undef = None
view_seen comms task (Int z) = None
view_seen comms task Null = None
view_seen comms task (Ptr obj at) = None
view_seen comms task (Req req) = None
