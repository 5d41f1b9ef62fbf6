-- Communicators by their numbers, and what a task sees of one (MPI 3.1, section 6.4).
use Rattle.std.specs.Prelude.{ℕ, zero, suc, true, ◌==◌, if◌then◌else◌, List, length, slice_get, position, Option, Some, None}
use Rattle.std.specs.List.{range_with_len}
use Rattle.mpc_values.specs.declared.values.Word.{Word}
use Rattle.mpc_values.specs.declared.values.Word.TheVariants.{Undef, Int, Null, Ptr, Comm, Req}
use Rattle.mpi_comm.specs.declared.communicators.Communicator.{Communicator}
use Rattle.mpi_comm.specs.declared.communicators.View.{View}

-- MPI_COMM_WORLD, the communicator of all tasks, in which a task's rank is its number
abbrev pub comm_world : ℕ → Communicator
comm_world tasks = record { members = range_with_len 0 tasks; lives = true; parent = 0; meeting = 0 }

-- A member's view of a communicator: its number, its tasks by rank, and the member's own rank.
pub record Group : Type 0 where
  pub comm : ℕ
  pub members : List ℕ
  pub rank : ℕ

-- how many members it has
abbrev pub size_of : Group → ℕ
size_of group = length group.members

-- what a member sees without the other members' tasks
abbrev pub view_of : Group → View
view_of group = record { comm = group.comm; rank = group.rank; size = size_of group }

-- the communicator of a number, counted from 1, if one was made
abbrev pub comm_at : List Communicator → ℕ → Option Communicator
comm_at comms zero = None
comm_at comms (suc index) = slice_get comms index

-- the communicator that a word names, where one of that number was made
abbrev pub comm_named : List Communicator → Word → Option Communicator
comm_named comms (Comm number) = comm_at comms number
comm_named comms Undef = None
comm_named comms (Int z) = None
comm_named comms Null = None
comm_named comms (Ptr obj at) = None
comm_named comms (Req req) = None

-- the number in the word
abbrev pub comm_number : Word → ℕ
comm_number (Comm number) = number
comm_number word = 0

-- a member's view by its rank
abbrev pub group_at : ℕ → List ℕ → Option ℕ → Option Group
group_at number members None = None
group_at number members (Some rank) = Some (record { comm = number; members = members; rank = rank })

-- the view of a task, where it is a member
abbrev pub group_in : ℕ → ℕ → Option Communicator → Option Group
group_in task number None = None
group_in task number (Some comm) = group_at number comm.members (position (λ member. member == task) comm.members)

-- a communicator that was made, and was not freed
abbrev pub living : Option Communicator → Option Communicator
living None = None
living (Some comm) = if comm.lives then Some comm else None

-- the task's view of the communicator that a word names, living or freed, where the task is a member
abbrev pub old_group_of : List Communicator → ℕ → Word → Option Group
old_group_of comms task word = group_in task (comm_number word) (comm_named comms word)

-- the same of a living communicator
abbrev pub group_of : List Communicator → ℕ → Word → Option Group
group_of comms task word = group_in task (comm_number word) (living (comm_named comms word))
