-- What the code keeps of communicators: of each its members by rank and whether it lives, in the order of making. So the
-- number of a communicator is its place, counted from 1 (MPI 3.1, section 6.4).
use Rattle.std.specs.Prelude.{ℕ, zero, suc, ◌==◌, ◌≤◌, ◌≢◌, true, false, if◌then◌else◌, List, [], ◌∷◌, ◌++◌, length, map, slice_get, slice_set, position, Option, Some, None, All, AllPairs}
use Rattle.mpi_comm.specs.declared.communicators.Communicator.{Communicator}
use Rattle.mpi_comm.specs.declared.communicators.Seen.{Seen}
use Rattle.mpi_comm.specs.Communicators.{Group, group_at}
use Rattle.mpi_comm.specs.Splitting.{Chosen, groups_of}

-- what is kept of a communicator: not which meeting made it
abbrev pub seen_of : Communicator → Seen
seen_of comm = record { members = comm.members; lives = comm.lives }

-- the same of each
abbrev pub seen_all : List Communicator → List Seen
seen_all comms = map seen_of comms

-- the communicator of a number, counted from 1, if one was made
abbrev pub seen_at : List Seen → ℕ → Option Seen
seen_at seen zero = None
seen_at seen (suc index) = slice_get seen index

-- a communicator that was made, and was not freed
abbrev pub alive : Option Seen → Option Seen
alive None = None
alive (Some one) = if one.lives then Some one else None

-- its tasks by rank
abbrev pub tasks_in : Option Seen → List ℕ
tasks_in None = []
tasks_in (Some one) = one.members

-- the tasks of the communicator of a number, by rank, if one was made
abbrev pub members_at : List Seen → ℕ → List ℕ
members_at seen number = tasks_in (seen_at seen number)

-- how many members it has
abbrev pub size_in : Option Seen → Option ℕ
size_in None = None
size_in (Some one) = Some (length one.members)

-- a task's rank in it, where the task is a member
abbrev pub rank_in : ℕ → Option Seen → Option ℕ
rank_in task None = None
rank_in task (Some one) = position (λ member. member == task) one.members

-- the task of a rank
abbrev pub member_in : ℕ → Option Seen → Option ℕ
member_in rank None = None
member_in rank (Some one) = slice_get one.members rank

-- the view that a task has of it, where the task is a member
abbrev pub group_seen : ℕ → ℕ → Option Seen → Option Group
group_seen task number None = None
group_seen task number (Some one) = group_at number one.members (position (λ member. member == task) one.members)

-- a communicator that is made of these members
abbrev pub made_of : List ℕ → Seen
made_of members = record { members = members; lives = true }

-- MPI_Comm_dup: one more with the same members
abbrev pub duplicated : List Seen → List ℕ → List Seen
duplicated seen members = seen ++ made_of members ∷ []

-- MPI_Comm_split: one more for each colour
abbrev pub split_up : List Seen → List ℕ → List Chosen → List Seen
split_up seen members chosen = seen ++ map made_of (groups_of members chosen)

-- the same by position
abbrev pub ended_at : List Seen → ℕ → Option Seen → List Seen
ended_at seen index None = seen
ended_at seen index (Some one) = slice_set seen index (record one { lives = false })

-- MPI_Comm_free: the communicator of this number is dead
abbrev pub ended : List Seen → ℕ → List Seen
ended seen zero = seen
ended seen (suc index) = ended_at seen index (slice_get seen index)

-- tasks by rank: at most 256, and none of them twice
pub record IsGroup (members : List ℕ) : Type 0 where
  pub few : length members ≤ 256
  pub once : AllPairs (λ a b. a ≢ b) members

-- each communicator has such members
abbrev pub AreGroups : List Seen → Type 0
AreGroups seen = All (λ (one : Seen). IsGroup one.members) seen
