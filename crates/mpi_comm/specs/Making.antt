-- How communicators are made and freed (MPI 3.1, sections 6.4.2 and 6.4.3). Numbers are given in the order of making, and
-- never again: nothing is ever taken out of the list.
use Rattle.std.specs.Prelude.{ℕ, zero, suc, ◌==◌, ◌&&◌, Bool, true, false, List, [], ◌∷◌, ◌++◌, map, find, slice_set, slice_get, Option, Some, None}
use Rattle.std.specs.List.{list_any, enumerate_from}
use Rattle.mpi_comm.specs.declared.communicators.Communicator.{Communicator}
use Rattle.mpi_comm.specs.Splitting.{Chosen, groups_of}

-- a communicator that the meeting of a number of this parent makes
abbrev pub made_by : ℕ → ℕ → List ℕ → Communicator
made_by parent meeting members = record { members = members; lives = true; parent = parent; meeting = meeting }

-- MPI_Comm_dup: one more with the same members
abbrev pub with_dup : List Communicator → ℕ → ℕ → List ℕ → List Communicator
with_dup comms parent meeting members = comms ++ made_by parent meeting members ∷ []

-- MPI_Comm_split: one more for each colour
abbrev pub with_split : List Communicator → ℕ → ℕ → List ℕ → List Chosen → List Communicator
with_split comms parent meeting members chosen = comms ++ map (made_by parent meeting) (groups_of members chosen)

-- the same by position
abbrev pub freed_at : List Communicator → ℕ → Option Communicator → List Communicator
freed_at comms index None = comms
freed_at comms index (Some comm) = slice_set comms index (record comm { lives = false })

-- MPI_Comm_free: the communicator of this number is dead
abbrev pub freed : List Communicator → ℕ → List Communicator
freed comms zero = comms
freed comms (suc index) = freed_at comms index (slice_get comms index)

-- the communicator was made by this meeting, and the task is a member
abbrev pub is_new_of : ℕ → ℕ → ℕ → Communicator → Bool
is_new_of task parent meeting new = new.parent == parent && (new.meeting == meeting && list_any (λ member. member == task) new.members)

-- its number, or 0
abbrev pub number_found : Option (ℕ × Communicator) → ℕ
number_found None = 0
number_found (Some found) = found.0

-- The number of the communicator that a meeting made and that has the task as a member; 0, MPI_COMM_NULL, where there is
-- none.
abbrev pub new_comm : List Communicator → ℕ → ℕ → ℕ → ℕ
new_comm comms task parent meeting = number_found (find (λ c. is_new_of task parent meeting c.1) (enumerate_from 1 comms))
