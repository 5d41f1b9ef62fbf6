-- The numbers that the communicators of a split get (MPI 3.1, section 6.4.2).
use Rattle.std.specs.Prelude.{◌≡◌, ℕ, ℤ, ◌+◌, ◌==◌, ◌&&◌, Bool, false, List, map, zip, position, Option, Some, None}
use Rattle.std.specs.List.{list_any}
use Rattle.mpi_comm.specs.declared.communicators.Communicator.{Communicator}
use Rattle.mpi_comm.specs.Splitting.{Chosen}

-- what the members ask, from their colours and keys in rank order
abbrev pub chosen_of : List ℤ → List ℤ → List Chosen
chosen_of colours keys = map (λ (c : ℤ × ℤ). record { colour = c.0; key = c.1 }) (zip colours keys)

-- the number of a group by its place, where the first has the number `first`; 0, MPI_COMM_NULL, for none
abbrev pub number_from : ℕ → Option ℕ → ℕ
number_from first None = 0
number_from first (Some index) = first + index

-- the number of the group that has the task
abbrev pub number_in : ℕ → List (List ℕ) → ℕ → ℕ
number_in first groups task = number_from first (position (λ group. list_any (λ member. member == task) group) groups)

-- the number of each member's group, in rank order
abbrev pub numbers_in : ℕ → List (List ℕ) → List ℕ → List ℕ
numbers_in first groups members = map (number_in first groups) members

-- the communicator was made by this meeting of this parent
abbrev pub is_made_by : ℕ → ℕ → Communicator → Bool
is_made_by parent meeting comm = comm.parent == parent && comm.meeting == meeting

-- no communicator was made by this meeting yet
abbrev pub NoneMadeBy : List Communicator → ℕ → ℕ → Type 0
NoneMadeBy comms parent meeting = list_any (is_made_by parent meeting) comms ≡ false
