-- What the last arrival of a meeting gives each member, and how it changes the communicators that are kept (MPI 3.1,
-- section 6.4). The first call of the meeting, and what all have asked and given, are by rank.
use Rattle.std.specs.Prelude.{ℕ, ◌+◌, if◌then◌else◌, List, map, length, slice_get, slice_index_or, Option, Some, None}
use Rattle.std.specs.List.{range_with_len}
use Rattle.mpc_values.specs.declared.values.Word.{Word}
use Rattle.mpc_values.specs.declared.collectives.Coll.{Coll}
use Rattle.mpc_values.specs.declared.collectives.CollKind.{CollKind}
use Rattle.mpc_values.specs.declared.collectives.CollKind.TheVariants.{Dup, Split, Free}
use Rattle.mpi_comm.specs.declared.communicators.Seen.{Seen}
use Rattle.mpi_comm.specs.Splitting.{Chosen, groups_of}
use Rattle.mpi_comm.specs.Numbers.{number_in}
use Rattle.mpi_comm.specs.Seen.{members_at, duplicated, split_up, ended}
use Rattle.mpi_coll.specs.declared.concluding.Numbers.{Numbers}
use Rattle.mpi_coll.specs.declared.concluding.Numbers.TheVariants.{Same, Each}
use Rattle.mpi_coll.specs.Results.{Given, result_of}
use Rattle.mpi_coll.specs.Rooms.{Gathered, Tables, size_in, is_last, entered, filled}
use Rattle.mpi_coll.specs.Shown.{outcome_in}

-- what the members of a split ask
abbrev pub chosen_by : List Coll → List Chosen
chosen_by asked = map (λ (c : Coll). record { colour = c.colour; key = c.key }) asked

-- the communicators that are kept after the meeting
abbrev pub seen_after : CollKind → List Seen → ℕ → List Coll → List Seen
seen_after Dup seen comm asked = duplicated seen (members_at seen comm)
seen_after Split seen comm asked = split_up seen (members_at seen comm) (chosen_by asked)
seen_after Free seen comm asked = ended seen comm
seen_after what seen comm asked = seen

-- the number of the new communicator of the member of a rank
abbrev pub number_to : CollKind → List Seen → ℕ → List Coll → ℕ → ℕ
number_to Dup seen comm asked rank = length seen + 1
number_to Split seen comm asked rank =
    number_in (length seen + 1) (groups_of (members_at seen comm) (chosen_by asked)) (slice_index_or (members_at seen comm) rank 0)
number_to what seen comm asked rank = 0

-- what the member of a rank gets
abbrev pub outcome_to : Coll → List Seen → ℕ → List Coll → Given → ℕ → List Word
outcome_to coll seen comm asked given rank = outcome_in coll.what (number_to coll.what seen comm asked rank) (result_of coll rank given)

-- the same of each of so many members
abbrev pub outcomes_to : Coll → List Seen → ℕ → List Coll → Given → ℕ → List (List Word)
outcomes_to coll seen comm asked given members = map (outcome_to coll seen comm asked given) (range_with_len 0 members)

-- the number for the member of a rank
abbrev pub number_for : Numbers → ℕ → ℕ
number_for (Same number) rank = number
number_for (Each numbers) rank = slice_index_or numbers.items rank 0

-- the tables after the arrival that fills the first meeting, where there is one
abbrev pub concluded : Tables → ℕ → Coll → List Seen → ℕ → Option Gathered → Tables
concluded p rank coll seen comm None = p
concluded p rank coll seen comm (Some g) = filled p rank (outcomes_to coll seen comm g.asked g.given (size_in p))

-- the tables after an arrival that was written down
unfoldable pub arrived_in : Tables → ℕ → Coll → List Seen → ℕ → Tables
arrived_in p rank coll seen comm = if is_last p rank then concluded p rank coll seen comm (slice_get p.waiting 0) else entered p rank

-- the communicators that are kept after that, where there is such a meeting
abbrev pub seen_concluded : CollKind → List Seen → ℕ → Option Gathered → List Seen
seen_concluded what seen comm None = seen
seen_concluded what seen comm (Some g) = seen_after what seen comm g.asked

-- the communicators that are kept after an arrival that was written down
unfoldable pub seen_arrived : Tables → ℕ → Coll → List Seen → ℕ → List Seen
seen_arrived p rank coll seen comm = if is_last p rank then seen_concluded coll.what seen comm (slice_get p.waiting 0) else seen
