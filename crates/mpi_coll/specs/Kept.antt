-- What is kept of the meetings of all communicators, by number.
use Rattle.std.specs.Prelude.{ℕ, ◌==◌, ◌&&◌, nat_lt, Bool, if◌then◌else◌, List, slice_index_or, Result, Ok, Err}
use Rattle.mpc_values.specs.declared.collectives.Coll.{Coll}
use Rattle.mpc_values.specs.declared.faults.Fault.{Fault}
use Rattle.mpc_values.specs.declared.faults.Fault.TheVariants.{CollMismatch}
use Rattle.mpi_coll.specs.Rooms.{Tables, begun, size_in, differs_in, is_due}

-- the tables of a communicator; before its first meeting it has no members there
abbrev pub room_at : List Tables → ℕ → Tables
room_at rooms comm = slice_index_or rooms comm (begun 0)

-- a call of a member differs from those of its next meeting
abbrev pub differs_at : List Tables → ℕ → ℕ → Coll → Bool
differs_at rooms comm rank coll = nat_lt rank (size_in (room_at rooms comm)) && differs_in (room_at rooms comm) rank coll

-- a member can leave
abbrev pub is_due_at : List Tables → ℕ → ℕ → Bool
is_due_at rooms comm rank = is_due (room_at rooms comm) rank

-- the tables for so many members, where there are none yet
abbrev pub opened_as : Tables → ℕ → Tables
opened_as t members = if size_in t == 0 then begun members else t

-- what an arrival is answered, by whether it differs
abbrev pub answer_of : Bool → Result Unit Fault
answer_of different = if different then Err CollMismatch else Ok tt
