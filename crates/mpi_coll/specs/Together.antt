-- How the tables of all communicators stand for the communicators and the arrivals so far.
use Rattle.std.specs.Prelude.{◌≡◌, ℕ, ◌<◌, ◌≤◌, Bool, true, false, if◌then◌else◌, List, [], length, slice_index_or, Option, Some, None}
use Rattle.mpc_values.specs.declared.values.Word.{Word}
use Rattle.mpc_values.specs.declared.collectives.Coll.{Coll}
use Rattle.mpc_values.specs.declared.collectives.CollKind.{CollKind}
use Rattle.mpc_values.specs.declared.collectives.CollKind.TheVariants.{Dup, Split}
use Rattle.mpi_comm.specs.declared.communicators.Communicator.{Communicator}
use Rattle.mpi_comm.specs.declared.communicators.Seen.{Seen}
use Rattle.mpi_comm.specs.Communicators.{comm_at}
use Rattle.mpi_comm.specs.Making.{new_comm}
use Rattle.mpi_comm.specs.Numbers.{NoneMadeBy}
use Rattle.mpi_comm.specs.Seen.{seen_all}
use Rattle.mpi_coll.specs.declared.arrivals.Arrival.{Arrival}
use Rattle.mpi_coll.specs.Meetings.{meeting_of, is_full}
use Rattle.mpi_coll.specs.Changes.{comms_after}
use Rattle.mpi_coll.specs.Rooms.{Tables, size_in}
use Rattle.mpi_coll.specs.Shown.{next_arrival, with_next, with_leave, Shows}
use Rattle.mpi_coll.specs.Kept.{room_at}

-- the calls that make communicators
abbrev pub makes_comms : CollKind → Bool
makes_comms Dup = true
makes_comms Split = true
makes_comms what = false

-- the tasks of a communicator by rank
abbrev pub members_in : Option Communicator → List ℕ
members_in None = []
members_in (Some comm) = comm.members

-- the tasks of the communicator of a number, living or freed
abbrev pub members_of : List Communicator → ℕ → List ℕ
members_of comms comm = members_in (comm_at comms comm)

-- the number of the new communicator that a member has from a meeting, by meeting and rank
abbrev pub new_numbers : List Communicator → ℕ → ℕ → ℕ → ℕ
new_numbers comms comm meeting rank = new_comm comms (slice_index_or (members_of comms comm) rank 0) comm meeting

-- The tables of all communicators stand for the communicators and the arrivals so far. A communicator without tables has
-- had no arrivals. Its meetings that are not full have made no communicator.
pub record ShowsAll (rooms : List Tables) (comms : List Communicator) (arrivals : List Arrival) : Type 0 where
  pub each : (comm : ℕ) → Shows (new_numbers comms comm) (room_at rooms comm) arrivals comm
  pub size : (comm : ℕ) → 0 < size_in (room_at rooms comm) → size_in (room_at rooms comm) ≡ length (members_of comms comm)
  pub closed : (comm : ℕ) → size_in (room_at rooms comm) ≡ 0 → (room_at rooms comm).full ≡ 0
  pub unmade : (comm meeting : ℕ) → 0 < comm → (room_at rooms comm).full ≤ meeting → NoneMadeBy comms comm meeting

-- The communicators after an arrival of a member of this group: they change where it fills its meeting.
abbrev pub comms_behind : List Communicator → List ℕ → List Arrival → Arrival → List Communicator
comms_behind comms members arrivals a =
    if is_full arrivals a.comm (length members) a.meeting
    then comms_after a.coll.what comms a.comm a.meeting members (meeting_of arrivals a.comm (length members) a.meeting)
    else comms

-- the same with the member's arrival at its next meeting
abbrev pub comms_next : List Communicator → List Arrival → ℕ → ℕ → Coll → List Word → List Communicator
comms_next comms arrivals comm rank coll words =
    comms_behind comms (members_of comms comm) (with_next arrivals comm rank coll words) (next_arrival arrivals comm rank coll words)

-- The tables of a communicator stand for the same arrivals as before.
pub record Remains (old new : Tables) : Type 0 where
  pub shows : (numbers : ℕ → ℕ → ℕ) (arrivals : List Arrival) (comm : ℕ) → Shows numbers old arrivals comm → Shows numbers new arrivals comm
  pub size : size_in new ≡ size_in old
  pub full : new.full ≡ old.full

-- the tables of a communicator have no members yet, or these
abbrev pub FitsSize : Tables → ℕ → Type 0
FitsSize t members = 0 < size_in t → size_in t ≡ members

-- What an arrival leaves: the tables and the communicators stand for the arrivals with the member's next one.
pub record Arrives (old new : List Tables) (seen changed : List Seen) (comm rank : ℕ) (coll : Coll) (words : List Word) : Type 0 where
  pub shows : (comms : List Communicator) (arrivals : List Arrival) → ShowsAll old comms arrivals → seen_all comms ≡ seen →
      ShowsAll new (comms_next comms arrivals comm rank coll words) (with_next arrivals comm rank coll words)
  pub changes : (comms : List Communicator) (arrivals : List Arrival) → ShowsAll old comms arrivals → seen_all comms ≡ seen →
      seen_all (comms_next comms arrivals comm rank coll words) ≡ changed

-- What a leave leaves: the tables stand for the arrivals with those of the member marked.
abbrev pub Leaves : List Tables → List Tables → ℕ → ℕ → Type 0
Leaves old new comm rank = (comms : List Communicator) (arrivals : List Arrival) → ShowsAll old comms arrivals →
    ShowsAll new comms (with_leave arrivals comm rank)

-- The tables stand for what they stood for.
abbrev pub Stays : List Tables → List Tables → List Seen → Type 0
Stays old new seen = (comms : List Communicator) (arrivals : List Arrival) → ShowsAll old comms arrivals → seen_all comms ≡ seen → ShowsAll new comms arrivals
