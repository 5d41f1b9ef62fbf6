-- How the tables of a communicator stand for the arrivals so far.
use Rattle.std.specs.Prelude.{◌≡◌, ℕ, ◌+◌, ◌<◌, ◌==◌, ◌&&◌, not, nat_lt, Bool, true, false, is_some, if◌then◌else◌, List, [], ◌∷◌, ◌++◌, map, find, slice_get, slice_index_or, Option, Some, None}
use Rattle.mpc_values.specs.declared.values.Word.{Word}
use Rattle.mpc_values.specs.declared.values.Word.TheVariants.{Comm}
use Rattle.mpc_values.specs.declared.collectives.Coll.{Coll}
use Rattle.mpc_values.specs.declared.collectives.CollKind.{CollKind}
use Rattle.mpc_values.specs.declared.collectives.CollKind.TheVariants.{Dup, Split}
use Rattle.mpi_coll.specs.declared.arrivals.Arrival.{Arrival}
use Rattle.mpi_coll.specs.Meetings.{agree, is_at, next_meeting, latest_arrival, meeting_of, is_full}
use Rattle.mpi_coll.specs.Results.{result_of}
use Rattle.mpi_coll.specs.Rooms.{Gathered, Tables, size_in}

-- the arrival is the one of a member at a meeting
abbrev pub is_of : ℕ → ℕ → ℕ → Arrival → Bool
is_of comm meeting rank a = is_at comm meeting a && a.rank == rank

-- a member's arrival at a meeting
abbrev pub arrival_at : List Arrival → ℕ → ℕ → ℕ → Option Arrival
arrival_at arrivals comm meeting rank = find (is_of comm meeting rank) arrivals

-- a member's arrival at its next meeting
abbrev pub next_arrival : List Arrival → ℕ → ℕ → Coll → List Word → Arrival
next_arrival arrivals comm rank coll words = record {
  comm = comm;
  rank = rank;
  meeting = next_meeting arrivals comm rank;
  coll = coll;
  given = words;
  left = false;
}

-- the arrivals so far, with a member's at its next meeting
abbrev pub with_next : List Arrival → ℕ → ℕ → Coll → List Word → List Arrival
with_next arrivals comm rank coll words = arrivals ++ next_arrival arrivals comm rank coll words ∷ []

-- the arrival is marked as left, where it is one of the member
abbrev pub marked : ℕ → ℕ → Arrival → Arrival
marked comm rank a = if a.comm == comm && a.rank == rank then record a { left = true } else a

-- the arrivals so far, after the member has left
abbrev pub with_leave : List Arrival → ℕ → ℕ → List Arrival
with_leave arrivals comm rank = map (marked comm rank) arrivals

-- what a member gets of a call: in Dup and Split the number of its new communicator
abbrev pub outcome_in : CollKind → ℕ → List Word → List Word
outcome_in Dup number words = Comm number ∷ []
outcome_in Split number words = Comm number ∷ []
outcome_in what number words = words

-- the same of a meeting, with the number of the member's new communicator
abbrev pub gotten : List Arrival → ℕ → ℕ → ℕ → ℕ → Arrival → List Word
gotten arrivals comm size rank number a =
    outcome_in a.coll.what number (result_of a.coll rank (map (λ (b : Arrival). b.given) (meeting_of arrivals comm size a.meeting)))

-- The same of a meeting. The numbers are those of the members' new communicators, by meeting and rank.
abbrev pub outcome : (ℕ → ℕ → ℕ) → List Arrival → ℕ → ℕ → ℕ → Arrival → List Word
outcome numbers arrivals comm size rank a =
    outcome_in a.coll.what (numbers a.meeting rank)
    (result_of a.coll rank (map (λ (b : Arrival). b.given) (meeting_of arrivals comm size a.meeting)))

-- a meeting that waits has what an arrival at it asked and gave
pub record Holds (g : Gathered) (rank : ℕ) (a : Arrival) : Type 0 where
  pub agrees : agree g.coll a.coll ≡ true
  pub asked : slice_get g.asked rank ≡ Some a.coll
  pub given : slice_get g.given rank ≡ Some a.given

-- Arrivals at a communicator come in turn: a member has arrived at the meetings before its next one, and at no other, and
-- at each of them once.
pub record InTurn (arrivals : List Arrival) (comm : ℕ) : Type 0 where
  pub came : (meeting rank : ℕ) → is_some (arrival_at arrivals comm meeting rank) ≡ nat_lt meeting (next_meeting arrivals comm rank)
  pub latest : (rank : ℕ) (a : Arrival) → latest_arrival arrivals comm rank ≡ Some a → a.meeting + 1 ≡ next_meeting arrivals comm rank
  pub found : (rank : ℕ) (a : Arrival) → latest_arrival arrivals comm rank ≡ Some a → arrival_at arrivals comm a.meeting rank ≡ Some a
  pub once : (index : ℕ) (a : Arrival) → slice_get arrivals index ≡ Some a → a.comm ≡ comm → arrival_at arrivals comm a.meeting a.rank ≡ Some a

-- The tables stand for the arrivals at a communicator so far.
pub record Shows (numbers : ℕ → ℕ → ℕ) (t : Tables) (arrivals : List Arrival) (comm : ℕ) : Type 0 where
  pub turns : InTurn arrivals comm
  pub made : (rank : ℕ) → slice_index_or t.made rank 0 ≡ next_meeting arrivals comm rank
  pub held : (place rank : ℕ) (g : Gathered) (a : Arrival) → slice_get t.waiting place ≡ Some g → arrival_at arrivals comm (t.full + place) rank ≡ Some a → Holds g rank a
  pub left : (rank : ℕ) (a : Arrival) → latest_arrival arrivals comm rank ≡ Some a → a.left ≡ not (nat_lt (slice_index_or t.gone rank 0) (slice_index_or t.made rank 0))
  pub due : (rank : ℕ) (a : Arrival) → rank < size_in t → latest_arrival arrivals comm rank ≡ Some a → a.meeting + 1 ≡ t.full → a.left ≡ false
      → slice_get t.results rank ≡ Some (outcome numbers arrivals comm (size_in t) rank a)

-- a member with this latest arrival can leave
abbrev pub is_ready_at : List Arrival → ℕ → ℕ → Option Arrival → Bool
is_ready_at arrivals comm size None = false
is_ready_at arrivals comm size (Some a) = not a.left && is_full arrivals comm size a.meeting

-- the member has arrived and has not left since, and all members have arrived at the meeting of its latest arrival
abbrev pub is_ready : List Arrival → ℕ → ℕ → ℕ → Bool
is_ready arrivals comm size rank = is_ready_at arrivals comm size (latest_arrival arrivals comm rank)
