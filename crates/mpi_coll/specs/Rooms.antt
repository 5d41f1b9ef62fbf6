-- What is kept of the meetings of one communicator.
use Rattle.std.specs.Prelude.{◌≡◌, ℕ, ◌+◌, ◌-◌, ◌<◌, ◌≤◌, ◌==◌, ◌&&◌, not, nat_lt, Bool, false, if◌then◌else◌, List, [], ◌∷◌, ◌++◌, length, map, drop, count_by, slice_get, slice_set, slice_index_or, Option, Some, None}
use Rattle.std.specs.List.{range_with_len}
use Rattle.mpc_values.specs.declared.values.Word.{Word}
use Rattle.mpc_values.specs.declared.collectives.Coll.{Coll}
use Rattle.mpi_coll.specs.Meetings.{agree}

-- A meeting that some members have not come to: what the member that came first asks, how many have come, and what each
-- of them asks and gives, by rank.
pub record Gathered : Type 0 where
  pub coll : Coll
  pub arrived : ℕ
  pub asked : List Coll
  pub given : List (List Word)

-- The meetings of a communicator: how often each member has arrived, by rank, and how often it had arrived when it left the
-- last time; how many meetings are full; what each member gets of the last of these, unless it has left; and the meetings
-- after them, in order.
pub record Tables : Type 0 where
  pub made : List ℕ
  pub gone : List ℕ
  pub full : ℕ
  pub results : List (List Word)
  pub waiting : List Gathered

-- how many members the communicator has
abbrev pub size_in : Tables → ℕ
size_in t = length t.made

-- how often the member has arrived
abbrev pub made_by : Tables → ℕ → ℕ
made_by t rank = slice_index_or t.made rank 0

-- the tables of so many members before their first meeting
abbrev pub begun : ℕ → Tables
begun members = record {
  made = map (λ rank. 0) (range_with_len 0 members);
  gone = map (λ rank. 0) (range_with_len 0 members);
  full = 0;
  results = [];
  waiting = [];
}

-- the place of the member's next meeting among those that wait
abbrev pub place_of : Tables → ℕ → ℕ
place_of t rank = made_by t rank - t.full

-- how many members have arrived more than so often
abbrev pub past : List ℕ → ℕ → ℕ
past made n = count_by (λ m. nat_lt n m) made

-- a meeting that nobody has come to
abbrev pub fresh : ℕ → Coll → Gathered
fresh members coll = record {
  coll = coll;
  arrived = 0;
  asked = map (λ rank. coll) (range_with_len 0 members);
  given = map (λ rank. []) (range_with_len 0 members);
}

-- what a member asks and gives is written down
abbrev pub put_in : Gathered → ℕ → Coll → List Word → Gathered
put_in g rank coll words = record {
  coll = if g.arrived == 0 then coll else g.coll;
  arrived = g.arrived;
  asked = slice_set g.asked rank coll;
  given = slice_set g.given rank words;
}

-- one member more has come
abbrev pub come_to : Gathered → Gathered
come_to g = record g { arrived = g.arrived + 1 }

-- a call differs from that of the member that came first, where one came
abbrev pub differs_from : Option Gathered → Coll → Bool
differs_from None coll = false
differs_from (Some g) coll = not (g.arrived == 0) && not (agree g.coll coll)

-- a call of a member differs from those of its next meeting
abbrev pub differs_in : Tables → ℕ → Coll → Bool
differs_in t rank coll = differs_from (slice_get t.waiting (place_of t rank)) coll

-- meetings that wait, with one more of so many members, where the place is the next
abbrev pub opened_at : List Gathered → ℕ → ℕ → Coll → List Gathered
opened_at waiting place members coll = if place == length waiting then waiting ++ fresh members coll ∷ [] else waiting

-- the same of the tables
abbrev pub with_place : Tables → ℕ → Coll → List Gathered
with_place t place coll = opened_at t.waiting place (size_in t) coll

-- the same with what a member asks and gives written down at a place
abbrev pub put_at : List Gathered → ℕ → ℕ → Coll → List Word → Option Gathered → List Gathered
put_at waiting place rank coll words None = waiting
put_at waiting place rank coll words (Some g) = slice_set waiting place (put_in g rank coll words)

-- The tables before an arrival is counted: all that it asks and gives is written down.
abbrev pub prepared : Tables → ℕ → Coll → List Word → Tables
prepared t rank coll words =
    let place = place_of t rank in
    let waiting = with_place t place coll in
    record t { waiting = put_at waiting place rank coll words (slice_get waiting place) }

-- all other members have come to the first meeting that waits, and it is the member's next
abbrev pub is_last_in : Option Gathered → ℕ → ℕ → Bool
is_last_in None place size = false
is_last_in (Some g) place size = place == 0 && g.arrived + 1 == size

-- the member's arrival fills its meeting
abbrev pub is_last : Tables → ℕ → Bool
is_last t rank = is_last_in (slice_get t.waiting 0) (place_of t rank) (size_in t)

-- one member more has come to the meeting of a place
abbrev pub counted_at : List Gathered → ℕ → Option Gathered → List Gathered
counted_at waiting place None = waiting
counted_at waiting place (Some g) = slice_set waiting place (come_to g)

-- the tables after an arrival that does not fill its meeting
abbrev pub entered : Tables → ℕ → Tables
entered t rank = record t {
  made = slice_set t.made rank (made_by t rank + 1);
  waiting = counted_at t.waiting (place_of t rank) (slice_get t.waiting (place_of t rank));
}

-- the tables after the arrival that fills the first meeting, with what each member gets of it
abbrev pub filled : Tables → ℕ → List (List Word) → Tables
filled t rank results = record t {
  made = slice_set t.made rank (made_by t rank + 1);
  full = t.full + 1;
  results = results;
  waiting = drop 1 t.waiting;
}

-- how often the member had arrived when it left the last time
abbrev pub gone_by : Tables → ℕ → ℕ
gone_by t rank = slice_index_or t.gone rank 0

-- the member has not left since its latest arrival, and that meeting is full
abbrev pub is_due : Tables → ℕ → Bool
is_due t rank = nat_lt (gone_by t rank) (made_by t rank) && not (nat_lt t.full (made_by t rank))

-- the tables after a leave
abbrev pub departed : Tables → ℕ → Tables
departed t rank = record t { gone = slice_set t.gone rank (made_by t rank); results = slice_set t.results rank [] }

-- What holds of a meeting that waits, by its place: it has an item for each member, and counts those that have come.
pub record IsGathered (t : Tables) (place : ℕ) (g : Gathered) : Type 0 where
  pub asked : length g.asked ≡ size_in t
  pub given : length g.given ≡ size_in t
  pub counted : g.arrived ≡ past t.made (t.full + place)

-- What holds of all tables. Some member has not come to the first meeting that waits, and none is past the last.
pub record IsWhole (t : Tables) : Type 0 where
  pub even : length t.gone ≡ length t.made
  pub low : (rank : ℕ) → rank < length t.made → t.full ≤ slice_index_or t.made rank 0
  pub high : (rank : ℕ) → slice_index_or t.made rank 0 ≤ t.full + length t.waiting
  pub left : (rank : ℕ) → slice_index_or t.gone rank 0 ≤ slice_index_or t.made rank 0
  pub each : 0 < t.full → length t.results ≡ length t.made
  pub behind : 0 < length t.made → past t.made t.full < length t.made
  pub gathered : (place : ℕ) (g : Gathered) → slice_get t.waiting place ≡ Some g → IsGathered t place g
