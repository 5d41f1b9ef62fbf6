-- What the tables of meetings are seen as: the seat of each row, and what is kept of each instance.
use Rattle.std.specs.Prelude.{◌≡◌, ℕ, ◌<◌, List, [], length, slice_index_or, slice_set, map, Option, None}
use Rattle.std.specs.List.{Contains}
use Rattle.hls_sync.specs.declared.visits.HlsRow.{HlsRow}
use Rattle.hls_sync.specs.declared.seats.Seat.{Seat}
use Rattle.hls_sync.specs.Turnouts.{Turnout, once_more, advanced}

pub record Syncs : Type 0 where
  pub seats : List Seat
  pub instances : List Turnout

abbrev pub no_seat : Seat
no_seat = record { row = record { construct = 0; task = 0; inst = 0 }; came = 0; place = 0 }

abbrev pub no_turnout : Turnout
no_turnout = record { counts = []; running = None }

abbrev pub seat_at : Syncs → ℕ → Seat
seat_at v k = slice_index_or v.seats k no_seat

abbrev pub turnout_at : Syncs → ℕ → Turnout
turnout_at v p = slice_index_or v.instances p no_turnout

-- what is kept of the instance of a seat
abbrev pub turnout_of : Syncs → ℕ → Turnout
turnout_of v k = turnout_at v (seat_at v k).place

-- the rows that were given
abbrev pub rows_of : Syncs → List HlsRow
rows_of v = map (λ (s : Seat). s.row) v.seats

-- the row of a task in an instance was given
abbrev pub IsGiven : Syncs → ℕ → ℕ → ℕ → Type 0
IsGiven v construct inst task = Contains (rows_of v) (record { construct = construct; task = task; inst = inst })

-- the seat is that of this row
pub record IsSeat (v : Syncs) (k construct inst task : ℕ) : Type 0 where
  pub within : k < length v.seats
  pub row : (seat_at v k).row ≡ record { construct = construct; task = task; inst = inst }

-- the task of a seat comes once more
abbrev pub arrived : Syncs → ℕ → Syncs
arrived v k = record {
  seats = slice_set v.seats k (record (seat_at v k) { came = once_more (seat_at v k).came });
  instances = slice_set v.instances (seat_at v k).place
      (record (turnout_of v k) { counts = advanced (turnout_of v k).counts (seat_at v k).came });
}

-- another task, or none, runs the block in an instance
abbrev pub with_running : Syncs → ℕ → Option ℕ → Syncs
with_running v p running = record v { instances = slice_set v.instances p (record (turnout_at v p) { running = running }) }
