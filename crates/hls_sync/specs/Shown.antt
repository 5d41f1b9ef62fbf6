-- Which arrivals and exits the tables of meetings stand for.
use Rattle.std.specs.Prelude.{◌≡◌, ◌≢◌, ℕ, ◌+◌, ◌<◌, ◌==◌, ◌&&◌, Bool, true, false, if◌then◌else◌, List, length, map, Option, Some, None}
use Rattle.std.specs.List.{AllPairs, Contains, count_by, range_with_len}
use Rattle.c_tree.specs.declared.program.HlsKind.{HlsKind}
use Rattle.c_tree.specs.declared.program.HlsKind.TheVariants.{Single}
use Rattle.mpc_values.specs.declared.limits.TheConstants.{MAX_GIVEN}
use Rattle.hls_sync.specs.declared.visits.HlsRow.{HlsRow}
use Rattle.hls_sync.specs.declared.visits.Visit.{Visit}
use Rattle.hls_sync.specs.declared.seats.Seat.{Seat}
use Rattle.hls_sync.specs.Meetings.{Site, are_together, instance_size, visits_of, tasks_at, all_came}
use Rattle.hls_sync.specs.Ways.{runner_of, has_exit, with_visit, running_visit, with_exit}
use Rattle.hls_sync.specs.Turnouts.{Turnout, reached}
use Rattle.hls_sync.specs.Syncs.{Syncs, seat_at, turnout_at, rows_of}

-- no two rows have the same construct and task
abbrev pub IsApart : List HlsRow → Type 0
IsApart rows = AllPairs (λ a b. a.construct ≡ b.construct → a.task ≢ b.task) rows

-- it is of the same construct and instance as the row
abbrev pub is_mate : HlsRow → HlsRow → Bool
is_mate row other = other.construct == row.construct && other.inst == row.inst

-- The tasks meet at the construct as the rows say: a task is in the instance of its row, and the tasks of the instance are
-- those of its rows.
pub record IsSiteOf (rows : List HlsRow) (site : Site) : Type 0 where
  pub instances : (row : HlsRow) → Contains rows row → row.construct ≡ site.construct → site.instance_of row.task ≡ row.inst
  pub sizes : (row : HlsRow) → Contains rows row → row.construct ≡ site.construct → instance_size site row.task ≡ count_by (is_mate row) rows

-- the arrival of a task at the meeting of a number
abbrev pub visit_at : ℕ → ℕ → ℕ → Visit
visit_at construct task meeting = record { construct = construct; task = task; meeting = meeting }

-- the running task, as long as it has not left the meeting
abbrev pub unended : List Visit → ℕ → ℕ → Option ℕ → Option ℕ
unended exits construct meeting None = None
unended exits construct meeting (Some runner) = if has_exit exits construct runner meeting then None else Some runner

-- Who runs the block of a single in the instance of a task: nobody before the first meeting at which all have come, and
-- else the running task of the latest one, until it leaves. No exit is from a meeting that is not whole.
pub record ShowsRunning (running : Option ℕ) (site : Site) (visits exits : List Visit) (task : ℕ) : Type 0 where
  pub none : all_came site visits task 0 ≡ false → running ≡ None
  pub latest : (m : ℕ) → all_came site visits task m ≡ true → all_came site visits task (m + 1) ≡ false
      → running ≡ unended exits site.construct m (runner_of site visits task m)
  pub ended : (other m : ℕ) → are_together site task other ≡ true → has_exit exits site.construct other m ≡ true → all_came site visits task m ≡ true

-- A seat and its instance stand for these arrivals and exits: the task has come to the meetings from 0 on, and so many of
-- its instance have come to each meeting.
pub record ShowsSeat (t : Turnout) (s : Seat) (site : Site) (visits exits : List Visit) : Type 0 where
  pub instance : site.instance_of s.row.task ≡ s.row.inst
  pub size : instance_size site s.row.task ≡ length t.counts
  pub came : visits_of visits site.construct s.row.task ≡ map (visit_at site.construct s.row.task) (range_with_len 0 s.came)
  pub comers : (m : ℕ) → length (tasks_at site visits s.row.task m) ≡ reached t.counts m
  pub running : site.kind ≡ Single → ShowsRunning t.running site visits exits s.row.task

-- The tables stand for these arrivals and exits at the construct of the site.
pub record Shows (v : Syncs) (site : Site) (visits exits : List Visit) : Type 0 where
  pub seats : (k : ℕ) → k < length v.seats → (seat_at v k).row.construct ≡ site.construct
      → ShowsSeat (turnout_at v (seat_at v k).place) (seat_at v k) site visits exits

-- A task arrives at a construct of this kind, and nothing else changes. Before it there were fewer than 4,294,967,000
-- arrivals.
pub record Arrives (old new : Syncs) (kind : HlsKind) (construct task : ℕ) : Type 0 where
  pub here : (site : Site) (visits exits : List Visit) → site.kind ≡ kind → site.construct ≡ construct → length visits < MAX_GIVEN
      → Shows old site visits exits → Shows new site (with_visit visits construct task) exits
  pub others : (site : Site) (visits exits : List Visit) → site.construct ≢ construct
      → Shows old site visits exits → Shows new site (with_visit visits construct task) exits
  pub rows : rows_of new ≡ rows_of old

-- A task ends the latest meeting at the construct that it runs and has not ended, and nothing else changes.
pub record Leaves (old new : Syncs) (construct task : ℕ) : Type 0 where
  pub here : (site : Site) (visits exits : List Visit) → site.construct ≡ construct
      → Shows old site visits exits → Shows new site visits (with_exit exits (running_visit site visits exits task))
  pub others : (site left : Site) (visits exits : List Visit) → site.construct ≢ construct → left.construct ≡ construct
      → Shows old site visits exits → Shows new site visits (with_exit exits (running_visit left visits exits task))
  pub rows : rows_of new ≡ rows_of old
