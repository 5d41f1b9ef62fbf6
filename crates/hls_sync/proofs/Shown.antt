-- What the tables stand for, before and after each call.
use Rattle.std.proofs.Common.{◌≡◌, ◌≢◌, ℕ, ◌+◌, ◌-◌, ◌<◌, Bool, true, false, cond, ◌&&◌, ◌||◌, ◌==◌, not, List, length, map, set, arith, refl, sym, ap, ◌∙◌, inl, inr}
use Rattle.std.specs.Prelude.{Option, Some, None, is_some}
use Rattle.std.specs.Option.{option_map}
use Rattle.std.specs.List.{last_or, range_with_len}
use Rattle.std.proofs.lemmas.Bool.{cases_Bool, cases_eq, eq-eqb, eqb-true, ne_eqb}
use Rattle.std.proofs.lemmas.List.FromFn.{length-map-range_with_len, map-range_with_len_more}
use Rattle.c_tree.specs.declared.program.HlsKind.TheVariants.{Single}
use Rattle.hls_sync.specs.declared.visits.Visit.{Visit}
use Rattle.hls_sync.specs.declared.seats.Seat.{Seat}
use Rattle.hls_sync.specs.Meetings.{Site, instance_size, next_visit, latest_visit, tasks_at, all_came}
use Rattle.hls_sync.specs.Ways.{way_in, way_of, has_exit, has_exit_of, has_ended, runner_in, runner_of, may_go, is_whole, may_leave_bar}
use Rattle.hls_sync.specs.Turnouts.{Turnout, reached, advanced}
use Rattle.hls_sync.specs.Syncs.{Syncs, seat_at, turnout_at, turnout_of}
use Rattle.hls_sync.specs.Shown.{visit_at, unended, ShowsSeat}
use Rattle.hls_sync.proofs.Tied.{came_once_more}
use Rattle.hls_sync.proofs.Histories.{last_push, last_is_there}

-- the number of a task's next meeting
pub next_is : (t : Turnout) (s : Seat) (site : Site) (visits exits : List Visit) → ShowsSeat t s site visits exits → next_visit visits site.construct s.row.task ≡ s.came
next_is t s site visits exits sh = ap length sh.came ∙ length-map-range_with_len (visit_at site.construct s.row.task) 0 s.came

pub way_is : (t : Turnout) (s : Seat) (site : Site) (visits exits : List Visit) → ShowsSeat t s site visits exits
    → way_of site visits s.row.task ≡ way_in site.kind (reached t.counts s.came) (length t.counts)
way_is t s site visits exits sh =
    ap (λ n. way_in site.kind (length (tasks_at site visits s.row.task n)) (instance_size site s.row.task)) (next_is t s site visits exits sh)
    ∙ (ap (λ n. way_in site.kind n (instance_size site s.row.task)) (sh.comers s.came) ∙ ap (way_in site.kind (reached t.counts s.came)) sh.size)

pub all_came_is : (t : Turnout) (s : Seat) (site : Site) (visits exits : List Visit) → ShowsSeat t s site visits exits → (m : ℕ)
    → all_came site visits s.row.task m ≡ (reached t.counts m == length t.counts)
all_came_is t s site visits exits sh m = ap (λ n. n == instance_size site s.row.task) (sh.comers m) ∙ ap (λ n. reached t.counts m == n) sh.size

-- the number of a task's latest meeting
latest_none : (t : Turnout) (s : Seat) (site : Site) (visits exits : List Visit) → ShowsSeat t s site visits exits → s.came ≡ 0 → latest_visit visits site.construct s.row.task ≡ None
latest_none t s site visits exits sh none =
    ap (λ vs. option_map (λ (v : Visit). v.meeting) (last_or None vs)) (sh.came ∙ ap (λ n. map (visit_at site.construct s.row.task) (range_with_len 0 n)) none)

latest_some : (t : Turnout) (s : Seat) (site : Site) (visits exits : List Visit) → ShowsSeat t s site visits exits → 0 < s.came → latest_visit visits site.construct s.row.task ≡ Some (s.came - 1)
latest_some t s site visits exits sh some =
    ap (λ vs. option_map (λ (v : Visit). v.meeting) (last_or None vs))
    (sh.came ∙ (ap (λ n. map (visit_at site.construct s.row.task) (range_with_len 0 n)) (let e : s.came ≡ (s.came - 1) + 1 = omega arith in e)
    ∙ map-range_with_len_more (visit_at site.construct s.row.task) 0 (s.came - 1) (s.came - 1) (omega arith)))
    ∙ ap (option_map (λ (v : Visit). v.meeting)) (last_push None (map (visit_at site.construct s.row.task) (range_with_len 0 (s.came - 1))) (visit_at site.construct s.row.task (s.came - 1)))

pub may_leave_is : (t : Turnout) (s : Seat) (site : Site) (visits exits : List Visit) → ShowsSeat t s site visits exits
    → may_leave_bar site visits s.row.task ≡ ((s.came == 0) || (reached t.counts (s.came - 1) == length t.counts))
may_leave_is t s site visits exits sh = elim (cases_eq s.came 0) [
  | inl none ↦ ap (is_whole site visits s.row.task) (latest_none t s site visits exits sh none) ∙ sym (ap (λ b. b || (reached t.counts (s.came - 1) == length t.counts)) (eq-eqb s.came 0 none))
  | inr some ↦ ap (is_whole site visits s.row.task) (latest_some t s site visits exits sh (omega arith))
      ∙ (all_came_is t s site visits exits sh (s.came - 1) ∙ sym (ap (λ b. b || (reached t.counts (s.came - 1) == length t.counts)) (ne_eqb s.came 0 some)))
]

-- a single's exit is made where nobody is left to make it
left_is : (exits : List Visit) (construct m runner : ℕ) (running : Option ℕ) → running ≡ unended exits construct m (Some runner) → has_exit exits construct runner m ≡ not (is_some running)
left_is exits construct m runner running is = by_exit (has_exit exits construct runner m) refl
  where
    by_exit : (b : Bool) → has_exit exits construct runner m ≡ b → has_exit exits construct runner m ≡ not (is_some running)
    by_exit true e = e ∙ sym (ap (λ o. not (is_some o)) (is ∙ ap (λ b. cond b None (Some runner)) e))
    by_exit false e = e ∙ sym (ap (λ o. not (is_some o)) (is ∙ ap (λ b. cond b None (Some runner)) e))

ended_is : (t : Turnout) (s : Seat) (site : Site) (visits exits : List Visit) → site.kind ≡ Single → ShowsSeat t s site visits exits → reached t.counts s.came < length t.counts → 0 < s.came
    → has_exit_of exits site.construct (s.came - 1) (runner_of site visits s.row.task (s.came - 1)) ≡ ((reached t.counts (s.came - 1) == length t.counts) && not (is_some t.running))
ended_is t s site visits exits single sh few some = elim (cases_Bool (all_came site visits s.row.task (s.came - 1))) [
  | inl whole ↦
      let full : reached t.counts (s.came - 1) ≡ length t.counts = eqb-true (reached t.counts (s.came - 1)) (length t.counts) (sym (all_came_is t s site visits exits sh (s.came - 1)) ∙ whole) in
      let last = last_is_there (tasks_at site visits s.row.task (s.came - 1)) (omega (arith, sh.comers (s.came - 1), full, few)) in
      let runs : runner_of site visits s.row.task (s.came - 1) ≡ Some last.0 = by_kind ∙ (ap (λ b. runner_in Single b (tasks_at site visits s.row.task (s.came - 1))) whole ∙ last.1) in
      let not_next : all_came site visits s.row.task ((s.came - 1) + 1) ≡ false = ap (all_came site visits s.row.task) (let e : (s.came - 1) + 1 ≡ s.came = omega arith in e)
      ∙ (all_came_is t s site visits exits sh s.came ∙ ne_eqb (reached t.counts s.came) (length t.counts) (λ e. absurd (omega (arith, e)))) in
      let is : t.running ≡ unended exits site.construct (s.came - 1) (Some last.0) = (sh.running single).latest (s.came - 1) whole not_next ∙ ap (unended exits site.construct (s.came - 1)) runs in
      ap (has_exit_of exits site.construct (s.came - 1)) runs
      ∙ (left_is exits site.construct (s.came - 1) last.0 t.running is ∙ sym (ap (λ b. b && not (is_some t.running)) (eq-eqb (reached t.counts (s.came - 1)) (length t.counts) full)))
  | inr not_whole ↦
      ap (has_exit_of exits site.construct (s.came - 1)) (by_kind ∙ ap (λ b. runner_in Single b (tasks_at site visits s.row.task (s.came - 1))) not_whole)
      ∙ sym (ap (λ b. b && not (is_some t.running)) (sym (all_came_is t s site visits exits sh (s.came - 1)) ∙ not_whole))
]
  where
    by_kind : runner_of site visits s.row.task (s.came - 1) ≡ runner_in Single (all_came site visits s.row.task (s.came - 1)) (tasks_at site visits s.row.task (s.came - 1))
    by_kind = ap (λ k. runner_in k (all_came site visits s.row.task (s.came - 1)) (tasks_at site visits s.row.task (s.came - 1))) single

pub may_go_is : (t : Turnout) (s : Seat) (site : Site) (visits exits : List Visit) → site.kind ≡ Single → ShowsSeat t s site visits exits → reached t.counts s.came < length t.counts
    → may_go site visits exits s.row.task ≡ ((s.came == 0) || ((reached t.counts (s.came - 1) == length t.counts) && not (is_some t.running)))
may_go_is t s site visits exits single sh few = elim (cases_eq s.came 0) [
  | inl none ↦ ap (has_ended site visits exits s.row.task) (latest_none t s site visits exits sh none)
      ∙ sym (ap (λ b. b || ((reached t.counts (s.came - 1) == length t.counts) && not (is_some t.running))) (eq-eqb s.came 0 none))
  | inr some ↦ ap (has_ended site visits exits s.row.task) (latest_some t s site visits exits sh (omega arith))
      ∙ (ended_is t s site visits exits single sh few (omega arith)
      ∙ sym (ap (λ b. b || ((reached t.counts (s.came - 1) == length t.counts) && not (is_some t.running))) (ne_eqb s.came 0 some)))
]

-- how the tables change where the task of a seat comes: its instance is then t
pub record Moves (old new : Syncs) (k : ℕ) (t : Turnout) : Type 0 where
  pub seats : new.seats ≡ set old.seats k (came_once_more (seat_at old k))
  pub own : turnout_at new (seat_at old k).place ≡ t
  pub counts : t.counts ≡ advanced (turnout_of old k).counts (seat_at old k).came
  pub others : (p : ℕ) → p ≢ (seat_at old k).place → turnout_at new p ≡ turnout_at old p
