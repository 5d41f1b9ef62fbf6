-- The tables stand for one arrival more, or for one exit more.
use Rattle.std.proofs.Common.{◌≡◌, ◌≢◌, ℕ, ◌+◌, ◌-◌, ◌<◌, Bool, true, false, cond, ◌&&◌, ◌||◌, ◌==◌, not, List, [], ◌∷◌, ◌++◌, length, map, get_or, set, arith, refl, sym, ap, ◌∙◌, subst, inl, inr}
use Rattle.std.specs.Prelude.{Option, Some, is_some}
use Rattle.std.specs.List.{count_by, range_with_len}
use Rattle.std.proofs.lemmas.Bool.{cases_eq, and_from, and_left, and_right, eq-eqb, ne_eqb}
use Rattle.std.proofs.lemmas.List.{get_or-set_same, get_or-set_other, length-set, map-set, set-get_or, get_or-map}
use Rattle.std.proofs.lemmas.List.FromFn.{map-range_with_len_more}
use Rattle.std.proofs.lemmas.List.Sums.{length-filter, count_by-le-length}
use Rattle.mpc_values.specs.declared.limits.TheConstants.{MAX_GIVEN}
use Rattle.c_tree.specs.declared.program.HlsKind.{HlsKind}
use Rattle.c_tree.specs.declared.program.HlsKind.TheVariants.{Single, Nowait}
use Rattle.mpc_values.specs.declared.answers.Way.TheVariants.{Run, Skip, Hold}
use Rattle.hls_sync.specs.declared.visits.HlsRow.{HlsRow}
use Rattle.hls_sync.specs.declared.visits.Visit.{Visit}
use Rattle.hls_sync.specs.declared.seats.Seat.{Seat}
use Rattle.hls_sync.specs.Meetings.{Site, are_together, instance_size, is_visit_of, visits_of, next_visit, tasks_at}
use Rattle.hls_sync.specs.Ways.{way_in, way_of, may_go, may_leave_bar, running_visit, with_exit}
use Rattle.hls_sync.specs.Turnouts.{Turnout, reached, once_more, advanced, without_running}
use Rattle.hls_sync.specs.Syncs.{Syncs, no_seat, no_turnout, seat_at, turnout_at, turnout_of, IsSeat, arrived, with_running}
use Rattle.hls_sync.specs.Shown.{visit_at, ShowsRunning, ShowsSeat, Shows, Arrives, Leaves}
use Rattle.hls_sync.specs.Kept.{IsTied}
use Rattle.hls_sync.proofs.Counts.{reached_advanced, one_if}
use Rattle.hls_sync.proofs.Tied.{came_once_more, turnout_after, few_reached, more_before}
use Rattle.hls_sync.proofs.Histories.{visits_of_other, visits_of_own, is_at, tasks_at_other, length_tasks_at}
use Rattle.hls_sync.proofs.Running.{Comes, next, comes_at, comes_not, running_same, running_held, running_begun}
use Rattle.hls_sync.proofs.Leaving.{running_left, running_elsewhere, running_away}
use Rattle.hls_sync.proofs.Shown.{Moves, next_is, way_is, may_go_is, may_leave_is}

-- An arrival that is no concern of a seat changes nothing of it.
shows_away : (t : Turnout) (s : Seat) (site : Site) (visits exits : List Visit) (v : Visit)
    → ((m : ℕ) → is_at site s.row.task m v ≡ false) → is_visit_of site.construct s.row.task v ≡ false
    → ShowsSeat t s site visits exits → ShowsSeat t s site (visits ++ v ∷ []) exits
shows_away t s site visits exits v not_at not_of sh = record {
  instance = sh.instance;
  size = sh.size;
  came = visits_of_other visits v site.construct s.row.task not_of ∙ sh.came;
  comers = λ m. ap length (tasks_at_other site visits v s.row.task m (not_at m)) ∙ sh.comers m;
  running = λ single. running_same t.running site visits (visits ++ v ∷ []) exits s.row.task (λ m. tasks_at_other site visits v s.row.task m (not_at m)) (sh.running single);
}

-- what counts at a meeting, by its number
counts_at : (site : Site) (came task own m : ℕ) → site.instance_of own ≡ site.instance_of task → one_if (is_at site own m (visit_at site.construct task came)) ≡ one_if (m == came)
counts_at site came task own m together = elim (cases_eq m came) [
  | inl is ↦ subst (λ n. one_if (is_at site own n (visit_at site.construct task came)) ≡ one_if (n == came)) (sym is)
      (ap (λ b. one_if b) (comes_at site came task own together) ∙ sym (ap (λ b. one_if b) (eq-eqb came came refl)))
  | inr other ↦ ap (λ b. one_if b) (comes_not site came task own m other) ∙ sym (ap (λ b. one_if b) (ne_eqb m came other))
]

-- a seat of the instance to which a task comes: its own visits are given
shows_mate : (u t : Turnout) (s s' : Seat) (site : Site) (visits exits : List Visit) (came task : ℕ)
    → s'.row ≡ s.row → once_more came ≡ came + 1 → t.counts ≡ advanced u.counts came → get_or u.counts (reached u.counts came) 0 ≡ came
    → Comes site visits u.counts came task s.row.task
    → visits_of (next site visits came task) site.construct s.row.task ≡ map (visit_at site.construct s.row.task) (range_with_len 0 s'.came)
    → (site.kind ≡ Single → ShowsRunning t.running site (next site visits came task) exits s.row.task)
    → ShowsSeat u s site visits exits → ShowsSeat t s' site (next site visits came task) exits
shows_mate u t s s' site visits exits came task row few counts one c shown running sh = record {
  instance = ap (λ (r : HlsRow). site.instance_of r.task) row ∙ (sh.instance ∙ sym (ap (λ (r : HlsRow). r.inst) row));
  size = ap (λ (r : HlsRow). instance_size site r.task) row ∙ (sh.size ∙ sym (ap length counts ∙ length-set u.counts (reached u.counts came) (once_more came)));
  came = subst (λ (r : HlsRow). visits_of (next site visits came task) site.construct r.task ≡ map (visit_at site.construct r.task) (range_with_len 0 s'.came)) (sym row) shown;
  comers = λ m. ap (λ (r : HlsRow). length (tasks_at site (next site visits came task) r.task m)) row
      ∙ (length_tasks_at site visits (visit_at site.construct task came) s.row.task m
      ∙ (ap (λ n. length (tasks_at site visits s.row.task m) + n) (counts_at site came task s.row.task m c.together)
      ∙ (ap (λ n. n + one_if (m == came)) (sh.comers m)
      ∙ sym (ap (λ cs. reached cs m) counts ∙ reached_advanced u.counts came few c.few one m))));
  running = λ single. subst (λ (r : HlsRow). ShowsRunning t.running site (next site visits came task) exits r.task) (sym row) (running single);
}

own_visit : (site : Site) (came task : ℕ) → is_visit_of site.construct task (visit_at site.construct task came) ≡ true
own_visit site came task = and_from (site.construct == site.construct) (task == task) (eq-eqb site.construct site.construct refl) (eq-eqb task task refl)

other_visit : (site : Site) (came task own : ℕ) → (own ≡ task → ⊥) → is_visit_of site.construct own (visit_at site.construct task came) ≡ false
other_visit site came task own other = and_right (site.construct == site.construct) (task == own) (ne_eqb task own (λ e. other (sym e)))

-- seats of a task that comes, of one that comes with it, and of others
shows_moved : (v v2 : Syncs) → IsTied v → (k : ℕ) → k < length v.seats → get_or (turnout_of v k).counts (reached (turnout_of v k).counts (seat_at v k).came) 0 ≡ (seat_at v k).came
    → (t : Turnout) → Moves v v2 k t → once_more (seat_at v k).came ≡ (seat_at v k).came + 1
    → (site : Site) (visits exits : List Visit) → (seat_at v k).row.construct ≡ site.construct
    → ((own : ℕ) → site.kind ≡ Single → Comes site visits (turnout_of v k).counts (seat_at v k).came (seat_at v k).row.task own
    → ShowsRunning (turnout_of v k).running site visits exits own
    → ShowsRunning t.running site (next site visits (seat_at v k).came (seat_at v k).row.task) exits own)
    → Shows v site visits exits → Shows v2 site (next site visits (seat_at v k).came (seat_at v k).row.task) exits
shows_moved v v2 tied k h one t moves few site visits exits at_site run shown = record { seats = seats }
  where
    own : ShowsSeat (turnout_of v k) (seat_at v k) site visits exits
    own = shown.seats k h at_site

    comes : (s : Seat) → ShowsSeat (turnout_of v k) s site visits exits → s.row.inst ≡ (seat_at v k).row.inst → Comes site visits (turnout_of v k).counts (seat_at v k).came (seat_at v k).row.task s.row.task
    comes s sh inst = record {
      together = sh.instance ∙ (inst ∙ sym own.instance);
      size = sh.size;
      comers = sh.comers;
      few = few_reached v tied k h;
      before = more_before v tied k h;
    }

    -- the seat of the task itself
    at_own : ShowsSeat t (came_once_more (seat_at v k)) site (next site visits (seat_at v k).came (seat_at v k).row.task) exits
    at_own = shows_mate (turnout_of v k) t (seat_at v k) (came_once_more (seat_at v k)) site visits exits (seat_at v k).came (seat_at v k).row.task refl few moves.counts one (comes (seat_at v k) own refl)
        (visits_of_own visits (visit_at site.construct (seat_at v k).row.task (seat_at v k).came) site.construct (seat_at v k).row.task (own_visit site (seat_at v k).came (seat_at v k).row.task)
        ∙ (ap (λ vs. vs ++ visit_at site.construct (seat_at v k).row.task (seat_at v k).came ∷ []) own.came
        ∙ sym (ap (λ n. map (visit_at site.construct (seat_at v k).row.task) (range_with_len 0 n)) few
        ∙ map-range_with_len_more (visit_at site.construct (seat_at v k).row.task) 0 (seat_at v k).came (seat_at v k).came (omega arith))))
        (λ single. run (seat_at v k).row.task single (comes (seat_at v k) own refl) (own.running single))
        own

    -- the seat of another task
    at_other : (j : ℕ) → j < length v.seats → j ≢ k → (seat_at v j).row.construct ≡ site.construct
        → ShowsSeat (turnout_at v2 (seat_at v j).place) (seat_at v j) site (next site visits (seat_at v k).came (seat_at v k).row.task) exits
    at_other j hj other ec = elim (cases_eq (seat_at v j).place (seat_at v k).place) [
      | inl same ↦
          let sh : ShowsSeat (turnout_of v k) (seat_at v j) site visits exits = subst (λ p. ShowsSeat (turnout_at v p) (seat_at v j) site visits exits) same (shown.seats j hj ec) in
          let c : Comes site visits (turnout_of v k).counts (seat_at v k).came (seat_at v k).row.task (seat_at v j).row.task = comes (seat_at v j) sh (tied.alike j k hj h same).1 in
          subst (λ u. ShowsSeat u (seat_at v j) site (next site visits (seat_at v k).came (seat_at v k).row.task) exits) (sym (ap (turnout_at v2) same ∙ moves.own))
          (shows_mate (turnout_of v k) t (seat_at v j) (seat_at v j) site visits exits (seat_at v k).came (seat_at v k).row.task refl few moves.counts one c
          (visits_of_other visits (visit_at site.construct (seat_at v k).row.task (seat_at v k).came) site.construct (seat_at v j).row.task
          (other_visit site (seat_at v k).came (seat_at v k).row.task (seat_at v j).row.task (λ e. other (tied.apart j k hj h (ec ∙ sym at_site) e))) ∙ sh.came)
          (λ single. run (seat_at v j).row.task single c (sh.running single))
          sh)
      | inr apart ↦
          let sh : ShowsSeat (turnout_at v (seat_at v j).place) (seat_at v j) site visits exits = shown.seats j hj ec in
          let far : site.instance_of (seat_at v j).row.task ≡ site.instance_of (seat_at v k).row.task → ⊥ =
          λ e. apart (tied.same j k hj h (ec ∙ sym at_site) (sym sh.instance ∙ (e ∙ own.instance))) in
          subst (λ u. ShowsSeat u (seat_at v j) site (next site visits (seat_at v k).came (seat_at v k).row.task) exits) (sym (moves.others (seat_at v j).place apart))
          (shows_away (turnout_at v (seat_at v j).place) (seat_at v j) site visits exits (visit_at site.construct (seat_at v k).row.task (seat_at v k).came)
          (λ m. and_right (site.construct == site.construct) _ (and_right ((seat_at v k).came == m) (are_together site (seat_at v j).row.task (seat_at v k).row.task)
          (ne_eqb (site.instance_of (seat_at v j).row.task) (site.instance_of (seat_at v k).row.task) far)))
          (other_visit site (seat_at v k).came (seat_at v k).row.task (seat_at v j).row.task (λ e. far (ap site.instance_of e)))
          sh)
    ]

    seats : (j : ℕ) → j < length v2.seats → (seat_at v2 j).row.construct ≡ site.construct
        → ShowsSeat (turnout_at v2 (seat_at v2 j).place) (seat_at v2 j) site (next site visits (seat_at v k).came (seat_at v k).row.task) exits
    seats j hj ec = elim (cases_eq j k) [
      | inl is ↦
          let now : seat_at v2 j ≡ (came_once_more (seat_at v k)) = ap (seat_at v2) is ∙ (ap (λ ss. get_or ss k no_seat) moves.seats ∙ get_or-set_same v.seats k (came_once_more (seat_at v k)) no_seat h) in
          subst (λ s. ShowsSeat (turnout_at v2 s.place) s site (next site visits (seat_at v k).came (seat_at v k).row.task) exits) (sym now)
          (subst (λ u. ShowsSeat u (came_once_more (seat_at v k)) site (next site visits (seat_at v k).came (seat_at v k).row.task) exits) (sym moves.own) at_own)
      | inr other ↦
          let now : seat_at v2 j ≡ seat_at v j = ap (λ ss. get_or ss j no_seat) moves.seats ∙ get_or-set_other v.seats k j (came_once_more (seat_at v k)) no_seat other in
          subst (λ s. ShowsSeat (turnout_at v2 s.place) s site (next site visits (seat_at v k).came (seat_at v k).row.task) exits) (sym now)
          (at_other j (let e : length v2.seats ≡ length v.seats = ap length moves.seats ∙ length-set v.seats k (came_once_more (seat_at v k)) in omega (arith, e)) other
          (sym (ap (λ (s : Seat). s.row.construct) now) ∙ ec))
    ]

-- at another construct
shows_afar : (v v2 : Syncs) → IsTied v → (k : ℕ) → k < length v.seats → (t : Turnout) → Moves v v2 k t
    → (site : Site) (visits exits : List Visit) (task meeting : ℕ) → site.construct ≢ (seat_at v k).row.construct
    → Shows v site visits exits → Shows v2 site (visits ++ visit_at (seat_at v k).row.construct task meeting ∷ []) exits
shows_afar v v2 tied k h t moves site visits exits task meeting away shown = record { seats = seats }
  where
    seats : (j : ℕ) → j < length v2.seats → (seat_at v2 j).row.construct ≡ site.construct
        → ShowsSeat (turnout_at v2 (seat_at v2 j).place) (seat_at v2 j) site (visits ++ visit_at (seat_at v k).row.construct task meeting ∷ []) exits
    seats j hj ec = elim (cases_eq j k) [
      | inl is ↦
          let now : seat_at v2 j ≡ came_once_more (seat_at v k) = ap (seat_at v2) is ∙ (ap (λ ss. get_or ss k no_seat) moves.seats ∙ get_or-set_same v.seats k (came_once_more (seat_at v k)) no_seat h) in
          absurd (away (sym ec ∙ ap (λ (s : Seat). s.row.construct) now))
      | inr other ↦
          let now : seat_at v2 j ≡ seat_at v j = ap (λ ss. get_or ss j no_seat) moves.seats ∙ get_or-set_other v.seats k j (came_once_more (seat_at v k)) no_seat other in
          let short : j < length v.seats = let e : length v2.seats ≡ length v.seats = ap length moves.seats ∙ length-set v.seats k (came_once_more (seat_at v k)) in omega (arith, e) in
          let there : (seat_at v j).row.construct ≡ site.construct = sym (ap (λ (s : Seat). s.row.construct) now) ∙ ec in
          let apart : (seat_at v j).place ≢ (seat_at v k).place = λ e. away (sym there ∙ (tied.alike j k short h e).0) in
          let far : ((seat_at v k).row.construct == site.construct) ≡ false = ne_eqb (seat_at v k).row.construct site.construct (λ e. away (sym e)) in
          subst (λ s. ShowsSeat (turnout_at v2 s.place) s site (visits ++ visit_at (seat_at v k).row.construct task meeting ∷ []) exits) (sym now)
          (subst (λ u. ShowsSeat u (seat_at v j) site (visits ++ visit_at (seat_at v k).row.construct task meeting ∷ []) exits) (sym (moves.others (seat_at v j).place apart))
          (shows_away (turnout_at v (seat_at v j).place) (seat_at v j) site visits exits (visit_at (seat_at v k).row.construct task meeting)
          (λ m. and_left ((seat_at v k).row.construct == site.construct) _ far)
          (and_left ((seat_at v k).row.construct == site.construct) (task == (seat_at v j).row.task) far)
          (shown.seats j short there)))
    ]

rows_kept : (seats : List Seat) (k : ℕ) (s : Seat) → k < length seats → s.row ≡ (get_or seats k no_seat).row → map (λ (x : Seat). x.row) (set seats k s) ≡ map (λ (x : Seat). x.row) seats
rows_kept seats k s h same =
    map-set (λ (x : Seat). x.row) seats k s
    ∙ (ap (set (map (λ (x : Seat). x.row) seats) k) (same ∙ sym (get_or-map (λ (x : Seat). x.row) seats k no_seat no_seat.row h))
    ∙ set-get_or (map (λ (x : Seat). x.row) seats) k no_seat.row)

-- A task comes: what is asked beside is who runs the block of a single then.
pub arrives : (v v2 : Syncs) → IsTied v → (k construct inst task : ℕ) → IsSeat v k construct inst task
    → get_or (turnout_of v k).counts (reached (turnout_of v k).counts (seat_at v k).came) 0 ≡ (seat_at v k).came
    → (t : Turnout) → Moves v v2 k t → (kind : HlsKind)
    → ((site : Site) (visits exits : List Visit) (own : ℕ) → kind ≡ Single → site.kind ≡ Single → Comes site visits (turnout_of v k).counts (seat_at v k).came (seat_at v k).row.task own
    → ShowsRunning (turnout_of v k).running site visits exits own
    → ShowsRunning t.running site (next site visits (seat_at v k).came (seat_at v k).row.task) exits own)
    → Arrives v v2 kind construct task
arrives v v2 tied k construct inst task seat one t moves kind run = record {
  here = λ site visits exits is_kind at_site few shown.
      let own : (seat_at v k).row.construct ≡ site.construct = construct_is ∙ sym at_site in
      subst (λ vs. Shows v2 site vs exits) (ap (λ x. visits ++ x ∷ []) (same_visit site visits exits own at_site (shown.seats k seat.within own)))
      (shows_moved v v2 tied k seat.within one t moves (few_more site visits exits own few (shown.seats k seat.within own)) site visits exits own (λ o single. run site visits exits o (sym is_kind ∙ single) single) shown);
  others = λ site visits exits away shown.
      subst (λ c. Shows v2 site (visits ++ visit_at c task (next_visit visits construct task) ∷ []) exits) construct_is
      (shows_afar v v2 tied k seat.within t moves site visits exits task (next_visit visits construct task) (λ e. away (e ∙ construct_is)) shown);
  rows = ap (map (λ (x : Seat). x.row)) moves.seats ∙ rows_kept v.seats k (came_once_more (seat_at v k)) seat.within refl;
}
  where
    construct_is : (seat_at v k).row.construct ≡ construct
    construct_is = ap (λ (r : HlsRow). r.construct) seat.row

    task_is : (seat_at v k).row.task ≡ task
    task_is = ap (λ (r : HlsRow). r.task) seat.row

    few_more : (site : Site) (visits exits : List Visit) → (seat_at v k).row.construct ≡ site.construct → length visits < MAX_GIVEN → ShowsSeat (turnout_of v k) (seat_at v k) site visits exits
        → once_more (seat_at v k).came ≡ (seat_at v k).came + 1
    few_more site visits exits own few sh =
        let came : next_visit visits site.construct (seat_at v k).row.task ≡ (seat_at v k).came = next_is (turnout_of v k) (seat_at v k) site visits exits sh in
        let counted : next_visit visits site.construct (seat_at v k).row.task ≡ count_by (is_visit_of site.construct (seat_at v k).row.task) visits = length-filter (is_visit_of site.construct (seat_at v k).row.task) visits in
        omega (arith, came, counted, count_by-le-length (is_visit_of site.construct (seat_at v k).row.task) visits, few)

    same_visit : (site : Site) (visits exits : List Visit) → (seat_at v k).row.construct ≡ site.construct → site.construct ≡ construct → ShowsSeat (turnout_of v k) (seat_at v k) site visits exits
        → visit_at site.construct (seat_at v k).row.task (seat_at v k).came ≡ visit_at construct task (next_visit visits construct task)
    same_visit site visits exits own at_site sh =
        ap (λ m. visit_at site.construct (seat_at v k).row.task m) (sym (next_is (turnout_of v k) (seat_at v k) site visits exits sh))
        ∙ (ap (λ t. visit_at site.construct t (next_visit visits site.construct t)) task_is
        ∙ ap (λ c. visit_at c task (next_visit visits c task)) at_site)

pub moves_arrived : (v : Syncs) → IsTied v → (k : ℕ) → k < length v.seats → Moves v (arrived v k) k (turnout_after v k)
moves_arrived v tied k h = record {
  seats = refl;
  own = get_or-set_same v.instances (seat_at v k).place (turnout_after v k) no_turnout (tied.within k h);
  counts = refl;
  others = λ p other. get_or-set_other v.instances (seat_at v k).place p (turnout_after v k) no_turnout other;
}

pub moves_running : (v : Syncs) → IsTied v → (k : ℕ) → k < length v.seats → (running : Option ℕ)
    → Moves v (with_running (arrived v k) (seat_at v k).place running) k (record { counts = advanced (turnout_of v k).counts (seat_at v k).came; running = running })
moves_running v tied k h running =
    let first : Moves v (arrived v k) k (turnout_after v k) = moves_arrived v tied k h in
    record {
      seats = refl;
      own = get_or-set_same (arrived v k).instances (seat_at v k).place (record (turnout_at (arrived v k) (seat_at v k).place) { running = running }) no_turnout
          (omega (arith, tied.within k h, length-set v.instances (seat_at v k).place (turnout_after v k)))
          ∙ ap (λ (t : Turnout). record t { running = running }) first.own;
      counts = refl;
      others = λ q other. get_or-set_other (arrived v k).instances (seat_at v k).place q (record (turnout_at (arrived v k) (seat_at v k).place) { running = running }) no_turnout other ∙ first.others q other;
    }

-- A task leaves the block.
pub leaves : (v : Syncs) → IsTied v → (k construct inst task : ℕ) → IsSeat v k construct inst task
    → Leaves v (with_running v (seat_at v k).place (without_running (turnout_of v k).running task)) construct task
leaves v tied k construct inst task seat = record {
  here = λ site visits exits at_site shown. record { seats = λ j hj ec. at_seat site visits exits (construct_is ∙ sym at_site) shown j hj ec };
  others = λ site left visits exits away at_left shown. record { seats = λ j hj ec. afar site left visits exits (λ e. away (e ∙ construct_is)) (at_left ∙ sym construct_is) shown j hj ec };
  rows = refl;
}
  where
    construct_is : (seat_at v k).row.construct ≡ construct
    construct_is = ap (λ (r : HlsRow). r.construct) seat.row

    task_is : (seat_at v k).row.task ≡ task
    task_is = ap (λ (r : HlsRow). r.task) seat.row

    own_now : turnout_at (with_running v (seat_at v k).place (without_running (turnout_of v k).running task)) (seat_at v k).place ≡ (record (turnout_of v k) { running = without_running (turnout_of v k).running task })
    own_now = get_or-set_same v.instances (seat_at v k).place (record (turnout_of v k) { running = without_running (turnout_of v k).running task }) no_turnout (tied.within k seat.within)

    other_now : (p : ℕ) → p ≢ (seat_at v k).place → turnout_at (with_running v (seat_at v k).place (without_running (turnout_of v k).running task)) p ≡ turnout_at v p
    other_now p other = get_or-set_other v.instances (seat_at v k).place p (record (turnout_of v k) { running = without_running (turnout_of v k).running task }) no_turnout other

    -- a seat with other exits
    with_exits : (t : Turnout) (running : Option ℕ) (s : Seat) (site : Site) (visits exits exits' : List Visit) → ShowsSeat t s site visits exits
        → (site.kind ≡ Single → ShowsRunning running site visits exits' s.row.task) → ShowsSeat (record t { running = running }) s site visits exits'
    with_exits t running s site visits exits exits' sh now = record { instance = sh.instance; size = sh.size; came = sh.came; comers = sh.comers; running = now }

    at_seat : (site : Site) (visits exits : List Visit) → (seat_at v k).row.construct ≡ site.construct → Shows v site visits exits
        → (j : ℕ) → j < length v.seats → (seat_at v j).row.construct ≡ site.construct
        → ShowsSeat (turnout_at (with_running v (seat_at v k).place (without_running (turnout_of v k).running task)) (seat_at v j).place) (seat_at v j) site visits (with_exit exits (running_visit site visits exits task))
    at_seat site visits exits at_site shown j hj ec =
        let own : ShowsSeat (turnout_of v k) (seat_at v k) site visits exits = shown.seats k seat.within at_site in
        elim (cases_eq (seat_at v j).place (seat_at v k).place) [
          | inl same ↦
              let sh : ShowsSeat (turnout_of v k) (seat_at v j) site visits exits = subst (λ p. ShowsSeat (turnout_at v p) (seat_at v j) site visits exits) same (shown.seats j hj ec) in
              let together : site.instance_of (seat_at v j).row.task ≡ site.instance_of task = sh.instance ∙ ((tied.alike j k hj seat.within same).1 ∙ (sym own.instance ∙ ap site.instance_of task_is)) in
              let c : Comes site visits (turnout_of v k).counts (seat_at v k).came task task = subst (λ t. Comes site visits (turnout_of v k).counts (seat_at v k).came t t) task_is
              (record { together = refl; size = own.size; comers = own.comers; few = few_reached v tied k seat.within; before = more_before v tied k seat.within }) in
              let visits_are : visits_of visits site.construct task ≡ map (visit_at site.construct task) (range_with_len 0 (seat_at v k).came) =
              subst (λ t. visits_of visits site.construct t ≡ map (visit_at site.construct t) (range_with_len 0 (seat_at v k).came)) task_is own.came in
              subst (λ t. ShowsSeat t (seat_at v j) site visits (with_exit exits (running_visit site visits exits task))) (sym (ap (turnout_at (with_running v (seat_at v k).place (without_running (turnout_of v k).running task))) same ∙ own_now))
              (with_exits (turnout_of v k) (without_running (turnout_of v k).running task) (seat_at v j) site visits exits (with_exit exits (running_visit site visits exits task)) sh
              (λ single. running_left (turnout_of v k).running site visits exits (turnout_of v k).counts (seat_at v k).came task (seat_at v j).row.task single visits_are c together (sh.running single)))
          | inr apart ↦
              let sh : ShowsSeat (turnout_at v (seat_at v j).place) (seat_at v j) site visits exits = shown.seats j hj ec in
              let far : site.instance_of (seat_at v j).row.task ≡ site.instance_of task → ⊥ =
              λ e. apart (tied.same j k hj seat.within (ec ∙ sym at_site) (sym sh.instance ∙ (e ∙ (sym (ap site.instance_of task_is) ∙ own.instance)))) in
              subst (λ t. ShowsSeat t (seat_at v j) site visits (with_exit exits (running_visit site visits exits task))) (sym (other_now (seat_at v j).place apart))
              (with_exits (turnout_at v (seat_at v j).place) (turnout_at v (seat_at v j).place).running (seat_at v j) site visits exits (with_exit exits (running_visit site visits exits task)) sh
              (λ single. running_elsewhere (turnout_at v (seat_at v j).place).running site visits exits task (seat_at v j).row.task single far (sh.running single)))
        ]

    afar : (site left : Site) (visits exits : List Visit) → site.construct ≢ (seat_at v k).row.construct → left.construct ≡ (seat_at v k).row.construct → Shows v site visits exits
        → (j : ℕ) → j < length v.seats → (seat_at v j).row.construct ≡ site.construct
        → ShowsSeat (turnout_at (with_running v (seat_at v k).place (without_running (turnout_of v k).running task)) (seat_at v j).place) (seat_at v j) site visits (with_exit exits (running_visit left visits exits task))
    afar site left visits exits away at_left shown j hj ec =
        let sh : ShowsSeat (turnout_at v (seat_at v j).place) (seat_at v j) site visits exits = shown.seats j hj ec in
        let apart : (seat_at v j).place ≢ (seat_at v k).place = λ e. away (sym ec ∙ (tied.alike j k hj seat.within e).0) in
        subst (λ t. ShowsSeat t (seat_at v j) site visits (with_exit exits (running_visit left visits exits task))) (sym (other_now (seat_at v j).place apart))
        (with_exits (turnout_at v (seat_at v j).place) (turnout_at v (seat_at v j).place).running (seat_at v j) site visits exits (with_exit exits (running_visit left visits exits task)) sh
        (λ single. running_away (turnout_at v (seat_at v j).place).running site left visits exits task (seat_at v j).row.task (λ e. away (e ∙ at_left)) (sh.running single)))

-- What the calls answer and leave, by what they find.

pub way_found : (v : Syncs) (k construct inst task : ℕ) → IsSeat v k construct inst task → (kind : HlsKind) (site : Site) (visits exits : List Visit)
    → site.kind ≡ kind → site.construct ≡ construct → Shows v site visits exits
    → way_of site visits task ≡ way_in kind (reached (turnout_of v k).counts (seat_at v k).came) (length (turnout_of v k).counts)
way_found v k construct inst task seat kind site visits exits is_kind at_site shown =
    ap (way_of site visits) (sym (ap (λ (r : HlsRow). r.task) seat.row))
    ∙ (way_is (turnout_of v k) (seat_at v k) site visits exits (shown.seats k seat.within (ap (λ (r : HlsRow). r.construct) seat.row ∙ sym at_site))
    ∙ ap (λ k'. way_in k' (reached (turnout_of v k).counts (seat_at v k).came) (length (turnout_of v k).counts)) is_kind)

pub arrives_last : (v v1 v2 : Syncs) → IsTied v → (k construct inst task place before size : ℕ) → IsSeat v k construct inst task
    → v1 ≡ arrived v k → place ≡ (seat_at v k).place → before ≡ reached (turnout_of v k).counts (seat_at v k).came → size ≡ length (turnout_of v k).counts
    → get_or (turnout_of v k).counts before 0 ≡ (seat_at v k).came → v2 ≡ with_running v1 place (Some task) → before + 1 ≡ size → Arrives v v2 Single construct task
arrives_last v v1 v2 tied k construct inst task place before size seat is_v1 is_place is_before is_size one is_v2 last =
    subst (λ w. Arrives v w Single construct task) (sym (is_v2 ∙ (ap (λ w. with_running w place (Some task)) is_v1 ∙ ap (λ p. with_running (arrived v k) p (Some task)) is_place)))
    (arrives v (with_running (arrived v k) (seat_at v k).place (Some task)) tied k construct inst task seat (ap (λ n. get_or (turnout_of v k).counts n 0) (sym is_before) ∙ one)
    (record { counts = advanced (turnout_of v k).counts (seat_at v k).came; running = Some task }) (moves_running v tied k seat.within (Some task)) Single
    (λ site visits exits own kind single c r.
    subst (λ t. ShowsRunning (Some t) site (next site visits (seat_at v k).came (seat_at v k).row.task) exits own) (ap (λ (row : HlsRow). row.task) seat.row)
    (running_begun (turnout_of v k).running site visits exits (turnout_of v k).counts (seat_at v k).came (seat_at v k).row.task own single c (omega (arith, last, is_before, is_size)) r)))

pub arrives_held : (v v1 : Syncs) → IsTied v → (k construct inst task before size : ℕ) → IsSeat v k construct inst task
    → v1 ≡ arrived v k → before ≡ reached (turnout_of v k).counts (seat_at v k).came → size ≡ length (turnout_of v k).counts
    → get_or (turnout_of v k).counts before 0 ≡ (seat_at v k).came → (before + 1 ≡ size → ⊥) → Arrives v v1 Single construct task
arrives_held v v1 tied k construct inst task before size seat is_v1 is_before is_size one more =
    subst (λ w. Arrives v w Single construct task) (sym is_v1)
    (arrives v (arrived v k) tied k construct inst task seat (ap (λ n. get_or (turnout_of v k).counts n 0) (sym is_before) ∙ one)
    (turnout_after v k) (moves_arrived v tied k seat.within) Single
    (λ site visits exits own kind single c r.
    running_held (turnout_of v k).running site visits exits (turnout_of v k).counts (seat_at v k).came (seat_at v k).row.task own c (λ e. more (omega (arith, e, is_before, is_size))) r))

pub arrives_else : (v v1 : Syncs) → IsTied v → (k construct inst task before : ℕ) → IsSeat v k construct inst task
    → v1 ≡ arrived v k → before ≡ reached (turnout_of v k).counts (seat_at v k).came
    → get_or (turnout_of v k).counts before 0 ≡ (seat_at v k).came → (kind : HlsKind) → (kind ≡ Single → ⊥) → Arrives v v1 kind construct task
arrives_else v v1 tied k construct inst task before seat is_v1 is_before one kind other =
    subst (λ w. Arrives v w kind construct task) (sym is_v1)
    (arrives v (arrived v k) tied k construct inst task seat (ap (λ n. get_or (turnout_of v k).counts n 0) (sym is_before) ∙ one)
    (turnout_after v k) (moves_arrived v tied k seat.within) kind
    (λ site visits exits own is_kind single c r. absurd (other is_kind)))

both_or : (z w f : Bool) → ((z || w) && (z || f)) ≡ (z || (w && f))
both_or true w f = refl
both_or false w f = refl

pub may_go_found : (v : Syncs) (k construct inst task : ℕ) → IsSeat v k construct inst task → reached (turnout_of v k).counts (seat_at v k).came < length (turnout_of v k).counts → (whole free : Bool)
    → whole ≡ ((seat_at v k).came == 0 || reached (turnout_of v k).counts ((seat_at v k).came - 1) == length (turnout_of v k).counts)
    → free ≡ ((seat_at v k).came == 0 || not (is_some (turnout_of v k).running))
    → (site : Site) (visits exits : List Visit) → site.kind ≡ Single → site.construct ≡ construct → Shows v site visits exits → (whole && free) ≡ may_go site visits exits task
may_go_found v k construct inst task seat few whole free is_whole is_free site visits exits single at_site shown =
    ap (λ w. w && free) is_whole ∙ (ap (λ f. ((seat_at v k).came == 0 || reached (turnout_of v k).counts ((seat_at v k).came - 1) == length (turnout_of v k).counts) && f) is_free
    ∙ (both_or ((seat_at v k).came == 0) (reached (turnout_of v k).counts ((seat_at v k).came - 1) == length (turnout_of v k).counts) (not (is_some (turnout_of v k).running))
    ∙ (sym (may_go_is (turnout_of v k) (seat_at v k) site visits exits single (shown.seats k seat.within (ap (λ (r : HlsRow). r.construct) seat.row ∙ sym at_site)) few)
    ∙ ap (may_go site visits exits) (ap (λ (r : HlsRow). r.task) seat.row))))

pub may_leave_found : (v : Syncs) (k construct inst task : ℕ) → IsSeat v k construct inst task → (whole : Bool)
    → whole ≡ ((seat_at v k).came == 0 || reached (turnout_of v k).counts ((seat_at v k).came - 1) == length (turnout_of v k).counts)
    → (site : Site) (visits exits : List Visit) → site.construct ≡ construct → Shows v site visits exits → whole ≡ may_leave_bar site visits task
may_leave_found v k construct inst task seat whole is_whole site visits exits at_site shown =
    is_whole ∙ (sym (may_leave_is (turnout_of v k) (seat_at v k) site visits exits (shown.seats k seat.within (ap (λ (r : HlsRow). r.construct) seat.row ∙ sym at_site)))
    ∙ ap (may_leave_bar site visits) (ap (λ (r : HlsRow). r.task) seat.row))

pub single_last : (b n before size : ℕ) → before ≡ b → size ≡ n → before + 1 ≡ size → way_in Single b n ≡ Run
single_last b n before size is_b is_n last = ap (λ t. cond t Run Hold) (eq-eqb (b + 1) n (omega (arith, is_b, is_n, last)))

pub single_held : (b n before size : ℕ) → before ≡ b → size ≡ n → (before + 1 ≡ size → ⊥) → way_in Single b n ≡ Hold
single_held b n before size is_b is_n more = ap (λ t. cond t Run Hold) (ne_eqb (b + 1) n (λ e. more (omega (arith, is_b, is_n, e))))

pub nowait_first : (b n before : ℕ) → before ≡ b → before ≡ 0 → way_in Nowait b n ≡ Run
nowait_first b n before is_b none = ap (λ t. cond t Run Skip) (eq-eqb b 0 (omega (arith, is_b, none)))

pub nowait_later : (b n before : ℕ) → before ≡ b → (before ≡ 0 → ⊥) → way_in Nowait b n ≡ Skip
nowait_later b n before is_b some = ap (λ t. cond t Run Skip) (ne_eqb b 0 (λ e. some (omega (arith, is_b, e))))
