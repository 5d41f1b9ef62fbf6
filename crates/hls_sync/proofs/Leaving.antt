-- An exit ends the latest meeting that the task runs.
use Rattle.std.proofs.Common.{◌≡◌, ◌≢◌, ℕ, ◌+◌, ◌<◌, Bool, true, false, cond, ◌==◌, not, List, [], ◌∷◌, ◌++◌, length, map, arith, refl, sym, ap, ◌∙◌, subst, inl, inr}
use Rattle.std.specs.Prelude.{Option, Some, None, filter}
use Rattle.std.specs.List.{last_or, range_with_len}
use Rattle.std.proofs.lemmas.Bool.{cases_Bool, cases_eq, cases_lt, and_parts, and_from, and_left, and_right, eq-eqb, eqb-true, ne_eqb, both_ways}
use Rattle.c_tree.specs.declared.program.HlsKind.TheVariants.{Single}
use Rattle.hls_sync.specs.declared.visits.Visit.{Visit}
use Rattle.hls_sync.specs.Meetings.{Site, are_together, instance_size, is_visit_of, visits_of, tasks_at, all_came}
use Rattle.hls_sync.specs.Ways.{has_exit, runner_in, runner_of, is_task, is_running, running_visit, with_exit}
use Rattle.hls_sync.specs.Turnouts.{reached, without_running}
use Rattle.hls_sync.specs.Shown.{visit_at, unended, ShowsRunning}
use Rattle.hls_sync.proofs.Tied.{reached_fewer}
use Rattle.hls_sync.proofs.Histories.{is_exit, has_exit_other, has_exit_own, has_exit_kept, last_passing, all_came_together, runner_together}
use Rattle.hls_sync.proofs.Running.{Comes, not_later, runner_together_with, Ends, ends}

-- a running task whose meeting is the latest is in the latest one that it runs
latest_run : (site : Site) (visits exits : List Visit) (counts : List ℕ) (came task m : ℕ) → site.kind ≡ Single
    → visits_of visits site.construct task ≡ map (visit_at site.construct task) (range_with_len 0 came)
    → Comes site visits counts came task task
    → all_came site visits task m ≡ true → all_came site visits task (m + 1) ≡ false
    → runner_of site visits task m ≡ Some task → has_exit exits site.construct task m ≡ false
    → running_visit site visits exits task ≡ Some (visit_at site.construct task m)
latest_run site visits exits counts came task m single shown c passes misses runs free =
    ap (λ vs. last_or None (filter (is_running site visits exits task) vs)) shown
    ∙ last_passing (is_running site visits exits task) site.construct task came m below here later
  where
    below : m < came
    below = elim (cases_lt m came) [
      | inl h ↦ h
      | inr past ↦ absurd (both_ways (all_came site visits task m) (not_later site visits counts came task task m c past) passes)
    ]

    here : is_running site visits exits task (visit_at site.construct task m) ≡ true
    here = and_from (is_task task (runner_of site visits task m)) _ (ap (is_task task) runs ∙ eq-eqb task task refl) (ap not free)

    whole : reached counts m ≡ length counts
    whole = sym (c.comers m) ∙ (eqb-true (length (tasks_at site visits task m)) (instance_size site task) passes ∙ c.size)

    later : (k : ℕ) → m < k → is_running site visits exits task (visit_at site.construct task k) ≡ false
    later k h = elim (cases_Bool (all_came site visits task k)) [
      | inl all ↦
          let full : reached counts k ≡ length counts = sym (c.comers k) ∙ (eqb-true (length (tasks_at site visits task k)) (instance_size site task) all ∙ c.size) in
          let next_full : length (tasks_at site visits task (m + 1)) ≡ instance_size site task = omega (arith, full, whole, c.comers (m + 1), c.size, reached_fewer counts (m + 1) k (omega arith), reached_fewer counts m (m + 1) (omega arith)) in
          absurd (both_ways (all_came site visits task (m + 1)) misses (eq-eqb (length (tasks_at site visits task (m + 1))) (instance_size site task) next_full))
      | inr not_all ↦
          let none : runner_of site visits task k ≡ None =
          ap (λ kind. runner_in kind (all_came site visits task k) (tasks_at site visits task k)) single ∙ ap (λ b. runner_in Single b (tasks_at site visits task k)) not_all in
          and_left (is_task task (runner_of site visits task k)) _ (ap (is_task task) none)
    ]

-- an exit is that of its own task alone
not_exit_of : (e : Visit) (construct task m : ℕ) → (e.task ≡ task → ⊥) → is_exit construct task m e ≡ false
not_exit_of e construct task m other = and_left (is_visit_of construct task e) (e.meeting == m) (and_right (e.construct == construct) (e.task == task) (ne_eqb e.task task other))

exit_of : (e : Visit) (construct task m : ℕ) → e.construct ≡ construct → e.task ≡ task → e.meeting ≡ m → is_exit construct task m e ≡ true
exit_of e construct task m c t h = and_from (is_visit_of construct task e) (e.meeting == m) (and_from (e.construct == construct) (e.task == task) (eq-eqb e.construct construct c) (eq-eqb e.task task t)) (eq-eqb e.meeting m h)

-- what is left to end after an exit, of a runner that is another task
unended_other : (exits : List Visit) (e : Visit) (construct m runner : ℕ) → (e.task ≡ runner → ⊥)
    → unended exits construct m (Some runner) ≡ unended (exits ++ e ∷ []) construct m (Some runner)
unended_other exits e construct m runner other = ap (λ b. cond b None (Some runner)) (sym (has_exit_other exits e construct runner m (not_exit_of e construct runner m other)))

-- the meetings from which there was an exit are whole, after one more
ended_more : (site : Site) (visits exits : List Visit) (task own : ℕ) (e : Visit) → site.kind ≡ Single → Ends site visits exits task e
    → ((other m : ℕ) → are_together site own other ≡ true → has_exit exits site.construct other m ≡ true → all_came site visits own m ≡ true)
    → (other m : ℕ) → are_together site own other ≡ true → has_exit (exits ++ e ∷ []) site.construct other m ≡ true → all_came site visits own m ≡ true
ended_more site visits exits task own e single end old other m together was = elim (cases_Bool (is_exit site.construct other m e)) [
  | inr misses ↦ old other m together (sym (has_exit_other exits e site.construct other m misses) ∙ was)
  | inl passes ↦
      let both = and_parts (is_visit_of site.construct other e) (e.meeting == m) passes in
      let is_other : e.task ≡ other = eqb-true e.task other (and_parts (e.construct == site.construct) (e.task == other) both.0).1 in
      let is_m : e.meeting ≡ m = eqb-true e.meeting m both.1 in
      let same : site.instance_of own ≡ site.instance_of task = eqb-true (site.instance_of own) (site.instance_of other) together ∙ ap site.instance_of (sym is_other ∙ end.of_task) in
      all_came_together site visits own task m same ∙ subst (λ n. all_came site visits task n ≡ true) is_m (runner_together_with site visits task e.meeting task single end.runs).1
]

-- in the task's own instance
pub running_left : (running : Option ℕ) (site : Site) (visits exits : List Visit) (counts : List ℕ) (came task own : ℕ) → site.kind ≡ Single
    → visits_of visits site.construct task ≡ map (visit_at site.construct task) (range_with_len 0 came)
    → Comes site visits counts came task task → site.instance_of own ≡ site.instance_of task
    → ShowsRunning running site visits exits own
    → ShowsRunning (without_running running task) site visits (with_exit exits (running_visit site visits exits task)) own
running_left running site visits exits counts came task own single shown c together r = by_visit (running_visit site visits exits task) refl
  where
    -- where the task runs the latest meeting and has not ended it, this is the one that it ends
    found : (m : ℕ) → all_came site visits own m ≡ true → all_came site visits own (m + 1) ≡ false → runner_of site visits own m ≡ Some task → has_exit exits site.construct task m ≡ false
        → running_visit site visits exits task ≡ Some (visit_at site.construct task m)
    found m passes misses runs free =
        latest_run site visits exits counts came task m single shown c (sym (all_came_together site visits own task m together) ∙ passes) (sym (all_came_together site visits own task (m + 1) together) ∙ misses)
        (sym (runner_together site visits own task m together) ∙ runs) free

    left_by : (exits' : List Visit) (m : ℕ) (o : Option ℕ) → running ≡ unended exits site.construct m o
        → ((runner : ℕ) → o ≡ Some runner → (runner ≡ task → ⊥) → has_exit exits' site.construct runner m ≡ has_exit exits site.construct runner m)
        → (o ≡ Some task → has_exit exits' site.construct task m ≡ true)
        → without_running running task ≡ unended exits' site.construct m o
    left_by exits' m None is others own_one = ap (λ q. without_running q task) is
    left_by exits' m (Some runner) is others own_one = elim (cases_eq runner task) [
      | inl same ↦
          let gone : has_exit exits' site.construct runner m ≡ true = subst (λ n. has_exit exits' site.construct n m ≡ true) (sym same) (own_one (ap (λ n. Some n) same)) in
          ap (λ q. without_running q task) is ∙ (without (has_exit exits site.construct runner m) same ∙ sym (ap (λ b. cond b None (Some runner)) gone))
      | inr other ↦
          ap (λ q. without_running q task) is ∙ (with_other (has_exit exits site.construct runner m) other ∙ ap (λ b. cond b None (Some runner)) (sym (others runner refl other)))
    ]
      where
        without : (b : Bool) → runner ≡ task → without_running (cond b None (Some runner)) task ≡ None
        without true same = refl
        without false same = ap (λ t. cond t None (Some runner)) (eq-eqb runner task same)

        with_other : (b : Bool) → (runner ≡ task → ⊥) → without_running (cond b None (Some runner)) task ≡ cond b None (Some runner)
        with_other true apart = refl
        with_other false apart = ap (λ t. cond t None (Some runner)) (ne_eqb runner task apart)

    by_visit : (o : Option Visit) → running_visit site visits exits task ≡ o → ShowsRunning (without_running running task) site visits (with_exit exits o) own
    by_visit None is = record {
      none = λ misses. ap (λ q. without_running q task) (r.none misses);
      latest = λ m passes misses. left_by exits m (runner_of site visits own m) (r.latest m passes misses) (λ runner e apart. refl) (λ runs. elim (cases_Bool (has_exit exits site.construct task m)) [
        | inl gone ↦ gone
        | inr free ↦ let e : Some (visit_at site.construct task m) ≡ None = sym (found m passes misses runs free) ∙ is in absurd (cc)
      ]);
      ended = r.ended;
    }
    by_visit (Some e) is =
        let end : Ends site visits exits task e = ends site visits exits task e is in
        record {
          none = λ misses. ap (λ q. without_running q task) (r.none misses);
          latest = λ m passes misses. left_by (exits ++ e ∷ []) m (runner_of site visits own m) (r.latest m passes misses)
              (λ runner runs apart. has_exit_other exits e site.construct runner m (not_exit_of e site.construct runner m (λ same. apart (sym same ∙ end.of_task))))
              (λ runs. elim (cases_Bool (has_exit exits site.construct task m)) [
                | inl gone ↦ has_exit_kept exits e site.construct task m gone
                | inr free ↦
                    let same : Some e ≡ Some (visit_at site.construct task m) = sym is ∙ found m passes misses runs free in
                    let one : e ≡ visit_at site.construct task m = cc in
                    has_exit_own exits e site.construct task m (exit_of e site.construct task m end.construct end.of_task (ap (λ (v : Visit). v.meeting) one))
              ]);
          ended = ended_more site visits exits task own e single end r.ended;
        }

-- in another instance
pub running_elsewhere : (running : Option ℕ) (site : Site) (visits exits : List Visit) (task own : ℕ) → site.kind ≡ Single
    → (site.instance_of own ≡ site.instance_of task → ⊥)
    → ShowsRunning running site visits exits own
    → ShowsRunning running site visits (with_exit exits (running_visit site visits exits task)) own
running_elsewhere running site visits exits task own single apart r = by_visit (running_visit site visits exits task) refl
  where
    by_visit : (o : Option Visit) → running_visit site visits exits task ≡ o → ShowsRunning running site visits (with_exit exits o) own
    by_visit None is = r
    by_visit (Some e) is =
        let end : Ends site visits exits task e = ends site visits exits task e is in
        record {
          none = r.none;
          latest = λ m passes misses. r.latest m passes misses ∙ same end m (runner_of site visits own m) refl;
          ended = ended_more site visits exits task own e single end r.ended;
        }
      where
        same : Ends site visits exits task e → (m : ℕ) (o : Option ℕ) → runner_of site visits own m ≡ o → unended exits site.construct m o ≡ unended (exits ++ e ∷ []) site.construct m o
        same end m None is_o = refl
        same end m (Some runner) is_o = unended_other exits e site.construct m runner
            (λ own_one. apart (eqb-true (site.instance_of own) (site.instance_of runner) (runner_together_with site visits own m runner single is_o).0 ∙ ap site.instance_of (sym own_one ∙ end.of_task)))

-- at another construct
pub running_away : (running : Option ℕ) (site left : Site) (visits exits : List Visit) (task own : ℕ) → site.construct ≢ left.construct
    → ShowsRunning running site visits exits own
    → ShowsRunning running site visits (with_exit exits (running_visit left visits exits task)) own
running_away running site left visits exits task own apart r = by_visit (running_visit left visits exits task) refl
  where
    by_visit : (o : Option Visit) → running_visit left visits exits task ≡ o → ShowsRunning running site visits (with_exit exits o) own
    by_visit None is = r
    by_visit (Some e) is =
        let end : Ends left visits exits task e = ends left visits exits task e is in
        let far : (runner m : ℕ) → is_exit site.construct runner m e ≡ false = λ runner m.
        and_left (is_visit_of site.construct runner e) (e.meeting == m) (and_left (e.construct == site.construct) (e.task == runner) (ne_eqb e.construct site.construct (λ same. apart (sym same ∙ end.construct)))) in
        record {
          none = r.none;
          latest = λ m passes misses. r.latest m passes misses ∙ same far m (runner_of site visits own m);
          ended = λ other m together was. r.ended other m together (sym (has_exit_other exits e site.construct other m (far other m)) ∙ was);
        }
      where
        same : ((runner m : ℕ) → is_exit site.construct runner m e ≡ false) → (m : ℕ) (o : Option ℕ) → unended exits site.construct m o ≡ unended (exits ++ e ∷ []) site.construct m o
        same far m None = refl
        same far m (Some runner) = ap (λ b. cond b None (Some runner)) (sym (has_exit_other exits e site.construct runner m (far runner m)))
