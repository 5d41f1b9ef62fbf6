-- Who runs the block of a single, after an arrival and after an exit.
use Rattle.std.proofs.Common.{◌≡◌, ◌≢◌, ℕ, ◌+◌, ◌≤◌, ◌<◌, true, false, cond, ◌==◌, ltb, List, [], ◌∷◌, ◌++◌, length, arith, refl, sym, ap, ◌∙◌, subst, inl, inr}
use Rattle.std.specs.Prelude.{Option, Some, None, filter}
use Rattle.std.specs.List.{All, last_or}
use Rattle.std.proofs.lemmas.Bool.{cases_Bool, cases_eq, cases_order, and_parts, and_from, and_left, and_right, eq-eqb, eqb-true, ne_eqb, both_ways}
use Rattle.std.proofs.lemmas.List.Elements.{filter_passes, All-filter, All-map, All-weaker}
use Rattle.std.proofs.lemmas.List.Sums.{count_by-le-length}
use Rattle.c_tree.specs.declared.program.HlsKind.TheVariants.{Single}
use Rattle.hls_sync.specs.declared.visits.Visit.{Visit}
use Rattle.hls_sync.specs.Meetings.{Site, are_together, instance_size, is_visit_of, visits_of, tasks_at, all_came}
use Rattle.hls_sync.specs.Ways.{has_exit, runner_in, runner_of, is_task, is_running, running_visit}
use Rattle.hls_sync.specs.Turnouts.{reached}
use Rattle.hls_sync.proofs.Counts.{one_if}
use Rattle.hls_sync.specs.Shown.{visit_at, unended, ShowsRunning}
use Rattle.hls_sync.proofs.Tied.{reached_fewer}
use Rattle.hls_sync.proofs.Histories.{is_at, tasks_at_other, tasks_at_own, length_tasks_at, last_push, last_all, all_came_same, runner_same}

-- Where no meeting of the instance changes, nothing changes.
pub running_same : (running : Option ℕ) (site : Site) (visits visits' exits : List Visit) (task : ℕ)
    → ((m : ℕ) → tasks_at site visits' task m ≡ tasks_at site visits task m) → ShowsRunning running site visits exits task → ShowsRunning running site visits' exits task
running_same running site visits visits' exits task same r = record {
  none = λ misses. r.none (sym (all_came_same site visits visits' task 0 (same 0)) ∙ misses);
  latest = λ m passes misses.
      r.latest m (sym (all_came_same site visits visits' task m (same m)) ∙ passes) (sym (all_came_same site visits visits' task (m + 1) (same (m + 1))) ∙ misses)
      ∙ ap (unended exits site.construct m) (sym (runner_same site visits visits' task m (same m)));
  ended = λ other m together was. all_came_same site visits visits' task m (same m) ∙ r.ended other m together was;
}

-- The counts of an instance are those of its meetings, and a task of it comes to a meeting that is not whole.
pub record Comes (site : Site) (visits : List Visit) (counts : List ℕ) (came task own : ℕ) : Type 0 where
  pub together : site.instance_of own ≡ site.instance_of task
  pub size : instance_size site own ≡ length counts
  pub comers : (m : ℕ) → length (tasks_at site visits own m) ≡ reached counts m
  pub few : reached counts came < length counts
  pub before : (m : ℕ) → m < came → reached counts came + 1 ≤ reached counts m

abbrev pub next : Site → List Visit → ℕ → ℕ → List Visit
next site visits came task = visits ++ visit_at site.construct task came ∷ []

-- the arrival counts at its own meeting alone
pub comes_at : (site : Site) (came task own : ℕ) → site.instance_of own ≡ site.instance_of task → is_at site own came (visit_at site.construct task came) ≡ true
comes_at site came task own together =
    and_from (site.construct == site.construct) _ (eq-eqb site.construct site.construct refl)
    (and_from (came == came) (are_together site own task) (eq-eqb came came refl) (eq-eqb (site.instance_of own) (site.instance_of task) together))

pub comes_not : (site : Site) (came task own m : ℕ) → m ≢ came → is_at site own m (visit_at site.construct task came) ≡ false
comes_not site came task own m other =
    and_right (site.construct == site.construct) _ (and_left (came == m) (are_together site own task) (ne_eqb came m (λ e. other (sym e))))

pub tasks_kept : (site : Site) (visits : List Visit) (came task own m : ℕ) → m ≢ came → tasks_at site (next site visits came task) own m ≡ tasks_at site visits own m
tasks_kept site visits came task own m other = tasks_at_other site visits (visit_at site.construct task came) own m (comes_not site came task own m other)

pub tasks_grown : (site : Site) (visits : List Visit) (came task own : ℕ) → site.instance_of own ≡ site.instance_of task → tasks_at site (next site visits came task) own came ≡ tasks_at site visits own came ++ task ∷ []
tasks_grown site visits came task own together = tasks_at_own site visits (visit_at site.construct task came) own came (comes_at site came task own together)

pub reached_grown : (site : Site) (visits : List Visit) (counts : List ℕ) (came task own : ℕ) → Comes site visits counts came task own
    → length (tasks_at site (next site visits came task) own came) ≡ reached counts came + 1
reached_grown site visits counts came task own c =
    length_tasks_at site visits (visit_at site.construct task came) own came
    ∙ (ap (λ b. length (tasks_at site visits own came) + one_if b) (comes_at site came task own c.together) ∙ ap (λ n. n + 1) (c.comers came))

-- the meeting was not whole
pub not_yet : (site : Site) (visits : List Visit) (counts : List ℕ) (came task own : ℕ) → Comes site visits counts came task own → all_came site visits own came ≡ false
not_yet site visits counts came task own c = ne_eqb (length (tasks_at site visits own came)) (instance_size site own) (λ e. absurd (omega (arith, e, c.comers came, c.size, c.few)))

-- no later one is
pub not_later : (site : Site) (visits : List Visit) (counts : List ℕ) (came task own m : ℕ) → Comes site visits counts came task own → came ≤ m → all_came site visits own m ≡ false
not_later site visits counts came task own m c later =
    ne_eqb (length (tasks_at site visits own m)) (instance_size site own) (λ e. absurd (omega (arith, e, c.comers m, c.size, c.few, reached_fewer counts came m later)))

not_came : (site : Site) (visits : List Visit) (counts : List ℕ) (came task own m : ℕ) → Comes site visits counts came task own → all_came site visits own m ≡ true → m ≢ came
not_came site visits counts came task own m c passes is = both_ways (all_came site visits own m) (subst (λ n. all_came site visits own n ≡ false) (sym is) (not_yet site visits counts came task own c)) passes

-- A task that does not come last changes nothing.
pub running_held : (running : Option ℕ) (site : Site) (visits exits : List Visit) (counts : List ℕ) (came task own : ℕ)
    → Comes site visits counts came task own → reached counts came + 1 ≢ length counts
    → ShowsRunning running site visits exits own → ShowsRunning running site (next site visits came task) exits own
running_held running site visits exits counts came task own c more r = record {
  none = λ misses. r.none (sym (same 0) ∙ misses);
  latest = λ m passes misses.
      let whole : all_came site visits own m ≡ true = sym (same m) ∙ passes in
      r.latest m whole (sym (same (m + 1)) ∙ misses)
      ∙ ap (unended exits site.construct m) (sym (runner_same site visits (next site visits came task) own m (tasks_kept site visits came task own m (not_came site visits counts came task own m c whole))));
  ended = λ other m together was. same m ∙ r.ended other m together was;
}
  where
    same : (m : ℕ) → all_came site (next site visits came task) own m ≡ all_came site visits own m
    same m = elim (cases_eq m came) [
      | inl is ↦ subst (λ n. all_came site (next site visits came task) own n ≡ all_came site visits own n) (sym is)
          (ne_eqb (length (tasks_at site (next site visits came task) own came)) (instance_size site own) (λ e. more (sym (reached_grown site visits counts came task own c) ∙ (e ∙ c.size)))
          ∙ sym (not_yet site visits counts came task own c))
      | inr other ↦ all_came_same site visits (next site visits came task) own m (tasks_kept site visits came task own m other)
    ]

-- A task that comes last runs the block.
pub running_begun : (running : Option ℕ) (site : Site) (visits exits : List Visit) (counts : List ℕ) (came task own : ℕ) → site.kind ≡ Single
    → Comes site visits counts came task own → reached counts came + 1 ≡ length counts
    → ShowsRunning running site visits exits own → ShowsRunning (Some task) site (next site visits came task) exits own
running_begun running site visits exits counts came task own single c last r = record {
  none = λ misses. absurd (both_ways (all_came site (next site visits came task) own 0) misses (whole 0 (omega arith)));
  latest = latest;
  ended = λ other m together was.
      let passes : all_came site visits own m ≡ true = r.ended other m together was in
      all_came_same site visits (next site visits came task) own m (tasks_kept site visits came task own m (not_came site visits counts came task own m c passes)) ∙ passes;
}
  where
    whole : (m : ℕ) → m ≤ came → all_came site (next site visits came task) own m ≡ true
    whole m h = elim (cases_eq m came) [
      | inl is ↦ subst (λ n. all_came site (next site visits came task) own n ≡ true) (sym is)
          (eq-eqb (length (tasks_at site (next site visits came task) own came)) (instance_size site own) (reached_grown site visits counts came task own c ∙ (last ∙ sym c.size)))
      | inr other ↦ all_came_same site visits (next site visits came task) own m (tasks_kept site visits came task own m other)
          ∙ eq-eqb (length (tasks_at site visits own m)) (instance_size site own) (omega (arith, c.comers m, c.size, c.before m (omega arith), count_by-le-length (λ n. ltb m n) counts))
    ]

    free : has_exit exits site.construct task came ≡ false
    free = elim (cases_Bool (has_exit exits site.construct task came)) [
      | inl was ↦ absurd (both_ways (all_came site visits own came) (not_yet site visits counts came task own c) (r.ended task came (eq-eqb (site.instance_of own) (site.instance_of task) c.together) was))
      | inr misses ↦ misses
    ]

    runs : runner_of site (next site visits came task) own came ≡ Some task
    runs =
        ap (λ k. runner_in k (all_came site (next site visits came task) own came) (tasks_at site (next site visits came task) own came)) single
        ∙ (ap (λ b. runner_in Single b (tasks_at site (next site visits came task) own came)) (whole came (omega arith))
        ∙ (ap (last_or None) (tasks_grown site visits came task own c.together) ∙ last_push None (tasks_at site visits own came) task))

    latest : (m : ℕ) → all_came site (next site visits came task) own m ≡ true → all_came site (next site visits came task) own (m + 1) ≡ false
        → Some task ≡ unended exits site.construct m (runner_of site (next site visits came task) own m)
    latest m passes misses = elim (cases_order m came) [
      | inl is ↦ subst (λ n. Some task ≡ unended exits site.construct n (runner_of site (next site visits came task) own n)) (sym is)
          (sym (ap (unended exits site.construct came) runs ∙ ap (λ b. cond b None (Some task)) free))
      | inr (inl below) ↦ absurd (both_ways (all_came site (next site visits came task) own (m + 1)) misses (whole (m + 1) (omega arith)))
      | inr (inr above) ↦ absurd (both_ways (all_came site (next site visits came task) own m)
          (all_came_same site visits (next site visits came task) own m (tasks_kept site visits came task own m (λ e. absurd (omega (arith, e)))) ∙ not_later site visits counts came task own m c (omega arith)) passes)
    ]

-- the running task of a single is one of the instance, and its meeting is whole
pub runner_together_with : (site : Site) (visits : List Visit) (task m runner : ℕ) → site.kind ≡ Single → runner_of site visits task m ≡ Some runner
    → (are_together site task runner ≡ true) × (all_came site visits task m ≡ true)
runner_together_with site visits task m runner single is = elim (cases_Bool (all_came site visits task m)) [
  | inl whole ↦ (last_all (λ t. are_together site task t ≡ true) (tasks_at site visits task m) runner together (sym (ap (λ b. runner_in Single b (tasks_at site visits task m)) whole) ∙ by_kind), whole)
  | inr not_whole ↦ let misses : None ≡ Some runner = sym (ap (λ b. runner_in Single b (tasks_at site visits task m)) not_whole) ∙ by_kind in absurd (cc)
]
  where
    by_kind : runner_in Single (all_came site visits task m) (tasks_at site visits task m) ≡ Some runner
    by_kind = sym (ap (λ k. runner_in k (all_came site visits task m) (tasks_at site visits task m)) single) ∙ is

    together : All (λ t. are_together site task t ≡ true) (tasks_at site visits task m)
    together = All-map (λ t. are_together site task t ≡ true) (λ (v : Visit). v.task) (filter (is_at site task m) visits)
        (All-weaker (λ v. is_at site task m v ≡ true) (λ v. are_together site task v.task ≡ true)
        (λ v h. (and_parts (v.meeting == m) (are_together site task v.task) (and_parts (v.construct == site.construct) _ h).1).1)
        (filter (is_at site task m) visits) (filter_passes (is_at site task m) visits))

is_task_true : (task : ℕ) (o : Option ℕ) → is_task task o ≡ true → o ≡ Some task
is_task_true task None h = let misses : ⊥ = cc in absurd misses
is_task_true task (Some other) h = ap (λ n. Some n) (eqb-true other task h)

-- the meeting that an exit ends
pub record Ends (site : Site) (visits exits : List Visit) (task : ℕ) (e : Visit) : Type 0 where
  pub construct : e.construct ≡ site.construct
  pub of_task : e.task ≡ task
  pub runs : runner_of site visits task e.meeting ≡ Some task

pub ends : (site : Site) (visits exits : List Visit) (task : ℕ) (e : Visit) → running_visit site visits exits task ≡ Some e → Ends site visits exits task e
ends site visits exits task e is =
    let visit : is_visit_of site.construct task e ≡ true =
    last_all (λ v. is_visit_of site.construct task v ≡ true) (filter (is_running site visits exits task) (visits_of visits site.construct task)) e
    (All-filter (is_running site visits exits task) (λ v. is_visit_of site.construct task v ≡ true) (visits_of visits site.construct task) (filter_passes (is_visit_of site.construct task) visits)) is in
    let running : is_running site visits exits task e ≡ true =
    last_all (λ v. is_running site visits exits task v ≡ true) (filter (is_running site visits exits task) (visits_of visits site.construct task)) e
    (filter_passes (is_running site visits exits task) (visits_of visits site.construct task)) is in
    let both = and_parts (e.construct == site.construct) (e.task == task) visit in
    record {
      construct = eqb-true e.construct site.construct both.0;
      of_task = eqb-true e.task task both.1;
      runs = is_task_true task (runner_of site visits task e.meeting) (and_parts (is_task task (runner_of site visits task e.meeting)) _ running).0;
    }
