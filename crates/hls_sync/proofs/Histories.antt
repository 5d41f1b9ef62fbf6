-- Arrivals and exits with one more at the end.
use Rattle.std.proofs.Common.{◌≡◌, ℕ, ◌+◌, ◌<◌, Bool, true, false, cond, ◌&&◌, ◌||◌, ◌==◌, List, [], ◌∷◌, ◌++◌, length, map, arith, refl, sym, ap, ◌∙◌, subst, inl, inr, zero, suc}
use Rattle.std.specs.Prelude.{Option, Some, None, filter}
use Rattle.std.specs.List.{All, last_or, range_with_len}
use Rattle.std.proofs.lemmas.Bool.{cases_Bool, cases_eq}
use Rattle.std.proofs.lemmas.List.{map-append, length-append, append-nil}
use Rattle.std.proofs.lemmas.List.Elements.{filter-append, All-head, All-tail}
use Rattle.std.proofs.lemmas.List.Folds.{list_any-append}
use Rattle.std.proofs.lemmas.List.FromFn.{map-range_with_len_more}
use Rattle.hls_sync.specs.declared.visits.Visit.{Visit}
use Rattle.hls_sync.specs.Meetings.{Site, are_together, instance_size, is_visit_of, visits_of, tasks_at, all_came}
use Rattle.hls_sync.specs.Ways.{has_exit, runner_in, runner_of}
use Rattle.hls_sync.proofs.Counts.{one_if}
use Rattle.hls_sync.specs.Shown.{visit_at}

-- the arrivals of a task, where the last is not of it
pub visits_of_other : (visits : List Visit) (v : Visit) (construct task : ℕ) → is_visit_of construct task v ≡ false → visits_of (visits ++ v ∷ []) construct task ≡ visits_of visits construct task
visits_of_other visits v construct task misses =
    filter-append (is_visit_of construct task) visits (v ∷ [])
    ∙ (ap (λ b. visits_of visits construct task ++ cond b (v ∷ []) []) misses ∙ append-nil (visits_of visits construct task))

pub visits_of_own : (visits : List Visit) (v : Visit) (construct task : ℕ) → is_visit_of construct task v ≡ true → visits_of (visits ++ v ∷ []) construct task ≡ visits_of visits construct task ++ v ∷ []
visits_of_own visits v construct task passes =
    filter-append (is_visit_of construct task) visits (v ∷ []) ∙ ap (λ b. visits_of visits construct task ++ cond b (v ∷ []) []) passes

-- an arrival counts at a meeting of the task's instance
abbrev pub is_at : Site → ℕ → ℕ → Visit → Bool
is_at site task m v = v.construct == site.construct && (v.meeting == m && are_together site task v.task)

pub tasks_at_other : (site : Site) (visits : List Visit) (v : Visit) (task m : ℕ) → is_at site task m v ≡ false → tasks_at site (visits ++ v ∷ []) task m ≡ tasks_at site visits task m
tasks_at_other site visits v task m misses =
    ap (map (λ (w : Visit). w.task)) (filter-append (is_at site task m) visits (v ∷ []) ∙ (ap (λ b. filter (is_at site task m) visits ++ cond b (v ∷ []) []) misses ∙ append-nil (filter (is_at site task m) visits)))

pub tasks_at_own : (site : Site) (visits : List Visit) (v : Visit) (task m : ℕ) → is_at site task m v ≡ true → tasks_at site (visits ++ v ∷ []) task m ≡ tasks_at site visits task m ++ v.task ∷ []
tasks_at_own site visits v task m passes =
    ap (map (λ (w : Visit). w.task)) (filter-append (is_at site task m) visits (v ∷ []) ∙ ap (λ b. filter (is_at site task m) visits ++ cond b (v ∷ []) []) passes)
    ∙ map-append (λ (w : Visit). w.task) (filter (is_at site task m) visits) (v ∷ [])

pub length_tasks_at : (site : Site) (visits : List Visit) (v : Visit) (task m : ℕ) → length (tasks_at site (visits ++ v ∷ []) task m) ≡ length (tasks_at site visits task m) + one_if (is_at site task m v)
length_tasks_at site visits v task m = elim (cases_Bool (is_at site task m v)) [
  | inl passes ↦ let c : one_if (is_at site task m v) ≡ 1 = ap (λ b. one_if b) passes in
      ap length (tasks_at_own site visits v task m passes) ∙ (length-append (tasks_at site visits task m) (v.task ∷ []) ∙ omega (arith, c))
  | inr misses ↦ let c : one_if (is_at site task m v) ≡ 0 = ap (λ b. one_if b) misses in
      ap length (tasks_at_other site visits v task m misses) ∙ omega (arith, c)
]

-- the exit is that of a task from a meeting
abbrev pub is_exit : ℕ → ℕ → ℕ → Visit → Bool
is_exit construct task m e = is_visit_of construct task e && e.meeting == m

or_false : (b : Bool) → (b || false) ≡ b
or_false true = refl
or_false false = refl

or_true : (b : Bool) → (b || true) ≡ true
or_true true = refl
or_true false = refl

pub has_exit_push : (exits : List Visit) (e : Visit) (construct task m : ℕ) → has_exit (exits ++ e ∷ []) construct task m ≡ (has_exit exits construct task m || is_exit construct task m e)
has_exit_push exits e construct task m =
    list_any-append (is_exit construct task m) exits (e ∷ []) ∙ ap (λ b. has_exit exits construct task m || b) (or_false (is_exit construct task m e))

pub has_exit_other : (exits : List Visit) (e : Visit) (construct task m : ℕ) → is_exit construct task m e ≡ false → has_exit (exits ++ e ∷ []) construct task m ≡ has_exit exits construct task m
has_exit_other exits e construct task m misses = has_exit_push exits e construct task m ∙ (ap (λ b. has_exit exits construct task m || b) misses ∙ or_false (has_exit exits construct task m))

pub has_exit_own : (exits : List Visit) (e : Visit) (construct task m : ℕ) → is_exit construct task m e ≡ true → has_exit (exits ++ e ∷ []) construct task m ≡ true
has_exit_own exits e construct task m passes = has_exit_push exits e construct task m ∙ (ap (λ b. has_exit exits construct task m || b) passes ∙ or_true (has_exit exits construct task m))

pub has_exit_kept : (exits : List Visit) (e : Visit) (construct task m : ℕ) → has_exit exits construct task m ≡ true → has_exit (exits ++ e ∷ []) construct task m ≡ true
has_exit_kept exits e construct task m was = has_exit_push exits e construct task m ∙ ap (λ b. b || is_exit construct task m e) was

-- the last of a list
pub last_push : {A : Type 0} (o : Option A) (xs : List A) (x : A) → last_or o (xs ++ x ∷ []) ≡ Some x
last_push o [] x = refl
last_push o (y ∷ xs) x = last_push (Some y) xs x

pub last_is_there : {A : Type 0} (xs : List A) → 0 < length xs → (x : A) × (last_or None xs ≡ Some x)
last_is_there [] h = absurd (omega arith)
last_is_there (x ∷ xs) h = there x xs
  where
    there : {B : Type 0} (x : B) (xs : List B) → (y : B) × (last_or (Some x) xs ≡ Some y)
    there x [] = (x, refl)
    there x (y ∷ ys) = there y ys

last_from : {A : Type 0} (P : A → Type 0) (o : Option A) (xs : List A) (x : A) → ((y : A) → o ≡ Some y → P y) → All P xs → last_or o xs ≡ Some x → P x
last_from P o [] x first all is = first x is
last_from P o (y ∷ ys) x first all is =
    last_from P (Some y) ys x (λ z e. let same : y ≡ z = cc in subst P same (All-head P y ys all)) (All-tail P y ys all) is

-- what holds of each holds of the last
pub last_all : {A : Type 0} (P : A → Type 0) (xs : List A) (x : A) → All P xs → last_or None xs ≡ Some x → P x
last_all {A} P xs x all is = last_from P None xs x (λ y e. let misses : ⊥ = cc in absurd misses) all is

-- the last of those that pass, by number
passing_end : (p : Visit → Bool) (construct task n m : ℕ) → m < n + 1 → p (visit_at construct task m) ≡ true
    → ((k : ℕ) → m < k → p (visit_at construct task k) ≡ false)
    → (m < n → last_or None (filter p (map (visit_at construct task) (range_with_len 0 n))) ≡ Some (visit_at construct task m))
    → last_or None (filter p (map (visit_at construct task) (range_with_len 0 n)) ++ cond (p (visit_at construct task n)) (visit_at construct task n ∷ []) []) ≡ Some (visit_at construct task m)
passing_end p construct task n m below passes later before = elim (cases_eq m n) [
  | inl is ↦
      ap (λ b. last_or None (filter p (map (visit_at construct task) (range_with_len 0 n)) ++ cond b (visit_at construct task n ∷ []) [])) (ap (λ k. p (visit_at construct task k)) (sym is) ∙ passes)
      ∙ (last_push None (filter p (map (visit_at construct task) (range_with_len 0 n))) (visit_at construct task n) ∙ ap (λ k. Some (visit_at construct task k)) (sym is))
  | inr other ↦
      ap (λ b. last_or None (filter p (map (visit_at construct task) (range_with_len 0 n)) ++ cond b (visit_at construct task n ∷ []) [])) (later n (omega arith))
      ∙ (ap (last_or None) (append-nil (filter p (map (visit_at construct task) (range_with_len 0 n)))) ∙ before (omega arith))
]

pub last_passing : (p : Visit → Bool) (construct task n m : ℕ) → m < n → p (visit_at construct task m) ≡ true
    → ((k : ℕ) → m < k → p (visit_at construct task k) ≡ false)
    → last_or None (filter p (map (visit_at construct task) (range_with_len 0 n))) ≡ Some (visit_at construct task m)
last_passing p construct task zero m below passes later = absurd (omega arith)
last_passing p construct task (suc n) m below passes later =
    ap (λ xs. last_or None (filter p xs)) (ap (λ k. map (visit_at construct task) (range_with_len 0 k)) (let e : suc n ≡ n + 1 = omega arith in e) ∙ map-range_with_len_more (visit_at construct task) 0 n n (omega arith))
    ∙ (ap (last_or None) (filter-append p (map (visit_at construct task) (range_with_len 0 n)) (visit_at construct task n ∷ []))
    ∙ passing_end p construct task n m (omega arith) passes later (λ h. last_passing p construct task n m h passes later))

-- the same tasks at each meeting make the same meetings
pub all_came_same : (site : Site) (visits visits' : List Visit) (task m : ℕ) → tasks_at site visits' task m ≡ tasks_at site visits task m → all_came site visits' task m ≡ all_came site visits task m
all_came_same site visits visits' task m e = ap (λ (ts : List ℕ). length ts == instance_size site task) e

pub runner_same : (site : Site) (visits visits' : List Visit) (task m : ℕ) → tasks_at site visits' task m ≡ tasks_at site visits task m → runner_of site visits' task m ≡ runner_of site visits task m
runner_same site visits visits' task m e = ap (λ (ts : List ℕ). runner_in site.kind (length ts == instance_size site task) ts) e

-- tasks of one instance have the same meetings
pub tasks_at_together : (site : Site) (visits : List Visit) (task other m : ℕ) → site.instance_of task ≡ site.instance_of other → tasks_at site visits task m ≡ tasks_at site visits other m
tasks_at_together site visits task other m e = ap (λ i. map (λ (v : Visit). v.task) (filter (λ (v : Visit). v.construct == site.construct && (v.meeting == m && i == site.instance_of v.task)) visits)) e

pub size_together : (site : Site) (task other : ℕ) → site.instance_of task ≡ site.instance_of other → instance_size site task ≡ instance_size site other
size_together site task other e = ap (λ i. length (filter (λ t. i == site.instance_of t) (range_with_len 0 site.tasks))) e

pub all_came_together : (site : Site) (visits : List Visit) (task other m : ℕ) → site.instance_of task ≡ site.instance_of other → all_came site visits task m ≡ all_came site visits other m
all_came_together site visits task other m e =
    ap (λ (ts : List ℕ). length ts == instance_size site task) (tasks_at_together site visits task other m e) ∙ ap (λ n. length (tasks_at site visits other m) == n) (size_together site task other e)

pub runner_together : (site : Site) (visits : List Visit) (task other m : ℕ) → site.instance_of task ≡ site.instance_of other → runner_of site visits task m ≡ runner_of site visits other m
runner_together site visits task other m e =
    ap (λ b. runner_in site.kind b (tasks_at site visits task m)) (all_came_together site visits task other m e) ∙ ap (runner_in site.kind (all_came site visits other m)) (tasks_at_together site visits task other m e)
