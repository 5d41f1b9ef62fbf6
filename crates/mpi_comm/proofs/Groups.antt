-- What the groups of a split are: the members of each are different, and each member is in the group of its colour alone.
use Rattle.std.proofs.Common.{◌≡◌, ◌≢◌, ℕ, ◌≤◌, ◌<◌, zero, suc, Bool, true, false, cond, ◌&&◌, ◌||◌, ◌==◌, List, [], ◌∷◌, length, map, refl, sym, ap, ◌∙◌, arith}
use Rattle.std.specs.Prelude.{Option, Some, None, AllPairs, filter, filter_map, zip}
use Rattle.std.specs.List.{AllByRecursion, IsDistinct, list_any, cons_option, range_with_len}
use Rattle.std.specs.List.Sorted.{IsPermutation}
use Rattle.std.specs.Option.{option_map}
use Rattle.std.proofs.lemmas.Bool.Decides.{nat_tests}
use Rattle.std.proofs.lemmas.List.{length-map}
use Rattle.std.proofs.lemmas.List.FromFn.{length-range_with_len, get_or-range_with_len}
use Rattle.std.proofs.lemmas.List.Elements.{All-from_recursion, recursion_from_All}
use Rattle.std.proofs.lemmas.List.Kept.{AllPairs-cons}
use Rattle.std.proofs.lemmas.List.Sorted.{length_permutation}
use Rattle.std.proofs.lemmas.Map.Keys.{IsDistinct-cons, IsDistinct-head, IsDistinct-tail, IsDistinct-IsPermutation}
use Rattle.mpi_comm.specs.declared.splitting.Asked.{Asked}
use Rattle.mpi_comm.specs.Splitting.{Chosen, colour_in, is_colour}
use Rattle.mpi_comm.specs.Seen.{IsGroup}
use Rattle.mpi_comm.proofs.Colours.{test_same, test_other, other_from_test}
use Rattle.mpi_comm.specs.Asked.{asked_as, asked_in, tasks_at}

-- the first parts are different
abbrev pub Differ : List (ℕ × Chosen) → Type 0
Differ [] = Unit {0}
Differ (m ∷ ms) = AllByRecursion (λ (n : ℕ × Chosen). m.0 ≢ n.0) ms × Differ ms

all_zip : (x : ℕ) (xs : List ℕ) (cs : List Chosen) → AllByRecursion (λ y. x ≢ y) xs → AllByRecursion (λ (n : ℕ × Chosen). x ≢ n.0) (zip xs cs)
all_zip x [] cs h = tt
all_zip x (y ∷ ys) [] h = tt
all_zip x (y ∷ ys) (c ∷ cs) h = (h.0, all_zip x ys cs h.1)

pub differ_zip : (members : List ℕ) (chosen : List Chosen) → AllPairs (λ a b. a ≢ b) members → Differ (zip members chosen)
differ_zip [] chosen far = tt
differ_zip (x ∷ xs) [] far = tt
differ_zip (x ∷ xs) (c ∷ cs) far = (
  all_zip x xs cs (recursion_from_All (λ y. x ≢ y) xs (λ k d h. far zero (suc k) d (omega arith) (omega arith))),
  differ_zip xs cs (λ i j d less h. far (suc i) (suc j) d (omega arith) (omega arith)),
)

-- two members that ask are of one task
abbrev pub same_task : Asked → Asked → Bool
same_task a b = a.task == b.task

eqb_flip : (a b : ℕ) → (a == b) ≡ (b == a)
eqb_flip a b = grind (arith, nat_tests)

all_asked : (task : ℕ) (a : Asked) → a.task ≡ task → (ms : List (ℕ × Chosen)) → AllByRecursion (λ (n : ℕ × Chosen). task ≢ n.0) ms
    → AllByRecursion (λ b. same_task a b ≡ false) (filter_map asked_in ms)
all_asked task a is [] h = tt
all_asked task a is (m ∷ ms) h = by (colour_in m.1.colour) (all_asked task a is ms h.1)
  where
    by : (o : Option ℕ) → AllByRecursion (λ b. same_task a b ≡ false) (filter_map asked_in ms) → AllByRecursion (λ b. same_task a b ≡ false) (cons_option (option_map (asked_as m) o) (filter_map asked_in ms))
    by None rest = rest
    by (Some c) rest = (ap (λ t. t == m.0) is ∙ test_other task m.0 h.0, rest)

distinct_asked : (ms : List (ℕ × Chosen)) → Differ ms → IsDistinct same_task (filter_map asked_in ms)
unfolding IsDistinct
distinct_asked [] h = tt
distinct_asked (m ∷ ms) h = by (colour_in m.1.colour) (distinct_asked ms h.1)
  where
    by : (o : Option ℕ) → IsDistinct same_task (filter_map asked_in ms) → IsDistinct same_task (cons_option (option_map (asked_as m) o) (filter_map asked_in ms))
    by None rest = rest
    by (Some c) rest =
        IsDistinct-cons same_task (asked_as m c) (filter_map asked_in ms)
        (all_asked m.0 (asked_as m c) refl ms h.0) rest

-- the tasks of a colour are different
all_tasks : (a : Asked) (p : Asked → Bool) (as' : List Asked) → AllByRecursion (λ b. same_task a b ≡ false) as' → AllByRecursion (λ y. a.task ≢ y) (map (λ (b : Asked). b.task) (filter p as'))
all_tasks a p [] h = tt
all_tasks a p (b ∷ bs) h = by (p b) (all_tasks a p bs h.1)
  where
    by : (t : Bool) → AllByRecursion (λ y. a.task ≢ y) (map (λ (b' : Asked). b'.task) (filter p bs)) → AllByRecursion (λ y. a.task ≢ y) (map (λ (b : Asked). b.task) (cond t (b ∷ filter p bs) (filter p bs)))
    by true rest = (other_from_test a.task b.task h.0, rest)
    by false rest = rest

pub tasks_once : (p : Asked → Bool) (as' : List Asked) → IsDistinct same_task as' → AllPairs (λ x y. x ≢ y) (map (λ (b : Asked). b.task) (filter p as'))
tasks_once p [] h = λ i j d less within. absurd (omega arith)
tasks_once p (b ∷ bs) h = by (p b) (tasks_once p bs (IsDistinct-tail same_task b bs h))
  where
    by : (t : Bool) → AllPairs (λ x y. x ≢ y) (map (λ (c : Asked). c.task) (filter p bs)) → AllPairs (λ x y. x ≢ y) (map (λ (c : Asked). c.task) (cond t (b ∷ filter p bs) (filter p bs)))
    by true rest =
        AllPairs-cons (λ x y. x ≢ y) b.task (map (λ (c : Asked). c.task) (filter p bs))
        (All-from_recursion (λ y. b.task ≢ y) (map (λ (c : Asked). c.task) (filter p bs)) (all_tasks b p bs (IsDistinct-head same_task b bs h))) rest
    by false rest = rest

length_filter : {X : Type 0} (p : X → Bool) (xs : List X) → length (filter p xs) ≤ length xs
length_filter p [] = omega arith
length_filter p (x ∷ xs) = by (p x) (length_filter p xs)
  where
    by : (b : Bool) → length (filter p xs) ≤ length xs → length (cond b (x ∷ filter p xs) (filter p xs)) ≤ length (x ∷ xs)
    by true h = omega (arith, h)
    by false h = omega (arith, h)

-- a colour has at most as many tasks as ask
pub few_tasks : (asked : List Asked) (colour : ℕ) → length (tasks_at asked colour) ≤ length asked
few_tasks asked colour =
    omega (
      arith,
      length-map {B = ℕ} (filter (λ (a : Asked). a.colour == colour) asked) (λ (a : Asked). a.task),
      length_filter (λ (a : Asked). a.colour == colour) asked,
    )

length_asked : (ms : List (ℕ × Chosen)) → length (filter_map asked_in ms) ≤ length ms
length_asked [] = omega arith
length_asked (m ∷ ms) = by (colour_in m.1.colour) (length_asked ms)
  where
    by : (o : Option ℕ) → length (filter_map asked_in ms) ≤ length ms → length (cons_option (option_map (asked_as m) o) (filter_map asked_in ms)) ≤ length (m ∷ ms)
    by None h = omega (arith, h)
    by (Some c) h = omega (arith, h)

length_zip : {X Y : Type 0} (xs : List X) (ys : List Y) → length (zip xs ys) ≤ length xs
length_zip [] ys = omega arith
length_zip (x ∷ xs) [] = omega arith
length_zip (x ∷ xs) (y ∷ ys) = omega (arith, length_zip xs ys)

-- at most as many ask as there are members
pub few_asked : (members : List ℕ) (chosen : List Chosen) (asked : List Asked) → IsPermutation (filter_map asked_in (zip members chosen)) asked → length asked ≤ length members
few_asked members chosen asked moved =
    omega (arith, length_permutation (filter_map asked_in (zip members chosen)) asked moved, length_asked (zip members chosen), length_zip members chosen)

pub group_at_colour : (members : List ℕ) (chosen : List Chosen) (asked : List Asked) → IsGroup members → IsPermutation (filter_map asked_in (zip members chosen)) asked
    → (colour : ℕ) → IsGroup (tasks_at asked colour)
group_at_colour members chosen asked group moved colour = record {
  few = omega (
    arith,
    group.few,
    few_asked members chosen asked moved,
    few_tasks asked colour,
  );
  once = tasks_once (λ (a : Asked). a.colour == colour) asked
      (IsDistinct-IsPermutation same_task (λ x y. eqb_flip x.task y.task) (filter_map asked_in (zip members chosen)) asked moved
      (distinct_asked (zip members chosen) (differ_zip members chosen group.once)));
}

-- a member is in the group of its colour, and in no other
pub any_filter : (q : ℕ → Bool) (p : Asked → Bool) (xs : List Asked) → list_any q (map (λ (a : Asked). a.task) (filter p xs)) ≡ list_any (λ a. p a && q a.task) xs
any_filter q p [] = refl
any_filter q p (x ∷ xs) = by (p x) (any_filter q p xs)
  where
    by : (b : Bool) → list_any q (map (λ (a : Asked). a.task) (filter p xs)) ≡ list_any (λ a. p a && q a.task) xs
        → list_any q (map (λ (a : Asked). a.task) (cond b (x ∷ filter p xs) (filter p xs))) ≡ ((b && q x.task) || list_any (λ a. p a && q a.task) xs)
    by true rest = ap (λ r. q x.task || r) rest
    by false rest = rest

pub any_asked : (colour task : ℕ) (ms : List (ℕ × Chosen))
    → list_any (λ (a : Asked). (a.colour == colour) && (a.task == task)) (filter_map asked_in ms) ≡ list_any (λ (m : ℕ × Chosen). is_colour colour (colour_in m.1.colour) && (m.0 == task)) ms
any_asked colour task [] = refl
any_asked colour task (m ∷ ms) = by (colour_in m.1.colour) (any_asked colour task ms)
  where
    by : (o : Option ℕ)
        → list_any (λ (a : Asked). (a.colour == colour) && (a.task == task)) (filter_map asked_in ms) ≡ list_any (λ (n : ℕ × Chosen). is_colour colour (colour_in n.1.colour) && (n.0 == task)) ms
        → list_any (λ (a : Asked). (a.colour == colour) && (a.task == task)) (cons_option (option_map (asked_as m) o) (filter_map asked_in ms))
        ≡ ((is_colour colour o && (m.0 == task)) || list_any (λ (n : ℕ × Chosen). is_colour colour (colour_in n.1.colour) && (n.0 == task)) ms)
    by None rest = rest
    by (Some c) rest = ap (λ r. ((c == colour) && (m.0 == task)) || r) rest

none_same : (p : ℕ × Chosen → Bool) (task : ℕ) (ms : List (ℕ × Chosen)) → AllByRecursion (λ (n : ℕ × Chosen). task ≢ n.0) ms → list_any (λ (n : ℕ × Chosen). p n && (n.0 == task)) ms ≡ false
none_same p task [] h = refl
none_same p task (m ∷ ms) h =
    and_no (p m) (m.0 == task) (list_any (λ (n : ℕ × Chosen). p n && (n.0 == task)) ms) (test_other m.0 task (λ e. h.0 (sym e))) (none_same p task ms h.1)
  where
    and_no : (a b r : Bool) → b ≡ false → r ≡ false → ((a && b) || r) ≡ false
    and_no true b r e f = ap (λ c. c || r) e ∙ f
    and_no false b r e f = f

abbrev pub Only : (ℕ × Chosen → Bool) → List (ℕ × Chosen) → ℕ × Chosen → Type 0
Only p ms m = list_any (λ (n : ℕ × Chosen). p n && (n.0 == m.0)) ms ≡ p m

only_more : (p : ℕ × Chosen → Bool) (x : ℕ × Chosen) (ms ns : List (ℕ × Chosen)) → AllByRecursion (λ (n : ℕ × Chosen). x.0 ≢ n.0) ns → AllByRecursion (Only p ms) ns → AllByRecursion (Only p (x ∷ ms)) ns
only_more p x ms [] h k = tt
only_more p x ms (n ∷ ns) h k =
    (and_other (p x) (x.0 == n.0) (list_any (λ (m : ℕ × Chosen). p m && (m.0 == n.0)) ms) (test_other x.0 n.0 h.0) ∙ k.0, only_more p x ms ns h.1 k.1)
  where
    and_other : (a b r : Bool) → b ≡ false → ((a && b) || r) ≡ r
    and_other true b r e = ap (λ c. c || r) e
    and_other false b r e = refl

pub only_one : (p : ℕ × Chosen → Bool) (ms : List (ℕ × Chosen)) → Differ ms → AllByRecursion (Only p ms) ms
only_one p [] h = tt
only_one p (x ∷ xs) h =
    (here (p x) (x.0 == x.0) (list_any (λ (n : ℕ × Chosen). p n && (n.0 == x.0)) xs) (test_same x.0) (none_same p x.0 xs h.0), only_more p x xs xs h.0 (only_one p xs h.1))
  where
    here : (a b r : Bool) → b ≡ true → r ≡ false → ((a && b) || r) ≡ a
    here true b r e f = ap (λ c. c || r) e
    here false b r e f = f

-- the tasks of MPI_COMM_WORLD are different
pub world_group : (tasks : ℕ) → tasks ≤ 256 → IsGroup (range_with_len 0 tasks)
world_group tasks few = record {
  few = omega (arith, length-range_with_len 0 tasks);
  once = λ i j d less within.
      let here : j < tasks = omega (arith, length-range_with_len 0 tasks) in
      let there : i < tasks = omega arith in
      λ same. absurd (omega (arith, get_or-range_with_len 0 tasks i d there, get_or-range_with_len 0 tasks j d here, same));
}

-- what a colour's tasks are is few
pub few_at : (asked : List Asked) (colour : ℕ) (tasks : List ℕ) → tasks ≡ tasks_at asked colour → length asked ≤ 256 → length tasks ≤ 256
few_at asked colour tasks is few = omega (arith, few, ap (λ (xs : List ℕ). length xs) is, few_tasks asked colour)
