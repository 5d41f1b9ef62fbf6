-- Lists by rank: what is found for each rank, and how many there are.
use Rattle.std.proofs.Common.{◌≡◌, ◌≢◌, ℕ, zero, suc, ◌+◌, ◌<◌, ◌≤◌, Bool, true, false, cond, List, [], ◌∷◌, ◌++◌, length, map, drop, get_or, set, ◌⊎◌, inl, inr, refl, ap, sym, ◌∙◌, add-one, arith}
use Rattle.std.specs.Prelude.{Option, Some, None, is_some, filter_map, slice_get, count_by}
use Rattle.std.specs.List.{range_with_len, last_or, cons_option}
use Rattle.std.proofs.lemmas.Bool.{false≢true, cases_eq}
use Rattle.std.proofs.lemmas.List.Sums.{sum_by-cons, sum_by-set, get_or-le-sum_by, count_by-le-length}
use Rattle.std.proofs.lemmas.List.{length-set, get_or-set_other}
use Rattle.std.proofs.lemmas.List.FromFn.{length-map-range_with_len, get_or-map-range_with_len}
use Rattle.std.proofs.lemmas.Option.{slice_get-get_or}

either : {A B C : Type 0} → (A ⊎ B) → (B → C) → A ⊎ C
either (inl a) f = inl a
either (inr b) f = inr (f b)

next_place : {A B : Type 0} {i n : ℕ} → A ⊎ ((i ≡ n) × B) → A ⊎ ((suc i ≡ suc n) × B)
next_place (inl old) = inl old
next_place (inr new) = inr (ap suc new.0, new.1)

next_of : {A B : Type 0} {i k : ℕ} → ((i ≡ k) × A) ⊎ ((i ≢ k) × B) → ((suc i ≡ suc k) × A) ⊎ ((suc i ≢ suc k) × B)
next_of (inl here) = inl (ap suc here.0, here.1)
next_of (inr there) = inr (λ e. there.0 (omega (arith, e)), there.1)

module _ {Y : Type 0} where
  -- what is found for the same ranks
  pub filter_map-same : (f g : ℕ → Option Y) (a n : ℕ) → ((k : ℕ) → k < a + n → f k ≡ g k) → filter_map f (range_with_len a n) ≡ filter_map g (range_with_len a n)
  filter_map-same f g a zero same = refl
  filter_map-same f g a (suc n) same =
      let here : f a ≡ g a = same a (omega arith) in
      rw (here, filter_map-same f g (a + 1) n (λ k h. same k (omega arith))) refl

  le_front : (o : Option Y) (ys : List Y) (n : ℕ) → length ys ≤ n → length (cons_option o ys) ≤ suc n
  le_front None ys n h = omega arith
  le_front (Some y) ys n h = omega arith

  -- at most one is found for each rank
  pub length-filter_map-le : (f : ℕ → Option Y) (a n : ℕ) → length (filter_map f (range_with_len a n)) ≤ n
  length-filter_map-le f a zero = omega arith
  length-filter_map-le f a (suc n) = le_front (f a) (filter_map f (range_with_len (a + 1) n)) n (length-filter_map-le f (a + 1) n)

  all_front : (o : Option Y) (ys : List Y) (n : ℕ) → is_some o ≡ true → length ys ≡ n → length (cons_option o ys) ≡ suc n
  all_front None ys n aye h = absurd (false≢true aye)
  all_front (Some y) ys n aye h = omega arith

  -- one is found for each rank
  pub length-filter_map-all : (f : ℕ → Option Y) (a n : ℕ) → ((k : ℕ) → k < a + n → a ≤ k → is_some (f k) ≡ true) → length (filter_map f (range_with_len a n)) ≡ n
  length-filter_map-all f a zero found = refl
  length-filter_map-all f a (suc n) found =
      all_front (f a) (filter_map f (range_with_len (a + 1) n)) n (found a (omega arith) (omega arith))
      (length-filter_map-all f (a + 1) n (λ k h g. found k (omega arith) (omega arith)))

  here_front : (o : Option Y) (ys : List Y) (n : ℕ) → is_some o ≡ false → length ys ≤ n → length (cons_option o ys) < suc n
  here_front None ys n nay h = omega arith
  here_front (Some y) ys n nay h = absurd (false≢true (sym nay))

  later_front : (o : Option Y) (ys : List Y) (n : ℕ) → length ys < n → length (cons_option o ys) < suc n
  later_front None ys n h = omega arith
  later_front (Some y) ys n h = omega arith

  lt_front : (f : ℕ → Option Y) (a n k : ℕ) → is_some (f k) ≡ false → (k ≡ a) ⊎ (length (filter_map f (range_with_len (a + 1) n)) < n) → length (filter_map f (range_with_len a (suc n))) < suc n
  lt_front f a n k nay (inl same) = here_front (f a) (filter_map f (range_with_len (a + 1) n)) n (ap (λ i. is_some (f i)) (sym same) ∙ nay) (length-filter_map-le f (a + 1) n)
  lt_front f a n k nay (inr h) = later_front (f a) (filter_map f (range_with_len (a + 1) n)) n h

  -- nothing is found for some rank
  pub length-filter_map-lt : (f : ℕ → Option Y) (a n k : ℕ) → a ≤ k → k < a + n → is_some (f k) ≡ false → length (filter_map f (range_with_len a n)) < n
  length-filter_map-lt f a zero k low high nay = absurd (omega arith)
  length-filter_map-lt f a (suc n) k low high nay = lt_front f a n k nay (either (cases_eq k a) (λ other. length-filter_map-lt f (a + 1) n k (omega arith) (omega arith) nay))

-- what is found for each rank, as a list
pub filter_map-each : {X Y : Type 0} (f : ℕ → Option Y) (g : Y → X) (xs : List X) (a : ℕ) → ((k : ℕ) (x : X) → slice_get xs k ≡ Some x → (y : Y) × (f (a + k) ≡ Some y) × (x ≡ g y)) → xs ≡ map g (filter_map f (range_with_len a (length xs)))
filter_map-each f g [] a each = refl
filter_map-each f g (x ∷ xs) a each =
    let here = each 0 x refl in
    let found : f a ≡ Some here.0 = ap f (omega arith) ∙ here.1 in
    rw (found, ← here.2) (ap (λ zs. x ∷ zs) (filter_map-each f g xs (a + 1) (λ k y got. let e = each (suc k) y got in (e.0, ap f (omega arith) ∙ e.1, e.2))))

module _ {X : Type 0} where
  -- the last of a list with one more
  pub last_or-push : (o : Option X) (xs : List X) (x : X) → last_or o (xs ++ x ∷ []) ≡ Some x
  last_or-push o [] x = refl
  last_or-push o (y ∷ xs) x = last_or-push (Some y) xs x

  last_or-from : (x : X) (xs : List X) → (y : X) × (last_or (Some x) xs ≡ Some y)
  last_or-from x [] = (x, refl)
  last_or-from x (y ∷ xs) = last_or-from y xs

  -- a list with items has a last one
  pub last_or-some : (xs : List X) → 0 < length xs → (x : X) × (last_or None xs ≡ Some x)
  last_or-some [] h = absurd (omega arith)
  last_or-some (x ∷ xs) h = last_or-from x xs

  fails_front : (p : X → Bool) (x : X) (xs : List X) (d : X) → count_by p (x ∷ xs) < length (x ∷ xs)
      → (count_by p xs < length xs → (i : ℕ) × (i < length xs) × (p (get_or xs i d) ≡ false))
      → (b : Bool) → p x ≡ b → (i : ℕ) × (i < length (x ∷ xs)) × (p (get_or (x ∷ xs) i d) ≡ false)
  fails_front p x xs d h rest false e = (0, omega arith, e)
  fails_front p x xs d h rest true e =
      let one : count_by p (x ∷ xs) ≡ 1 + count_by p xs = sum_by-cons (λ y. cond (p y) 1 0) x xs ∙ ap (λ b. cond b 1 0 + count_by p xs) e in
      let more = rest (omega (arith, one, h)) in
      (suc more.0, omega (arith, more.1), more.2)

  -- fewer than all pass, so one does not
  pub fails_somewhere : (p : X → Bool) (xs : List X) (d : X) → count_by p xs < length xs → (i : ℕ) × (i < length xs) × (p (get_or xs i d) ≡ false)
  fails_somewhere p [] d h = absurd (omega arith)
  fails_somewhere p (x ∷ xs) d h = fails_front p x xs d h (fails_somewhere p xs d) (p x) refl

  passes_front : (p : X → Bool) (x : X) (xs : List X) (d : X) → 0 < count_by p (x ∷ xs)
      → (0 < count_by p xs → (i : ℕ) × (i < length xs) × (p (get_or xs i d) ≡ true))
      → (b : Bool) → p x ≡ b → (i : ℕ) × (i < length (x ∷ xs)) × (p (get_or (x ∷ xs) i d) ≡ true)
  passes_front p x xs d h rest true e = (0, omega arith, e)
  passes_front p x xs d h rest false e =
      let none : count_by p (x ∷ xs) ≡ 0 + count_by p xs = sum_by-cons (λ y. cond (p y) 1 0) x xs ∙ ap (λ b. cond b 1 0 + count_by p xs) e in
      let more = rest (omega (arith, none, h)) in
      (suc more.0, omega (arith, more.1), more.2)

  -- the count is above 0, so one passes
  pub passes_somewhere : (p : X → Bool) (xs : List X) (d : X) → 0 < count_by p xs → (i : ℕ) × (i < length xs) × (p (get_or xs i d) ≡ true)
  passes_somewhere p [] d h = absurd (omega arith)
  passes_somewhere p (x ∷ xs) d h = passes_front p x xs d h (passes_somewhere p xs d) (p x) refl

-- 1 for an item that passes
abbrev pub count_if : Bool → ℕ
count_if b = cond b 1 0

-- a change of one item changes a count by that item
pub count_by-set : {X : Type 0} (p : X → Bool) (xs : List X) (i : ℕ) (y d : X) → i < length xs → count_by p (set xs i y) + count_if (p (get_or xs i d)) ≡ count_by p xs + count_if (p y)
count_by-set p xs i y d h = sum_by-set (λ z. count_if (p z)) xs i y d h

-- some item passes, so the count is above 0
pub counts_some : {X : Type 0} (p : X → Bool) (xs : List X) (i : ℕ) (d : X) → i < length xs → p (get_or xs i d) ≡ true → 0 < count_by p xs
counts_some p xs i d h aye =
    let e : count_if (p (get_or xs i d)) ≤ count_by p xs = get_or-le-sum_by (λ z. count_if (p z)) xs i d h in
    let one : count_if (p (get_or xs i d)) ≡ 1 = ap count_if aye in
    omega (arith, e, one)

pub is_some-false : {X : Type 0} (o : Option X) → is_some o ≡ false → o ≡ None
is_some-false None h = refl
is_some-false (Some x) h = absurd (false≢true (sym h))

pub is_some-true : {X : Type 0} (o : Option X) → is_some o ≡ true → (x : X) × (o ≡ Some x)
is_some-true None h = absurd (false≢true h)
is_some-true (Some x) h = (x, refl)

-- items by place, behind one more and behind a change
module _ {X : Type 0} where
  pub there_is : (xs : List X) (i : ℕ) → i < length xs → (x : X) × (slice_get xs i ≡ Some x)
  there_is [] i h = absurd (omega arith)
  there_is (x ∷ xs) zero h = (x, refl)
  there_is (x ∷ xs) (suc i) h = there_is xs i (omega arith)

  pub slice_get-push_cases : (xs : List X) (y x : X) (i : ℕ) → slice_get (xs ++ y ∷ []) i ≡ Some x → (slice_get xs i ≡ Some x) ⊎ ((i ≡ length xs) × (x ≡ y))
  slice_get-push_cases [] y x zero got = inr (refl, cc)
  slice_get-push_cases [] y x (suc i) got = let nay : ⊥ = cc in absurd nay
  slice_get-push_cases (z ∷ xs) y x zero got = inl got
  slice_get-push_cases (z ∷ xs) y x (suc i) got = next_place (slice_get-push_cases xs y x i got)

  pub slice_get-push_old : (xs : List X) (y x : X) (i : ℕ) → slice_get xs i ≡ Some x → slice_get (xs ++ y ∷ []) i ≡ Some x
  slice_get-push_old [] y x i got = let nay : ⊥ = cc in absurd nay
  slice_get-push_old (z ∷ xs) y x zero got = got
  slice_get-push_old (z ∷ xs) y x (suc i) got = slice_get-push_old xs y x i got

  pub slice_get-push_last : (xs : List X) (y : X) → slice_get (xs ++ y ∷ []) (length xs) ≡ Some y
  slice_get-push_last [] y = refl
  slice_get-push_last (x ∷ xs) y = slice_get-push_last xs y

  pub slice_get-set_cases : (xs : List X) (k : ℕ) (y x : X) (i : ℕ) → slice_get (set xs k y) i ≡ Some x → ((i ≡ k) × (x ≡ y)) ⊎ ((i ≢ k) × (slice_get xs i ≡ Some x))
  slice_get-set_cases [] k y x i got = let nay : ⊥ = cc in absurd nay
  slice_get-set_cases (z ∷ xs) zero y x zero got = inl (refl, cc)
  slice_get-set_cases (z ∷ xs) zero y x (suc i) got = inr (λ e. omega (arith, e), got)
  slice_get-set_cases (z ∷ xs) (suc k) y x zero got = inr (λ e. omega (arith, e), got)
  slice_get-set_cases (z ∷ xs) (suc k) y x (suc i) got = next_of (slice_get-set_cases xs k y x i got)

  pub slice_get-set_same : (xs : List X) (k : ℕ) (y : X) → k < length xs → slice_get (set xs k y) k ≡ Some y
  slice_get-set_same [] k y h = absurd (omega arith)
  slice_get-set_same (z ∷ xs) zero y h = refl
  slice_get-set_same (z ∷ xs) (suc k) y h = slice_get-set_same xs k y (omega arith)

  pub slice_get-set_other : (xs : List X) (k : ℕ) (y : X) (i : ℕ) → i ≢ k → slice_get (set xs k y) i ≡ slice_get xs i
  slice_get-set_other [] k y i nay = refl
  slice_get-set_other (z ∷ xs) zero y zero nay = absurd (nay refl)
  slice_get-set_other (z ∷ xs) zero y (suc i) nay = refl
  slice_get-set_other (z ∷ xs) (suc k) y zero nay = refl
  slice_get-set_other (z ∷ xs) (suc k) y (suc i) nay = slice_get-set_other xs k y i (λ e. nay (ap suc e))

  pub slice_get-drop_1 : (xs : List X) (i : ℕ) → slice_get (drop 1 xs) i ≡ slice_get xs (i + 1)
  slice_get-drop_1 [] i = refl
  slice_get-drop_1 (x ∷ xs) i = rw add-one refl

  -- no item passes
  pub counts_none : (p : X → Bool) (xs : List X) (d : X) → ((i : ℕ) → i < length xs → p (get_or xs i d) ≡ false) → count_by p xs ≡ 0
  counts_none p [] d nay = refl
  counts_none p (x ∷ xs) d nay =
      let head : count_by p (x ∷ xs) ≡ count_if (p x) + count_by p xs = sum_by-cons (λ y. count_if (p y)) x xs in
      let none : count_if (p x) ≡ 0 = ap count_if (nay 0 (omega arith)) in
      let rest : count_by p xs ≡ 0 = counts_none p xs d (λ i h. nay (suc i) (omega arith)) in
      omega (arith, head, none, rest)

  -- an item that fails leaves the count below the length, two of them below that; some item would pass
  pub counts_below : (p : X → Bool) (xs : List X) (i : ℕ) (y d : X) → i < length xs → p (get_or xs i d) ≡ false → p y ≡ true → count_by p xs + 1 ≤ length xs
  counts_below p xs i y d h nay aye =
      let e : count_by p (set xs i y) + count_if (p (get_or xs i d)) ≡ count_by p xs + count_if (p y) = count_by-set p xs i y d h in
      let a : count_if (p (get_or xs i d)) ≡ 0 = ap count_if nay in
      let b : count_if (p y) ≡ 1 = ap count_if aye in
      omega (arith, e, a, b, count_by-le-length p (set xs i y), length-set xs i y)

  pub counts_below_two : (p : X → Bool) (xs : List X) (i j : ℕ) (y d : X) → i < length xs → j < length xs → j ≢ i → p (get_or xs i d) ≡ false → p (get_or xs j d) ≡ false → p y ≡ true
      → count_by p xs + 2 ≤ length xs
  counts_below_two p xs i j y d h g nay fails fails' aye =
      let e : count_by p (set xs i y) + count_if (p (get_or xs i d)) ≡ count_by p xs + count_if (p y) = count_by-set p xs i y d h in
      let a : count_if (p (get_or xs i d)) ≡ 0 = ap count_if fails in
      let b : count_if (p y) ≡ 1 = ap count_if aye in
      let long : length (set xs i y) ≡ length xs = length-set xs i y in
      let there : p (get_or (set xs i y) j d) ≡ false = ap p (get_or-set_other xs i j y d nay) ∙ fails' in
      let more : count_by p (set xs i y) + 1 ≤ length (set xs i y) = counts_below p (set xs i y) j y d (omega arith) there aye in
      omega arith

-- the item of a rank
pub slice_get_ranks : {X : Type 0} (f : ℕ → X) (n r : ℕ) → r < n → slice_get (map f (range_with_len 0 n)) r ≡ Some (f r)
slice_get_ranks f n r h =
    slice_get-get_or (map f (range_with_len 0 n)) r (f r) (omega (arith, h, length-map-range_with_len f 0 n))
    ∙ ap (λ x. Some x) (get_or-map-range_with_len f 0 n r r (f r) h (omega arith))

-- a list with a known item for each rank
pub ranks-each : {X : Type 0} (f : ℕ → X) (xs : List X) (a : ℕ) → ((k : ℕ) → k < length xs → slice_get xs k ≡ Some (f (a + k))) → xs ≡ map f (range_with_len a (length xs))
ranks-each f [] a each = refl
ranks-each f (x ∷ xs) a each =
    let here = each 0 (omega arith) in
    let is : x ≡ f a = (let e : f (a + 0) ≡ f a = ap f (omega arith) in cc) in
    rw (is, ← ranks-each f xs (a + 1) (λ k h. each (suc k) (omega arith) ∙ ap (λ n. Some (f n)) (omega arith))) refl

-- two lists with the same item for each rank
pub ranks-same : {X : Type 0} (f g : ℕ → X) (a n : ℕ) → ((k : ℕ) → k < a + n → f k ≡ g k) → map f (range_with_len a n) ≡ map g (range_with_len a n)
ranks-same f g a zero same = refl
ranks-same f g a (suc n) same =
    let here : f a ≡ g a = same a (omega arith) in
    rw (here, ranks-same f g (a + 1) n (λ k h. same k (omega arith))) refl

pub nil-from_length : {X : Type 0} (xs : List X) → length xs ≡ 0 → xs ≡ []
nil-from_length [] h = refl
nil-from_length (x ∷ xs) h = absurd (omega arith)
