-- The colours of a split: the list of them by rising number, each once, has one form.
use Rattle.std.proofs.Common.{◌≡◌, ◌≢◌, ◌⊎◌, inl, inr, ℕ, ◌≤◌, ◌<◌, suc, Bool, true, false, cond, ◌||◌, ◌==◌, List, [], ◌∷◌, refl, sym, ap, ◌∙◌, subst, arith}
use Rattle.std.specs.Prelude.{nat_lt, nat_eq, if◌then◌else◌}
use Rattle.std.specs.List.{AllByRecursion, list_any, dedup, dedup_from}
use Rattle.std.proofs.lemmas.Bool.Decides.{eqb_tells, leb_tells, Decides-eqb}
use Rattle.mpi_comm.specs.Splitting.{with_colour, rising}

-- each number is below all later ones
abbrev pub Rises : List ℕ → Type 0
Rises [] = Unit {0}
Rises (x ∷ xs) = AllByRecursion (λ y. x < y) xs × Rises xs

-- the number is in the list
abbrev pub has : List ℕ → ℕ → Bool
has xs q = list_any (λ y. y == q) xs

all_above : (a b : ℕ) → a < b → (xs : List ℕ) → AllByRecursion (λ y. b < y) xs → AllByRecursion (λ y. a < y) xs
all_above a b h [] k = tt
all_above a b h (x ∷ xs) k = (let up : b < x = k.0 in omega arith, all_above a b h xs k.1)

pub test_same : (a : ℕ) → (a == a) ≡ true
test_same a = (Decides-eqb a a).1 refl

pub test_other : (a b : ℕ) → a ≢ b → (a == b) ≡ false
test_other a b h = by (eqb_tells a b)
  where
    by : ((a == b) ≡ true) × (a ≡ b) ⊎ ((a == b) ≡ false) × (a ≢ b) → (a == b) ≡ false
    by (inl is) = absurd (h is.1)
    by (inr not_) = not_.0

pub other_from_test : (a b : ℕ) → (a == b) ≡ false → a ≢ b
other_from_test a b h e = let same : (a == b) ≡ true = (Decides-eqb a b).1 e in let wrong : false ≡ true = sym h ∙ same in absurd (cc)

-- no number above is the number
has_above : (a : ℕ) (xs : List ℕ) → AllByRecursion (λ y. a < y) xs → has xs a ≡ false
has_above a [] h = refl
has_above a (x ∷ xs) h =
    let up : a < x = h.0 in
    ap (λ b. b || has xs a) (test_other x a (λ e. absurd (omega arith))) ∙ has_above a xs h.1

has_first : (x : ℕ) (xs : List ℕ) → has (x ∷ xs) x ≡ true
has_first x xs = ap (λ b. b || has xs x) (test_same x)

-- a first number is not below that of a list with the same numbers
not_below : (x : ℕ) (xs : List ℕ) (y : ℕ) (ys : List ℕ) → Rises (y ∷ ys) → has (x ∷ xs) x ≡ has (y ∷ ys) x → x < y → ⊥
not_below x xs y ys h e less =
    let none : has (y ∷ ys) x ≡ false = has_above x (y ∷ ys) (less, all_above x y less ys h.0) in
    let no : true ≡ false = sym (has_first x xs) ∙ (e ∙ none) in
    absurd (cc)

rest_has : (x q : ℕ) (xs ys : List ℕ) → AllByRecursion (λ y. x < y) xs → AllByRecursion (λ y. x < y) ys → ((x == q) || has xs q) ≡ ((x == q) || has ys q) → has xs q ≡ has ys q
rest_has x q xs ys h k e = by (eqb_tells x q)
  where
    by : ((x == q) ≡ true) × (x ≡ q) ⊎ ((x == q) ≡ false) × (x ≢ q) → has xs q ≡ has ys q
    by (inl is) = ap (has xs) (sym is.1) ∙ (has_above x xs h ∙ (sym (has_above x ys k) ∙ ap (has ys) is.1))
    by (inr not_) = ap (λ b. b || has xs q) (sym not_.0) ∙ (e ∙ ap (λ b. b || has ys q) not_.0)

neither : (x y : ℕ) → (x < y → ⊥) → (y < x → ⊥) → x ≡ y
neither x y up down = by (leb_tells (suc x) y) (leb_tells (suc y) x)
  where
    by : ((nat_lt x y ≡ true) × (suc x ≤ y)) ⊎ ((nat_lt x y ≡ false) × (y < suc x)) → ((nat_lt y x ≡ true) × (suc y ≤ x)) ⊎ ((nat_lt y x ≡ false) × (x < suc y)) → x ≡ y
    by (inl less) b = let h : suc x ≤ y = less.1 in absurd (up (omega arith))
    by (inr least) (inl more) = let h : suc y ≤ x = more.1 in absurd (down (omega arith))
    by (inr least) (inr most) = let h : y < suc x = least.1 in let h' : x < suc y = most.1 in omega arith

-- two rising lists with the same numbers are one list
pub same_rising : (xs ys : List ℕ) → Rises xs → Rises ys → ((q : ℕ) → has xs q ≡ has ys q) → xs ≡ ys
same_rising [] [] h k e = refl
same_rising [] (y ∷ ys) h k e = let no : false ≡ true = e y ∙ has_first y ys in absurd (cc)
same_rising (x ∷ xs) [] h k e = let no : true ≡ false = sym (has_first x xs) ∙ e x in absurd (cc)
same_rising (x ∷ xs) (y ∷ ys) h k e =
    let up : x < y → ⊥ = not_below x xs y ys k (e x) in
    let down : y < x → ⊥ = not_below y ys x xs h (sym (e y)) in
    let first : x ≡ y = neither x y up down in
    let above : AllByRecursion (λ z. x < z) ys = subst (λ w. AllByRecursion (λ z. w < z) ys) (sym first) k.0 in
    let rest : xs ≡ ys = same_rising xs ys h.1 k.1 (λ q. rest_has x q xs ys h.0 above (e q ∙ ap (λ w. (w == q) || has ys q) (sym first))) in
    cc

or_same : (b r : Bool) → (b || (b || r)) ≡ (b || r)
or_same true r = refl
or_same false r = refl

or_swap : (a b r : Bool) → (a || (b || r)) ≡ (b || (a || r))
or_swap true true r = refl
or_swap true false r = refl
or_swap false b r = refl

has_with : (c : ℕ) (xs : List ℕ) (q : ℕ) → has (with_colour c xs) q ≡ ((c == q) || has xs q)
has_with c [] q = refl
has_with c (first ∷ more) q = by (eqb_tells first c) (nat_lt first c) (has_with c more q)
  where
    later : (b : Bool) → has (with_colour c more) q ≡ ((c == q) || has more q) → has (if b then first ∷ with_colour c more else c ∷ first ∷ more) q ≡ ((c == q) || has (first ∷ more) q)
    later true rest = ap (λ r. (first == q) || r) rest ∙ or_swap (first == q) (c == q) (has more q)
    later false rest = refl

    by : ((first == c) ≡ true) × (first ≡ c) ⊎ ((first == c) ≡ false) × (first ≢ c) → (b : Bool) → has (with_colour c more) q ≡ ((c == q) || has more q)
        → has (if first == c then first ∷ more else if b then first ∷ with_colour c more else c ∷ first ∷ more) q ≡ ((c == q) || has (first ∷ more) q)
    by (inl is) b rest =
        ap (λ t. has (if t then first ∷ more else if b then first ∷ with_colour c more else c ∷ first ∷ more) q) is.0
        ∙ (sym (or_same (first == q) (has more q)) ∙ ap (λ w. (w == q) || ((first == q) || has more q)) is.1)
    by (inr not_) b rest =
        ap (λ t. has (if t then first ∷ more else if b then first ∷ with_colour c more else c ∷ first ∷ more) q) not_.0 ∙ later b rest

above_with : (a c : ℕ) (xs : List ℕ) → a < c → AllByRecursion (λ y. a < y) xs → AllByRecursion (λ y. a < y) (with_colour c xs)
above_with a c [] less h = (less, tt)
above_with a c (first ∷ more) less h = by (first == c) (nat_lt first c) (above_with a c more less h.1)
  where
    by : (b d : Bool) → AllByRecursion (λ y. a < y) (with_colour c more) → AllByRecursion (λ y. a < y) (if b then first ∷ more else if d then first ∷ with_colour c more else c ∷ first ∷ more)
    by true d rest = h
    by false true rest = (h.0, rest)
    by false false rest = (less, h)

rises_with : (c : ℕ) (xs : List ℕ) → Rises xs → Rises (with_colour c xs)
rises_with c [] h = (tt, tt)
rises_with c (first ∷ more) h = by (eqb_tells first c) (leb_tells (suc first) c) (rises_with c more h.1)
  where
    later : first ≢ c → Rises (with_colour c more) → ((nat_lt first c ≡ true) × (suc first ≤ c)) ⊎ ((nat_lt first c ≡ false) × (c < suc first)) → Rises (if nat_lt first c then first ∷ with_colour c more else c ∷ first ∷ more)
    later apart rest (inl up) =
        let above : suc first ≤ c = up.1 in
        subst (λ t. Rises (if t then first ∷ with_colour c more else c ∷ first ∷ more)) (sym up.0) (above_with first c more (omega arith) h.0, rest)
    later apart rest (inr down) =
        let below : c < suc first = down.1 in
        let less : c < first = omega arith in
        subst (λ t. Rises (if t then first ∷ with_colour c more else c ∷ first ∷ more)) (sym down.0) ((less, all_above c first less more h.0), h)

    by : ((first == c) ≡ true) × (first ≡ c) ⊎ ((first == c) ≡ false) × (first ≢ c) → ((nat_lt first c ≡ true) × (suc first ≤ c)) ⊎ ((nat_lt first c ≡ false) × (c < suc first)) → Rises (with_colour c more)
        → Rises (if first == c then first ∷ more else if nat_lt first c then first ∷ with_colour c more else c ∷ first ∷ more)
    by (inl is) order rest = subst (λ t. Rises (if t then first ∷ more else if nat_lt first c then first ∷ with_colour c more else c ∷ first ∷ more)) (sym is.0) h
    by (inr not_) order rest = subst (λ t. Rises (if t then first ∷ more else if nat_lt first c then first ∷ with_colour c more else c ∷ first ∷ more)) (sym not_.0) (later not_.1 rest order)

pub rises_rising : (colours : List ℕ) → Rises (rising colours)
rises_rising [] = tt
rises_rising (colour ∷ more) = rises_with colour (rising more) (rises_rising more)

pub has_rising : (colours : List ℕ) (q : ℕ) → has (rising colours) q ≡ has colours q
has_rising [] q = refl
has_rising (colour ∷ more) q = has_with colour (rising more) q ∙ ap (λ r. (colour == q) || r) (has_rising more q)

-- what `dedup` leaves of a list that does not fall
abbrev pub Climbs : List ℕ → Type 0
Climbs [] = Unit {0}
Climbs (x ∷ xs) = AllByRecursion (λ y. x ≤ y) xs × Climbs xs

has_dedup_from : (k : ℕ) (xs : List ℕ) (q : ℕ) → has (dedup_from nat_eq k xs) q ≡ ((k == q) || has xs q)
has_dedup_from k [] q = refl
has_dedup_from k (x ∷ xs) q = by (eqb_tells x k) (has_dedup_from k xs q) (has_dedup_from x xs q)
  where
    by : ((x == k) ≡ true) × (x ≡ k) ⊎ ((x == k) ≡ false) × (x ≢ k) → has (dedup_from nat_eq k xs) q ≡ ((k == q) || has xs q) → has (dedup_from nat_eq x xs) q ≡ ((x == q) || has xs q)
        → has (cond (nat_eq x k) (dedup_from nat_eq k xs) (k ∷ dedup_from nat_eq x xs)) q ≡ ((k == q) || has (x ∷ xs) q)
    by (inl is) here there =
        ap (λ t. has (cond t (dedup_from nat_eq k xs) (k ∷ dedup_from nat_eq x xs)) q) is.0
        ∙ (here ∙ (sym (or_same (k == q) (has xs q)) ∙ ap (λ w. (k == q) || ((w == q) || has xs q)) (sym is.1)))
    by (inr not_) here there =
        ap (λ t. has (cond t (dedup_from nat_eq k xs) (k ∷ dedup_from nat_eq x xs)) q) not_.0
        ∙ ap (λ r. (k == q) || r) there

above_from : (a k : ℕ) → a < k → (xs : List ℕ) → AllByRecursion (λ y. k ≤ y) xs → AllByRecursion (λ y. a < y) xs
above_from a k less [] h = tt
above_from a k less (x ∷ xs) h = (let up : k ≤ x = h.0 in omega arith, above_from a k less xs h.1)

above_dedup : (a k : ℕ) (xs : List ℕ) → a < k → AllByRecursion (λ y. a < y) xs → AllByRecursion (λ y. a < y) (dedup_from nat_eq k xs)
above_dedup a k [] less h = (less, tt)
above_dedup a k (x ∷ xs) less h = by (nat_eq x k) (above_dedup a k xs less h.1) (above_dedup a x xs h.0 h.1)
  where
    by : (t : Bool) → AllByRecursion (λ y. a < y) (dedup_from nat_eq k xs) → AllByRecursion (λ y. a < y) (dedup_from nat_eq x xs) → AllByRecursion (λ y. a < y) (cond t (dedup_from nat_eq k xs) (k ∷ dedup_from nat_eq x xs))
    by true here there = here
    by false here there = (less, there)

rises_dedup_from : (k : ℕ) (xs : List ℕ) → AllByRecursion (λ y. k ≤ y) xs → Climbs xs → Rises (dedup_from nat_eq k xs)
rises_dedup_from k [] h c = (tt, tt)
rises_dedup_from k (x ∷ xs) h c = by (eqb_tells x k) (rises_dedup_from k xs h.1 c.1) (rises_dedup_from x xs c.0 c.1)
  where
    by : ((x == k) ≡ true) × (x ≡ k) ⊎ ((x == k) ≡ false) × (x ≢ k) → Rises (dedup_from nat_eq k xs) → Rises (dedup_from nat_eq x xs) → Rises (cond (nat_eq x k) (dedup_from nat_eq k xs) (k ∷ dedup_from nat_eq x xs))
    by (inl is) here there = subst (λ t. Rises (cond t (dedup_from nat_eq k xs) (k ∷ dedup_from nat_eq x xs))) (sym is.0) here
    by (inr not_) here there =
        let apart : x ≢ k = not_.1 in
        let least : k ≤ x = h.0 in
        subst (λ t. Rises (cond t (dedup_from nat_eq k xs) (k ∷ dedup_from nat_eq x xs))) (sym not_.0)
        (above_dedup k x xs (omega arith) (above_from k x (omega arith) xs c.0), there)

pub rises_dedup : (xs : List ℕ) → Climbs xs → Rises (dedup nat_eq xs)
rises_dedup [] c = tt
rises_dedup (x ∷ xs) c = rises_dedup_from x xs c.0 c.1

has_dedup : (xs : List ℕ) (q : ℕ) → has (dedup nat_eq xs) q ≡ has xs q
has_dedup [] q = refl
has_dedup (x ∷ xs) q = has_dedup_from x xs q

-- a list that does not fall, without what repeats, is the rising list of the same numbers
pub dedup_rising : (xs colours : List ℕ) → Climbs xs → ((q : ℕ) → has xs q ≡ has colours q) → dedup nat_eq xs ≡ rising colours
dedup_rising xs colours h e =
    same_rising (dedup nat_eq xs) (rising colours) (rises_dedup xs h) (rises_rising colours) (λ q. has_dedup xs q ∙ (e q ∙ sym (has_rising colours q)))
