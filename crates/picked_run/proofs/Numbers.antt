-- Numbers of a range that pass a test, or none of which does.
use Rattle.std.proofs.Common.{◌≡◌, ◌<◌, ◌≤◌, ◌+◌, ◌⊎◌, ◌&&◌, inl, inr, ℕ, zero, suc, Bool, true, false, if◌then◌else◌, List, [], ◌∷◌, filter, find, slice_get, Option, Some, None, refl, sym, ap, ◌∙◌, arith}
use Rattle.std.specs.List.{range_with_len, list_all, enumerate_from}
use Rattle.node_core.proofs.Places.{same_or_other}

some_or : (x : ℕ) (rest : Option ℕ) (b : Bool) → (if b then Some x else rest) ≡ None → (b ≡ false) × (rest ≡ None)
some_or x rest true h = absurd (cc h)
some_or x rest false h = (refl, h)

-- where nothing is found in a range, each number of it fails
pub fails_at : (p : ℕ → Bool) (a n : ℕ) → find p (range_with_len a n) ≡ None → (k : ℕ) → a ≤ k → k < a + n → p k ≡ false
fails_at p a zero none k low high = absurd (omega (arith, low, high))
fails_at p a (suc n) none k low high =
    let both = some_or a (find p (range_with_len (a + 1) n)) (p a) none in
    elim (same_or_other k a) [
      | inl same ↦ ap p same ∙ both.0
      | inr other ↦ fails_at p (a + 1) n both.1 k (let off : k ≡ a → ⊥ = other in omega (arith, low, off)) (omega (arith, high))
    ]

cons_or : (x : ℕ) (rest : List ℕ) (b : Bool) → (if b then x ∷ rest else rest) ≡ [] → (b ≡ false) × (rest ≡ [])
cons_or x rest true h = absurd (cc h)
cons_or x rest false h = (refl, h)

pub none_of : (p : ℕ → Bool) (a n : ℕ) → filter p (range_with_len a n) ≡ [] → (k : ℕ) → a ≤ k → k < a + n → p k ≡ false
none_of p a zero none k low high = absurd (omega (arith, low, high))
none_of p a (suc n) none k low high =
    let both = cons_or a (filter p (range_with_len (a + 1) n)) (p a) none in
    elim (same_or_other k a) [
      | inl same ↦ ap p same ∙ both.0
      | inr other ↦ none_of p (a + 1) n both.1 k (let off : k ≡ a → ⊥ = other in omega (arith, low, off)) (omega (arith, high))
    ]

found_first : (p : ℕ → Bool) (x y : ℕ) (rest : Option ℕ) (b : Bool) → p x ≡ b → (if b then Some x else rest) ≡ Some y → (p y ≡ true) ⊎ (rest ≡ Some y)
found_first p x y rest true is h = inl (let e : x ≡ y = cc in ap p (sym e) ∙ is)
found_first p x y rest false is h = inr h

-- what is found passes
pub found_passes : (p : ℕ → Bool) (xs : List ℕ) (y : ℕ) → find p xs ≡ Some y → p y ≡ true
found_passes p [] y h = absurd (cc h)
found_passes p (x ∷ xs) y h =
    elim (found_first p x y (find p xs) (p x) refl h) [
      | inl passes ↦ passes
      | inr later ↦ found_passes p xs y later
    ]

filter_first : (p : ℕ → Bool) (x y i : ℕ) (rest : List ℕ) (b : Bool) → p x ≡ b → slice_get (if b then x ∷ rest else rest) i ≡ Some y → (p y ≡ true) ⊎ ((j : ℕ) × (slice_get rest j ≡ Some y))
filter_first p x y zero rest true is h = inl (let e : x ≡ y = cc in ap p (sym e) ∙ is)
filter_first p x y (suc i) rest true is h = inr (i, h)
filter_first p x y i rest false is h = inr (i, h)

pub filter_passes : (p : ℕ → Bool) (xs : List ℕ) (i y : ℕ) → slice_get (filter p xs) i ≡ Some y → p y ≡ true
filter_passes p [] i y h = absurd (cc h)
filter_passes p (x ∷ xs) i y h =
    elim (filter_first p x y i (filter p xs) (p x) refl h) [
      | inl passes ↦ passes
      | inr later ↦ filter_passes p xs later.0 y later.1
    ]

and_fails : (a b : Bool) → (a && b) ≡ false → (a ≡ false) ⊎ (b ≡ false)
and_fails true b h = inr h
and_fails false b h = inl refl

-- where not all items pass, one fails
pub one_fails : {X : Type 0} (p : ℕ × X → Bool) (k : ℕ) (xs : List X) → list_all p (enumerate_from k xs) ≡ false → (i : ℕ) × (x : X) × (slice_get xs i ≡ Some x) × (p (k + i, x) ≡ false)
one_fails p k [] h = absurd (cc h)
one_fails p k (x ∷ xs) h =
    elim (and_fails (p (k, x)) (list_all p (enumerate_from (k + 1) xs)) h) [
      | inl here ↦ let none : k + 0 ≡ k = omega arith in (0, x, refl, ap (λ n. p (n, x)) none ∙ here)
      | inr later ↦
          let (i, y, at, fails) = one_fails p (k + 1) xs later in
          let one_more : k + suc i ≡ k + 1 + i = omega arith in
          (suc i, y, at, ap (λ n. p (n, y)) one_more ∙ fails)
    ]
