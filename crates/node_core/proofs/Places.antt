-- Lists by place, and lists that are related place by place.
use Rattle.std.proofs.Common.{◌≡◌, ◌<◌, ◌⊎◌, inl, inr, ℕ, zero, suc, List, [], ◌∷◌, map, length, slice_get, slice_set, Some, refl, sym, ap, subst, ◌∙◌, arith}
use Rattle.std.proofs.lemmas.Option.{slice_get_within}
use Rattle.run_model.specs.World.{TaskState, Core}
use Rattle.run_model.specs.Outcomes.{state_of, state_at, with_state}
use Rattle.node_core.specs.Each.{Each}

pub get_set_same : {X : Type 0} (xs : List X) (i : ℕ) (x : X) → i < length xs → slice_get (slice_set xs i x) i ≡ Some x
get_set_same [] i x h = absurd (omega arith)
get_set_same (y ∷ xs) zero x h = refl
get_set_same (y ∷ xs) (suc i) x h = get_set_same xs i x (omega arith)

pub get_set_other : {X : Type 0} (xs : List X) (i j : ℕ) (x : X) → (j ≡ i → ⊥) → slice_get (slice_set xs i x) j ≡ slice_get xs j
get_set_other [] i j x h = refl
get_set_other (y ∷ xs) zero zero x h = absurd (h refl)
get_set_other (y ∷ xs) zero (suc j) x h = refl
get_set_other (y ∷ xs) (suc i) zero x h = refl
get_set_other (y ∷ xs) (suc i) (suc j) x h = get_set_other xs i j x (λ e. h (ap suc e))

pub length_set : {X : Type 0} (xs : List X) (i : ℕ) (x : X) → length (slice_set xs i x) ≡ length xs
length_set [] i x = refl
length_set (y ∷ xs) zero x = refl
length_set (y ∷ xs) (suc i) x = ap suc (length_set xs i x)

-- to put in what is there changes nothing
pub set_same : {X : Type 0} (xs : List X) (i : ℕ) (x : X) → slice_get xs i ≡ Some x → slice_set xs i x ≡ xs
set_same [] i x h = refl
set_same (y ∷ xs) zero x h = let e : y ≡ x = cc in ap (λ z. z ∷ xs) (sym e)
set_same (y ∷ xs) (suc i) x h = ap (λ ys. y ∷ ys) (set_same xs i x h)

pub map_set : {X : Type 0} {Y : Type 0} (f : X → Y) (xs : List X) (i : ℕ) (x : X) → map f (slice_set xs i x) ≡ slice_set (map f xs) i (f x)
map_set f [] i x = refl
map_set f (y ∷ xs) zero x = refl
map_set f (y ∷ xs) (suc i) x = ap (λ ys. f y ∷ ys) (map_set f xs i x)

pub get_map : {X : Type 0} {Y : Type 0} (f : X → Y) (xs : List X) (i : ℕ) (x : X) → slice_get xs i ≡ Some x → slice_get (map f xs) i ≡ Some (f x)
get_map f [] i x h = absurd (cc h)
get_map f (y ∷ xs) zero x h = let e : y ≡ x = cc in ap (λ z. Some (f z)) e
get_map f (y ∷ xs) (suc i) x h = get_map f xs i x h

pub length_map : {X : Type 0} {Y : Type 0} (f : X → Y) (xs : List X) → length (map f xs) ≡ length xs
length_map f [] = refl
length_map f (x ∷ xs) = ap suc (length_map f xs)

pub get_there : {X : Type 0} (xs : List X) (i : ℕ) → i < length xs → (x : X) × (slice_get xs i ≡ Some x)
get_there [] i h = absurd (omega arith)
get_there (y ∷ xs) zero h = (y, refl)
get_there (y ∷ xs) (suc i) h = get_there xs i (omega arith)

pub state_of-with : (core : Core) (task : ℕ) (state : TaskState) → task < length core.tasks → state_of (with_state core task state) task ≡ state
state_of-with core task state h = ap state_at (get_set_same core.tasks task state h)

pub set_state_same : (core : Core) (task : ℕ) → task < length core.tasks → slice_set core.tasks task (state_of core task) ≡ core.tasks
set_state_same core task h =
    let (state, at) = get_there core.tasks task h in
    set_same core.tasks task (state_of core task) (at ∙ ap Some (sym (ap state_at at)))

pub same_or_other : (i j : ℕ) → (i ≡ j) ⊎ (i ≡ j → ⊥)
same_or_other zero zero = inl refl
same_or_other zero (suc j) = inr (λ e. omega arith)
same_or_other (suc i) zero = inr (λ e. omega arith)
same_or_other (suc i) (suc j) = elim (same_or_other i j) [ inl e ↦ inl (ap suc e) | inr other ↦ inr (λ e. let e' : i ≡ j = omega arith in other e') ]

-- what stands at a place after a change
pub set_at : {X : Type 0} (xs : List X) (i j : ℕ) (x a : X) → j ≡ i → slice_get (slice_set xs i x) j ≡ Some a → x ≡ a
set_at xs i j x a same here =
    let within : j < length (slice_set xs i x) = slice_get_within (slice_set xs i x) j a here in
    let less : i < length xs = let long = length_set xs i x in omega arith in
    let got : slice_get (slice_set xs i x) i ≡ Some x = get_set_same xs i x less in
    let got' : Some x ≡ Some a = sym got ∙ ap (slice_get (slice_set xs i x)) (sym same) ∙ here in
    cc

-- a related pair in the place of another keeps the relation of two lists
pub each_set : {A : Type 0} {B : Type 0} (R : A → B → Type 0) (xs : List A) (ys : List B) (i : ℕ) (x : A) (y : B) → Each R xs ys → R x y → Each R (slice_set xs i x) (slice_set ys i y)
each_set R xs ys i x y e r = record {
  same = length_set xs i x ∙ e.same ∙ sym (length_set ys i y);
  at = λ j a b here there. elim (same_or_other j i) [
    | inl same ↦ let f : x ≡ a = set_at xs i j x a same here in let g : y ≡ b = set_at ys i j y b same there in
        subst (λ z. R a z) g (subst (λ z. R z y) f r)
    | inr other ↦ e.at j a b (sym (get_set_other xs i j x other) ∙ here) (sym (get_set_other ys i j y other) ∙ there)
  ];
}

pub each_same : {A : Type 0} (R : A → A → Type 0) (xs : List A) → ((x : A) → R x x) → Each R xs xs
each_same R xs r = record { same = refl; at = λ i x y here there. let e : x ≡ y = cc in subst (λ z. R x z) e (r x) }
