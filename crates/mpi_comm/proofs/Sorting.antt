-- A stable sort has one answer: that of placing one element after the other.
use Rattle.std.proofs.Common.{◌≡◌, ℕ, ◌≤◌, ◌<◌, zero, suc, Bool, true, false, cond, not, ◌&&◌, List, [], ◌∷◌, ◌++◌, length, get_or, refl, sym, ap, ◌∙◌, subst, arith, append-nil, append_assoc}
use Rattle.std.specs.Prelude.{filter}
use Rattle.std.specs.Cmp.{IsStrictWeakOrder}
use Rattle.std.specs.List.{AllByRecursion}
use Rattle.std.specs.List.Sorted.{IsSortedBy, IsStableBy, ties}
use Rattle.std.proofs.lemmas.List.Elements.{recursion_from_All}
use Rattle.std.proofs.lemmas.List.Sorted.{sorted_far}

-- no element is less than an earlier one
abbrev pub Ascends : {X : Type 0} → (X → X → Bool) → List X → Type 0
Ascends lt [] = Unit {0}
Ascends lt (x ∷ xs) = AllByRecursion (λ y. lt y x ≡ false) xs × Ascends lt xs

-- one more element, after those that it is not less than
abbrev pub placed_by : {X : Type 0} → (X → X → Bool) → X → List X → List X
placed_by lt one [] = one ∷ []
placed_by lt one (first ∷ more) = cond (lt one first) (one ∷ first ∷ more) (first ∷ placed_by lt one more)

-- the elements of a list, placed one after the other
abbrev pub sorted_by : {X : Type 0} → (X → X → Bool) → List X → List X → List X
sorted_by lt sorted [] = sorted
sorted_by lt sorted (one ∷ more) = sorted_by lt (placed_by lt one sorted) more

all_weaker : {X : Type 0} (P Q : X → Type 0) → ((x : X) → P x → Q x) → (xs : List X) → AllByRecursion P xs → AllByRecursion Q xs
all_weaker P Q f [] h = tt
all_weaker P Q f (x ∷ xs) h = (f x h.0, all_weaker P Q f xs h.1)

filter_none : {X : Type 0} (t : X → Bool) (xs : List X) → AllByRecursion (λ y. t y ≡ false) xs → filter t xs ≡ []
filter_none t [] h = refl
filter_none t (x ∷ xs) h = ap (λ b. cond b (x ∷ filter t xs) (filter t xs)) h.0 ∙ filter_none t xs h.1

-- what holds of each element holds of the first that passes
first_passes : {X : Type 0} (P : X → Type 0) (t : X → Bool) (z : X) (rest xs : List X) → AllByRecursion P xs → filter t xs ≡ z ∷ rest → P z
first_passes P t z rest [] h e = let no : ⊥ = cc in absurd no
first_passes P t z rest (x ∷ xs) h e = by (t x) e (first_passes P t z rest xs h.1)
  where
    by : (b : Bool) → cond b (x ∷ filter t xs) (filter t xs) ≡ z ∷ rest → (filter t xs ≡ z ∷ rest → P z) → P z
    by true e' more = let e'' : x ∷ filter t xs ≡ z ∷ rest = e' in let same : x ≡ z = cc in subst P same h.0
    by false e' more = more e'

ascends_from_far : {X : Type 0} (lt : X → X → Bool) (xs : List X)
    → ((i j : ℕ) (d : X) → i ≤ j → j < length xs → lt (get_or xs j d) (get_or xs i d) ≡ false) → Ascends lt xs
ascends_from_far lt [] far = tt
ascends_from_far lt (x ∷ xs) far = (
  recursion_from_All (λ y. lt y x ≡ false) xs (λ k d h. far zero (suc k) d (omega arith) (omega arith)),
  ascends_from_far lt xs (λ i j d le h. far (suc i) (suc j) d (omega arith) (omega arith)),
)

module _ {X : Type 0} (lt : X → X → Bool) (o : IsStrictWeakOrder lt) where
  pub ascends_from_sorted : (xs : List X) → IsSortedBy lt xs → Ascends lt xs
  ascends_from_sorted xs up = ascends_from_far lt xs (sorted_far lt o xs up)

  itself : (x : X) → lt x x ≡ false
  itself x = by (lt x x) refl
    where
      by : (b : Bool) → b ≡ lt x x → lt x x ≡ false
      by true e = o.one_way x x (sym e)
      by false e = sym e

  tie : (x y : X) → lt x y ≡ false → lt y x ≡ false → ties lt x y ≡ true
  tie x y h k = ap (λ b. not b && not (lt y x)) h ∙ ap (λ b. not b) k

  all_placed : (P : X → Type 0) (one : X) (xs : List X) → P one → AllByRecursion P xs → AllByRecursion P (placed_by lt one xs)
  all_placed P one [] p h = (p, tt)
  all_placed P one (first ∷ more) p h = by (lt one first) (all_placed P one more p h.1)
    where
      by : (b : Bool) → AllByRecursion P (placed_by lt one more) → AllByRecursion P (cond b (one ∷ first ∷ more) (first ∷ placed_by lt one more))
      by true rest = (p, h)
      by false rest = (h.0, rest)

  ascends_placed : (one : X) (xs : List X) → Ascends lt xs → Ascends lt (placed_by lt one xs)
  ascends_placed one [] h = (tt, tt)
  ascends_placed one (first ∷ more) h = by (lt one first) refl (ascends_placed one more h.1)
    where
      by : (b : Bool) → b ≡ lt one first → Ascends lt (placed_by lt one more) → Ascends lt (cond b (one ∷ first ∷ more) (first ∷ placed_by lt one more))
      by true e rest =
          let above : lt first one ≡ false = o.one_way one first (sym e) in
          ((above, all_weaker (λ y. lt y first ≡ false) (λ y. lt y one ≡ false) (λ y k. o.chain y first one k above) more h.0), h)
      by false e rest = (all_placed (λ y. lt y first ≡ false) one more (sym e) h.0, rest)

  -- what comes after a greater element is greater too
  greater : (one first y : X) → lt one first ≡ true → lt y first ≡ false → lt one y ≡ true
  greater one first y less up = by (lt one y) refl
    where
      by : (b : Bool) → b ≡ lt one y → lt one y ≡ true
      by true e = sym e
      by false e = let no : true ≡ false = sym less ∙ o.chain one y first (sym e) up in absurd (cc)

  -- what ties with an element doesn't tie with a greater one
  apart : (x one y : X) → lt one x ≡ false → lt one y ≡ true → ties lt x y ≡ false
  apart x one y tied less = by (lt x y) refl
    where
      by : (b : Bool) → b ≡ lt x y → (not b && not (lt y x)) ≡ false
      by true e = refl
      by false e = let no : true ≡ false = sym less ∙ o.chain one x y tied (sym e) in absurd (cc)

  tied_above : (x one : X) → ties lt x one ≡ true → lt one x ≡ false
  tied_above x one h = by (lt x one) (lt one x) h
    where
      by : (b c : Bool) → (not b && not c) ≡ true → c ≡ false
      by true c e = let no : false ≡ true = e in absurd (cc)
      by false true e = let no : false ≡ true = e in absurd (cc)
      by false false e = refl

  filter_placed : (x one : X) (xs : List X) → Ascends lt xs → filter (ties lt x) (placed_by lt one xs) ≡ filter (ties lt x) xs ++ filter (ties lt x) (one ∷ [])
  filter_placed x one [] h = refl
  filter_placed x one (first ∷ more) h = by (lt one first) refl (filter_placed x one more h.1)
    where
      -- it is less than the first: it ties with none of them
      before : (b : Bool) → b ≡ ties lt x one → lt one first ≡ true
          → cond b (one ∷ filter (ties lt x) (first ∷ more)) (filter (ties lt x) (first ∷ more)) ≡ filter (ties lt x) (first ∷ more) ++ cond b (one ∷ []) []
      before true e less =
          let tied : lt one x ≡ false = tied_above x one (sym e) in
          let none : filter (ties lt x) (first ∷ more) ≡ [] =
          filter_none (ties lt x) (first ∷ more) (
            apart x one first tied less,
            all_weaker (λ y. lt y first ≡ false) (λ y. ties lt x y ≡ false) (λ y up. apart x one y tied (greater one first y less up)) more h.0,
          ) in
          ap (λ ys. one ∷ ys) none ∙ ap (λ ys. ys ++ one ∷ []) (sym none)
      before false e less = sym (append-nil (filter (ties lt x) (first ∷ more)))

      after : (b : Bool) → filter (ties lt x) (placed_by lt one more) ≡ filter (ties lt x) more ++ filter (ties lt x) (one ∷ [])
          → cond b (first ∷ filter (ties lt x) (placed_by lt one more)) (filter (ties lt x) (placed_by lt one more))
          ≡ cond b (first ∷ filter (ties lt x) more) (filter (ties lt x) more) ++ filter (ties lt x) (one ∷ [])
      after true rest = ap (λ ys. first ∷ ys) rest
      after false rest = rest

      by : (b : Bool) → b ≡ lt one first → filter (ties lt x) (placed_by lt one more) ≡ filter (ties lt x) more ++ filter (ties lt x) (one ∷ [])
          → filter (ties lt x) (cond b (one ∷ first ∷ more) (first ∷ placed_by lt one more)) ≡ filter (ties lt x) (first ∷ more) ++ filter (ties lt x) (one ∷ [])
      by true e rest = before (ties lt x one) refl (sym e)
      by false e rest = after (ties lt x first) rest

  filter_cons : (t : X → Bool) (one : X) (more : List X) → filter t (one ∷ []) ++ filter t more ≡ filter t (one ∷ more)
  filter_cons t one more = by (t one)
    where
      by : (b : Bool) → cond b (one ∷ []) [] ++ filter t more ≡ cond b (one ∷ filter t more) (filter t more)
      by true = refl
      by false = refl

  pub ascends_sorted : (sorted xs : List X) → Ascends lt sorted → Ascends lt (sorted_by lt sorted xs)
  ascends_sorted sorted [] h = h
  ascends_sorted sorted (one ∷ more) h = ascends_sorted (placed_by lt one sorted) more (ascends_placed one sorted h)

  pub filter_sorted : (x : X) (sorted xs : List X) → Ascends lt sorted → filter (ties lt x) (sorted_by lt sorted xs) ≡ filter (ties lt x) sorted ++ filter (ties lt x) xs
  filter_sorted x sorted [] h = sym (append-nil (filter (ties lt x) sorted))
  filter_sorted x sorted (one ∷ more) h =
      filter_sorted x (placed_by lt one sorted) more (ascends_placed one sorted h)
      ∙ (ap (λ ys. ys ++ filter (ties lt x) more) (filter_placed x one sorted h)
      ∙ (append_assoc (filter (ties lt x) sorted) (filter (ties lt x) (one ∷ [])) (filter (ties lt x) more)
      ∙ ap (λ ys. filter (ties lt x) sorted ++ ys) (filter_cons (ties lt x) one more)))

  -- the elements that tie with the first of a list begin with it
  with_first : (z : X) (zs : List X) → filter (ties lt z) (z ∷ zs) ≡ z ∷ filter (ties lt z) zs
  with_first z zs = ap (λ b. cond b (z ∷ filter (ties lt z) zs) (filter (ties lt z) zs)) (tie z z (itself z) (itself z))

  -- a first element is not less than that of a list with the same elements
  not_less : (y : X) (ys : List X) (z : X) (zs : List X) → Ascends lt (y ∷ ys) → filter (ties lt z) (y ∷ ys) ≡ filter (ties lt z) (z ∷ zs) → lt z y ≡ false
  not_less y ys z zs h same =
      first_passes (λ w. lt w y ≡ false) (ties lt z) z (filter (ties lt z) zs) (y ∷ ys) (itself y, h.0) (same ∙ with_first z zs)

  rest_same : (b : Bool) (y : X) (ys zs : List X) → cond b (y ∷ ys) ys ≡ cond b (y ∷ zs) zs → ys ≡ zs
  rest_same true y ys zs e = let e' : y ∷ ys ≡ y ∷ zs = e in cc
  rest_same false y ys zs e = e

  -- two lists in order, with the same elements of each rank in the same order, are one list
  pub same_sorted : (ys zs : List X) → Ascends lt ys → Ascends lt zs → ((x : X) → filter (ties lt x) ys ≡ filter (ties lt x) zs) → ys ≡ zs
  same_sorted [] [] h k same = refl
  same_sorted [] (z ∷ zs) h k same = let no : [] ≡ z ∷ filter (ties lt z) zs = same z ∙ with_first z zs in absurd (cc)
  same_sorted (y ∷ ys) [] h k same = let no : [] ≡ y ∷ filter (ties lt y) ys = sym (same y) ∙ with_first y ys in absurd (cc)
  same_sorted (y ∷ ys) (z ∷ zs) h k same =
      let up : lt z y ≡ false = not_less y ys z zs h (same z) in
      let down : lt y z ≡ false = not_less z zs y ys k (sym (same y)) in
      let firsts : y ∷ filter (ties lt y) ys ≡ z ∷ filter (ties lt y) zs =
      sym (with_first y ys) ∙ (same y ∙ ap (λ b. cond b (z ∷ filter (ties lt y) zs) (filter (ties lt y) zs)) (tie y z down up)) in
      let e : y ≡ z = cc in
      let rests : ys ≡ zs =
      same_sorted ys zs h.1 k.1 (λ x. rest_same (ties lt x y) y (filter (ties lt x) ys) (filter (ties lt x) zs)
      (same x ∙ ap (λ w. cond (ties lt x w) (w ∷ filter (ties lt x) zs) (filter (ties lt x) zs)) (sym e))) in
      cc

  -- what a stable sort leaves is what placing leaves
  pub stable_sorted : (xs ys : List X) → IsSortedBy lt ys → IsStableBy lt xs ys → ys ≡ sorted_by lt [] xs
  stable_sorted xs ys up stable =
      same_sorted ys (sorted_by lt [] xs) (ascends_from_sorted ys up) (ascends_sorted [] xs tt)
      (λ x. stable x ∙ sym (filter_sorted x [] xs tt))
