-- Requests that are kept, and the places where those of a task stand.
use Rattle.std.proofs.Common.{◌≡◌, ◌≢◌, ℕ, zero, suc, ◌<◌, Bool, true, false, not, ◌==◌, cond, List, [], ◌∷◌, map, get_or, length, Option, Some, None, refl, sym, ap, ◌∙◌, inl, inr, ◌⊎◌, arith}
use Rattle.std.specs.Prelude.{slice_get}
use Rattle.std.specs.Ordering.{nat_cmp}
use Rattle.std.specs.Map.{lookup, set_value}
use Rattle.std.specs.BTreeMap.{is_at}
use Rattle.std.proofs.lemmas.Bool.{cases_eq}
use Rattle.mpi_request.proofs.Entries.{equal, unequal, at_same, at_other, apart}

pub some_same : {A : Type 0} (a b : A) → Some a ≡ Some b → a ≡ b
some_same a b e = cc

pub no_some : {X : Type 0} (a : X) → ◌≡◌ {A = Option X} None (Some a) → ⊥
no_some a e = cc

-- the elements of two lists that look alike
pub alike_at : {A B S : Type 0} (f : A → S) (g : B → S) (xs : List A) (ys : List B) (i : ℕ) (d : A) (y : B) → map f xs ≡ map g ys → slice_get ys i ≡ Some y → f (get_or xs i d) ≡ g y
alike_at f g xs [] i d y same got = absurd (no_some y got)
alike_at f g [] (z ∷ ys) i d y same got = let no : ⊥ = cc in absurd no
alike_at f g (x ∷ xs) (z ∷ ys) zero d y same got =
    let here : f x ≡ g z = cc in
    here ∙ ap g (some_same z y got)
alike_at f g (x ∷ xs) (z ∷ ys) (suc i) d y same got =
    let rest : map f xs ≡ map g ys = cc in
    alike_at f g xs ys i d y rest got

pub alike_within : {A B S : Type 0} (f : A → S) (g : B → S) (xs : List A) (ys : List B) (i : ℕ) (y : B) → map f xs ≡ map g ys → slice_get ys i ≡ Some y → i < length xs
alike_within f g xs [] i y same got = absurd (no_some y got)
alike_within f g [] (z ∷ ys) i y same got = let no : ⊥ = cc in absurd no
alike_within f g (x ∷ xs) (z ∷ ys) zero y same got = omega arith
alike_within f g (x ∷ xs) (z ∷ ys) (suc i) y same got =
    let rest : map f xs ≡ map g ys = cc in
    let less : i < length xs = alike_within f g xs ys i y rest got in
    omega arith

-- the same entries with other values
abbrev pub mapped : {X Y : Type 0} → (X → Y) → List (ℕ × X) → List (ℕ × Y)
mapped {X} {Y} k es = map {B = ℕ × Y} (λ (e : ℕ × X). (e.0, k e.1)) es

-- a map over values goes through what looks at the numbers alone
pub apart_mapped : {X Y : Type 0} (k : X → Y) (n : ℕ) (es : List (ℕ × X)) → mapped k (apart n es) ≡ apart n (mapped k es)
apart_mapped k n [] = refl
apart_mapped k n (e ∷ es) = by (not (e.0 == n)) (apart_mapped k n es)
  where
    by : (b : Bool) → mapped k (apart n es) ≡ apart n (mapped k es) → mapped k (cond b (e ∷ apart n es) (apart n es))
        ≡ cond b ((e.0, k e.1) ∷ apart n (mapped k es)) (apart n (mapped k es))
    by true rest = ap (λ l. (e.0, k e.1) ∷ l) rest
    by false rest = rest

-- a look-up among the entries of other numbers
pub lookup_apart : {X : Type 0} (q n : ℕ) (es : List (ℕ × X)) (v : X) → lookup (is_at (nat_cmp q)) (apart n es) ≡ Some v → (q ≢ n) × (lookup (is_at (nat_cmp q)) es ≡ Some v)
lookup_apart q n [] v found = absurd (no_some v found)
lookup_apart q n (e ∷ es) v found = elim (cases_eq e.0 n) [
  | inl same ↦
      let off : not (e.0 == n) ≡ false = ap not (equal e.0 n same) in
      let it = lookup_apart q n es v (ap (λ b. lookup (is_at (nat_cmp q)) (cond b (e ∷ apart n es) (apart n es))) (sym off) ∙ found) in
      (it.0, ap (λ b. cond b (Some e.1) (lookup (is_at (nat_cmp q)) es)) (at_other q e.0 (λ s. it.0 (sym s ∙ same))) ∙ it.1)
  | inr differs ↦
      let on : not (e.0 == n) ≡ true = ap not (unequal e.0 n differs) in
      by (lookup_apart q n es v) differs (ap (λ b. lookup (is_at (nat_cmp q)) (cond b (e ∷ apart n es) (apart n es))) (sym on) ∙ found)
]
  where
    by : (lookup (is_at (nat_cmp q)) (apart n es) ≡ Some v → (q ≢ n) × (lookup (is_at (nat_cmp q)) es ≡ Some v)) → e.0 ≢ n → cond (is_at (nat_cmp q) e.0) (Some e.1) (lookup (is_at (nat_cmp q)) (apart n es)) ≡ Some v
        → (q ≢ n) × (cond (is_at (nat_cmp q) e.0) (Some e.1) (lookup (is_at (nat_cmp q)) es) ≡ Some v)
    by rest differs got = elim (cases_eq e.0 q) [
      | inl same ↦
          let at : is_at (nat_cmp q) e.0 ≡ true = ap (is_at (nat_cmp q)) same ∙ at_same q in (
            λ s. differs (same ∙ s),
            ap (λ b. cond b (Some e.1) (lookup (is_at (nat_cmp q)) es)) at ∙ (ap (λ b. cond b (Some e.1) (lookup (is_at (nat_cmp q)) (apart n es))) (sym at) ∙ got),
          )
      | inr other ↦
          let at : is_at (nat_cmp q) e.0 ≡ false = at_other q e.0 other in
          let it = rest (ap (λ b. cond b (Some e.1) (lookup (is_at (nat_cmp q)) (apart n es))) (sym at) ∙ got) in
          (it.0, ap (λ b. cond b (Some e.1) (lookup (is_at (nat_cmp q)) es)) at ∙ it.1)
    ]

-- and of another number nothing changes
pub lookup_others : {X : Type 0} (q n : ℕ) (es : List (ℕ × X)) → q ≢ n → lookup (is_at (nat_cmp q)) (apart n es) ≡ lookup (is_at (nat_cmp q)) es
lookup_others q n [] differs = refl
lookup_others q n (e ∷ es) differs = elim (cases_eq e.0 n) [
  | inl same ↦
      let off : not (e.0 == n) ≡ false = ap not (equal e.0 n same) in
      let at : is_at (nat_cmp q) e.0 ≡ false = at_other q e.0 (λ s. differs (sym s ∙ same)) in
      ap (λ b. lookup (is_at (nat_cmp q)) (cond b (e ∷ apart n es) (apart n es))) off
      ∙ (lookup_others q n es differs ∙ ap (λ b. cond b (Some e.1) (lookup (is_at (nat_cmp q)) es)) (sym at))
  | inr other ↦
      let on : not (e.0 == n) ≡ true = ap not (unequal e.0 n other) in
      ap (λ b. lookup (is_at (nat_cmp q)) (cond b (e ∷ apart n es) (apart n es))) on
      ∙ ap (cond (is_at (nat_cmp q) e.0) (Some e.1)) (lookup_others q n es differs)
]

-- a value of a number is another one, from which k makes the same
pub valued_mapped : {X Y : Type 0} (k : X → Y) (n : ℕ) (es : List (ℕ × X)) (v w : X) → lookup (is_at (nat_cmp n)) es ≡ Some v → k w ≡ k v
    → mapped k (set_value (is_at (nat_cmp n)) es w) ≡ mapped k es
valued_mapped k n [] v w found same = refl
valued_mapped k n (e ∷ es) v w found same = by (is_at (nat_cmp n) e.0) (λ got. valued_mapped k n es v w got same) found
  where
    by : (b : Bool) → (lookup (is_at (nat_cmp n)) es ≡ Some v → mapped k (set_value (is_at (nat_cmp n)) es w) ≡ mapped k es) → cond b (Some e.1) (lookup (is_at (nat_cmp n)) es) ≡ Some v
        → mapped k (cond b ((e.0, w) ∷ es) (e ∷ set_value (is_at (nat_cmp n)) es w)) ≡ mapped k (e ∷ es)
    by true rest got = ap (λ y. (e.0, y) ∷ mapped k es) (same ∙ ap k (sym (some_same e.1 v got)))
    by false rest got = ap (λ l. (e.0, k e.1) ∷ l) (rest got)

-- a look-up after a value was set: of that number the new one, of another number the old one
pub lookup_valued : {X : Type 0} (q n : ℕ) (es : List (ℕ × X)) (w v : X) → lookup (is_at (nat_cmp q)) (set_value (is_at (nat_cmp n)) es w) ≡ Some v
    → ((q ≡ n) × (v ≡ w)) ⊎ ((lookup (is_at (nat_cmp q)) es ≡ Some v) × (q ≢ n))
lookup_valued q n [] w v found = absurd (no_some v found)
lookup_valued q n (e ∷ es) w v found = elim (cases_eq e.0 n) [
  | inl same ↦
      let at : is_at (nat_cmp n) e.0 ≡ true = ap (is_at (nat_cmp n)) same ∙ at_same n in
      here same (ap (λ b. lookup (is_at (nat_cmp q)) (cond b ((e.0, w) ∷ es) (e ∷ set_value (is_at (nat_cmp n)) es w))) (sym at) ∙ found)
  | inr differs ↦
      let at : is_at (nat_cmp n) e.0 ≡ false = at_other n e.0 differs in
      there (lookup_valued q n es w v) differs (ap (λ b. lookup (is_at (nat_cmp q)) (cond b ((e.0, w) ∷ es) (e ∷ set_value (is_at (nat_cmp n)) es w))) (sym at) ∙ found)
]
  where
    here : e.0 ≡ n → cond (is_at (nat_cmp q) e.0) (Some w) (lookup (is_at (nat_cmp q)) es) ≡ Some v
        → ((q ≡ n) × (v ≡ w)) ⊎ ((cond (is_at (nat_cmp q) e.0) (Some e.1) (lookup (is_at (nat_cmp q)) es) ≡ Some v) × (q ≢ n))
    here same got = elim (cases_eq e.0 q) [
      | inl it ↦ inl (sym it ∙ same, sym (some_same w v (ap (λ b. cond b (Some w) (lookup (is_at (nat_cmp q)) es)) (sym (ap (is_at (nat_cmp q)) it ∙ at_same q)) ∙ got)))
      | inr other ↦
          let at : is_at (nat_cmp q) e.0 ≡ false = at_other q e.0 other in
          inr (ap (λ b. cond b (Some e.1) (lookup (is_at (nat_cmp q)) es)) at ∙ (ap (λ b. cond b (Some w) (lookup (is_at (nat_cmp q)) es)) (sym at) ∙ got), λ s. other (same ∙ sym s))
    ]

    there : (lookup (is_at (nat_cmp q)) (set_value (is_at (nat_cmp n)) es w) ≡ Some v → ((q ≡ n) × (v ≡ w)) ⊎ ((lookup (is_at (nat_cmp q)) es ≡ Some v) × (q ≢ n)))
        → e.0 ≢ n → cond (is_at (nat_cmp q) e.0) (Some e.1) (lookup (is_at (nat_cmp q)) (set_value (is_at (nat_cmp n)) es w)) ≡ Some v
        → ((q ≡ n) × (v ≡ w)) ⊎ ((cond (is_at (nat_cmp q) e.0) (Some e.1) (lookup (is_at (nat_cmp q)) es) ≡ Some v) × (q ≢ n))
    there rest differs got = elim (cases_eq e.0 q) [
      | inl it ↦
          let at : is_at (nat_cmp q) e.0 ≡ true = ap (is_at (nat_cmp q)) it ∙ at_same q in
          inr (ap (λ b. cond b (Some e.1) (lookup (is_at (nat_cmp q)) es)) at ∙ (ap (λ b. cond b (Some e.1) (lookup (is_at (nat_cmp q)) (set_value (is_at (nat_cmp n)) es w))) (sym at) ∙ got), λ s. differs (it ∙ s))
      | inr other ↦
          let at : is_at (nat_cmp q) e.0 ≡ false = at_other q e.0 other in
          elim (rest (ap (λ b. cond b (Some e.1) (lookup (is_at (nat_cmp q)) (set_value (is_at (nat_cmp n)) es w))) (sym at) ∙ got)) [
            | inl it ↦ inl it
            | inr it ↦ inr (ap (λ b. cond b (Some e.1) (lookup (is_at (nat_cmp q)) es)) at ∙ it.0, it.1)
          ]
    ]
