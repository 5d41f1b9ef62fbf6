-- Entries that are looked up by their numbers.
use Rattle.std.proofs.Common.{◌≡◌, ◌≢◌, ℕ, ◌<◌, ◌≤◌, Bool, true, false, not, ◌==◌, cond, List, [], ◌∷◌, ◌++◌, filter, Some, None, refl, sym, ap, ◌∙◌, inl, inr, arith}
use Rattle.std.specs.List.{All}
use Rattle.std.specs.declared.cmp.Ordering.TheVariants.{Less, Equal, Greater}
use Rattle.std.specs.Ordering.{nat_cmp, is_eq, match_ordering}
use Rattle.std.specs.Cmp.{nat_cmp_is}
use Rattle.std.specs.Map.{lookup, remove_entry, keys_of}
use Rattle.std.specs.BTreeMap.{is_at, insert_entry}
use Rattle.std.proofs.lemmas.Bool.{cases_eq, cases_lt, false≢true}
use Rattle.std.proofs.lemmas.Bool.Decides.{nat_tests}
use Rattle.std.proofs.lemmas.List.Elements.{All-head, All-tail}

pub equal : (a b : ℕ) → a ≡ b → (a == b) ≡ true
equal a b same = grind (arith, nat_tests)

pub unequal : (a b : ℕ) → a ≢ b → (a == b) ≡ false
unequal a b differs = grind (arith, nat_tests)

pub unequal_by : (a b : ℕ) → (a == b) ≡ false → a ≢ b
unequal_by a b is = λ same. false≢true (sym is ∙ equal a b same)

equal_by : (a b : ℕ) → (a == b) ≡ true → a ≡ b
equal_by a b is = grind (arith, nat_tests)

-- the test of a look-up by number
pub at_same : (n : ℕ) → is_at (nat_cmp n) n ≡ true
at_same n = ap is_eq (sym (nat_cmp_is n n Equal refl))

pub at_other : (n k : ℕ) → k ≢ n → is_at (nat_cmp n) k ≡ false
at_other n k differs = elim (cases_lt n k) [
  | inl less ↦ ap is_eq (sym (nat_cmp_is n k Less less))
  | inr more ↦ ap is_eq (sym (nat_cmp_is n k Greater (let l : k < n = omega arith in l)))
]

pub at_number : (n k : ℕ) → is_at (nat_cmp n) k ≡ (k == n)
at_number n k = elim (cases_eq k n) [
  | inl same ↦ ap (is_at (nat_cmp n)) same ∙ (at_same n ∙ sym (equal k n same))
  | inr differs ↦ at_other n k differs ∙ sym (unequal k n differs)
]

at_is : (n k : ℕ) → is_at (nat_cmp n) k ≡ true → k ≡ n
at_is n k at = equal_by k n (sym (at_number n k) ∙ at)

-- an entry of a greater number goes to the end
pub insert_last : {X : Type 0} (m n : ℕ) (v : X) (es : List (ℕ × X)) → m < n → All (λ k. k ≤ m) (keys_of es) → insert_entry nat_cmp es n v ≡ es ++ (n, v) ∷ []
insert_last m n v [] less given = refl
insert_last m n v (e ∷ es) less given =
    let here : e.0 ≤ m = All-head (λ k. k ≤ m) e.0 (keys_of es) given in
    let below : e.0 < n = omega arith in
    ap (λ o. match_ordering o ((n, v) ∷ e ∷ es) ((e.0, v) ∷ es) (e ∷ insert_entry nat_cmp es n v)) (sym (nat_cmp_is n e.0 Greater below))
    ∙ ap (λ l. e ∷ l) (insert_last m n v es less (All-tail (λ k. k ≤ m) e.0 (keys_of es) given))

chosen_same : {Y : Type 0} (b c : Bool) (x y z : Y) → b ≡ c → cond b x z ≡ cond b x (cond c y z)
chosen_same true c x y z same = refl
chosen_same false true x y z same = absurd (false≢true same)
chosen_same false false x y z same = refl

chosen_apart : {Y : Type 0} (b c : Bool) (x y z : Y) → (b ≡ true → c ≡ true → ⊥) → cond c y (cond b x z) ≡ cond b x (cond c y z)
chosen_apart true true x y z apart = absurd (apart refl refl)
chosen_apart true false x y z apart = refl
chosen_apart false true x y z apart = refl
chosen_apart false false x y z apart = refl

-- a look-up after an entry was put in
pub lookup_insert : {X : Type 0} (q n : ℕ) (v : X) (es : List (ℕ × X)) → lookup (is_at (nat_cmp q)) (insert_entry nat_cmp es n v) ≡ cond (is_at (nat_cmp q) n) (Some v) (lookup (is_at (nat_cmp q)) es)
lookup_insert q n v [] = refl
lookup_insert q n v (e ∷ es) = elim (cases_lt n e.0) [
  | inl less ↦ ap (λ o. lookup (is_at (nat_cmp q)) (match_ordering o ((n, v) ∷ e ∷ es) ((e.0, v) ∷ es) (e ∷ insert_entry nat_cmp es n v))) (sym (nat_cmp_is n e.0 Less less))
  | inr not_less ↦ elim (cases_eq n e.0) [
    | inl same ↦
        ap (λ o. lookup (is_at (nat_cmp q)) (match_ordering o ((n, v) ∷ e ∷ es) ((e.0, v) ∷ es) (e ∷ insert_entry nat_cmp es n v))) (sym (nat_cmp_is n e.0 Equal same))
        ∙ (ap (λ k. cond (is_at (nat_cmp q) k) (Some v) (lookup (is_at (nat_cmp q)) es)) (sym same)
        ∙ chosen_same (is_at (nat_cmp q) n) (is_at (nat_cmp q) e.0) (Some v) (Some e.1) (lookup (is_at (nat_cmp q)) es) (ap (is_at (nat_cmp q)) same))
    | inr differs ↦
        let below : e.0 < n = omega arith in
        ap (λ o. lookup (is_at (nat_cmp q)) (match_ordering o ((n, v) ∷ e ∷ es) ((e.0, v) ∷ es) (e ∷ insert_entry nat_cmp es n v))) (sym (nat_cmp_is n e.0 Greater below))
        ∙ (ap (cond (is_at (nat_cmp q) e.0) (Some e.1)) (lookup_insert q n v es)
        ∙ chosen_apart (is_at (nat_cmp q) n) (is_at (nat_cmp q) e.0) (Some v) (Some e.1) (lookup (is_at (nat_cmp q)) es) (λ a b. differs (at_is q n a ∙ sym (at_is q e.0 b))))
  ]
]

-- a look-up in entries at whose end one more stands
pub lookup_append : {X : Type 0} (test : ℕ → Bool) (es fs : List (ℕ × X)) → lookup test es ≡ None → lookup test (es ++ fs) ≡ lookup test fs
lookup_append test [] fs none = refl
lookup_append test (e ∷ es) fs none = by (test e.0) (lookup_append test es fs) none
  where
    by : (b : Bool) → (lookup test es ≡ None → lookup test (es ++ fs) ≡ lookup test fs) → cond b (Some e.1) (lookup test es) ≡ None → cond b (Some e.1) (lookup test (es ++ fs)) ≡ lookup test fs
    by true rest h = let no : ⊥ = cc in absurd no
    by false rest h = rest h

pub lookup_kept : {X : Type 0} (test : ℕ → Bool) (es fs : List (ℕ × X)) (v : X) → lookup test es ≡ Some v → lookup test (es ++ fs) ≡ Some v
lookup_kept test [] fs v found = let no : ⊥ = cc in absurd no
lookup_kept test (e ∷ es) fs v found = by (test e.0) (lookup_kept test es fs v) found
  where
    by : (b : Bool) → (lookup test es ≡ Some v → lookup test (es ++ fs) ≡ Some v) → cond b (Some e.1) (lookup test es) ≡ Some v → cond b (Some e.1) (lookup test (es ++ fs)) ≡ Some v
    by true rest h = h
    by false rest h = rest h

-- the entries of other numbers
abbrev pub apart : {X : Type 0} → ℕ → List (ℕ × X) → List (ℕ × X)
apart n es = filter (λ e. not (e.0 == n)) es

-- entries without a number are those of the other numbers
pub filter_none : {X : Type 0} (n : ℕ) (es : List (ℕ × X)) → lookup (is_at (nat_cmp n)) es ≡ None → apart n es ≡ es
filter_none n [] none = refl
filter_none n (e ∷ es) none = by (is_at (nat_cmp n) e.0) (at_number n e.0) (filter_none n es) none
  where
    by : (b : Bool) → b ≡ (e.0 == n) → (lookup (is_at (nat_cmp n)) es ≡ None → apart n es ≡ es) → cond b (Some e.1) (lookup (is_at (nat_cmp n)) es) ≡ None → cond (not (e.0 == n)) (e ∷ apart n es) (apart n es) ≡ e ∷ es
    by true is rest h = let no : ⊥ = cc in absurd no
    by false is rest h = ap (λ b. cond (not b) (e ∷ apart n es) (apart n es)) (sym is) ∙ ap (λ l. e ∷ l) (rest h)

-- taking the entry of a number out leaves those of the other numbers, where no second one is left
pub removed : {X : Type 0} (n : ℕ) (es : List (ℕ × X)) → lookup (is_at (nat_cmp n)) (remove_entry (is_at (nat_cmp n)) es) ≡ None → remove_entry (is_at (nat_cmp n)) es ≡ apart n es
removed n [] none = refl
removed n (e ∷ es) none = by (is_at (nat_cmp n) e.0) refl (at_number n e.0) (removed n es) none
  where
    by : (b : Bool) → b ≡ is_at (nat_cmp n) e.0 → b ≡ (e.0 == n) → (lookup (is_at (nat_cmp n)) (remove_entry (is_at (nat_cmp n)) es) ≡ None → remove_entry (is_at (nat_cmp n)) es ≡ apart n es)
        → lookup (is_at (nat_cmp n)) (cond b es (e ∷ remove_entry (is_at (nat_cmp n)) es)) ≡ None
        → cond b es (e ∷ remove_entry (is_at (nat_cmp n)) es) ≡ cond (not (e.0 == n)) (e ∷ apart n es) (apart n es)
    by true at is rest h = sym (ap (λ b. cond (not b) (e ∷ apart n es) (apart n es)) (sym is) ∙ filter_none n es h)
    by false at is rest h =
        ap (λ l. e ∷ l) (rest (ap (λ b. cond b (Some e.1) (lookup (is_at (nat_cmp n)) (remove_entry (is_at (nat_cmp n)) es))) at ∙ h))
        ∙ sym (ap (λ b. cond (not b) (e ∷ apart n es) (apart n es)) (sym is))

-- the same of what a map has after a removal
pub removed_from : {X : Type 0} (n : ℕ) (es fs : List (ℕ × X)) → fs ≡ remove_entry (is_at (nat_cmp n)) es → lookup (is_at (nat_cmp n)) fs ≡ None → fs ≡ apart n es
removed_from n es fs is none = is ∙ removed n es (ap (lookup (is_at (nat_cmp n))) (sym is) ∙ none)
