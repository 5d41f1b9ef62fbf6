-- A memory with the objects of a list laid into it.
use Rattle.std.proofs.Common.{◌≡◌, ℕ, zero, suc, ◌+◌, ◌<◌, ◌≤◌, Bool, true, false, cond, List, [], ◌∷◌, ◌++◌, length, slice_get, slice_set, Option, Some, None, refl, sym, ap, ◌∙◌, arith}
use Rattle.std.specs.Ordering.{nat_cmp, eq_by_cmp}
use Rattle.std.specs.Cmp.Lexicographic.{slice_cmp}
use Rattle.std.proofs.lemmas.Cmp.{nat_list_cmp_total}
use Rattle.std.specs.FinMap as map
use Rattle.serial_memory.specs.Memory.{Memory, Object}
use Rattle.serial_memory.proofs.Memories.{same_key, alike, get-insert_same, get-insert_other, insert-insert_other}
use Rattle.serial_node.specs.Placed.{laid, laid_from}

-- two memories that have the same objects are the same
pub same_memory : (m m' : Memory) → ((q : List ℕ) → map.get m q ≡ map.get m' q) → m ≡ m'
same_memory m m' same = map.same_map nat_list_cmp_total (map.slice_cmp-IsAntisymmetric map.nat_cmp-IsAntisymmetric) m m' same

abbrev same_keys : List ℕ → List ℕ → Bool
same_keys q k = eq_by_cmp (slice_cmp nat_cmp) q k

laid_here : (object : Option Object) (k : List ℕ) (m : Memory) → map.get m k ≡ None → map.get (laid object k m) k ≡ object
laid_here None k m none = none
laid_here (Some object) k m none = get-insert_same m k object

laid_other : (object : Option Object) (k q : List ℕ) (m : Memory) → (q ≡ k → ⊥) → map.get (laid object k m) q ≡ map.get m q
laid_other None k q m other = refl
laid_other (Some object) k q m other = get-insert_other m k q object other

laid_same : (object : Option Object) (k q : List ℕ) (m m' : Memory) → map.get m q ≡ map.get m' q → map.get (laid object k m) q ≡ map.get (laid object k m') q
laid_same None k q m m' same = same
laid_same (Some object) k q m m' same =
    map.get-insert nat_list_cmp_total m k object q
    ∙ ap (cond (same_keys q k) (Some object)) same
    ∙ sym (map.get-insert nat_list_cmp_total m' k object q)

-- what a list's element at an index is as an object
abbrev pub there : {A : Type 0} → (A → Option Object) → Option A → Option Object
there object_at None = None
there object_at (Some x) = object_at x

module _ {A : Type 0} (object_at : A → Option Object) (key : ℕ → List ℕ) where
  pub laid_from-append : (n : ℕ) (xs : List A) (x : A) (m : Memory) → laid_from object_at key n (xs ++ x ∷ []) m ≡ laid (object_at x) (key (n + length xs)) (laid_from object_at key n xs m)
  laid_from-append n [] x m =
      let same : n ≡ n + 0 = omega arith in
      ap (λ i. laid (object_at x) (key i) m) same
  laid_from-append n (y ∷ xs) x m =
      let same : (n + 1) + length xs ≡ n + suc (length xs) = omega arith in
      laid_from-append (n + 1) xs x (laid (object_at y) (key n) m)
      ∙ ap (λ i. laid (object_at x) (key i) (laid_from object_at key (n + 1) xs (laid (object_at y) (key n) m))) same

  laid_from-same : (n : ℕ) (xs : List A) (m m' : Memory) (q : List ℕ) → map.get m q ≡ map.get m' q → map.get (laid_from object_at key n xs m) q ≡ map.get (laid_from object_at key n xs m') q
  laid_from-same n [] m m' q same = same
  laid_from-same n (x ∷ xs) m m' q same =
      laid_from-same (n + 1) xs (laid (object_at x) (key n) m) (laid (object_at x) (key n) m') q (laid_same (object_at x) (key n) q m m' same)

  pub laid_from-other : (n : ℕ) (xs : List A) (m : Memory) (q : List ℕ) → ((j : ℕ) → n ≤ j → q ≡ key j → ⊥) → map.get (laid_from object_at key n xs m) q ≡ map.get m q
  laid_from-other n [] m q other = refl
  laid_from-other n (x ∷ xs) m q other =
      laid_from-other (n + 1) xs (laid (object_at x) (key n) m) q (λ j le. other j (omega arith))
      ∙ laid_other (object_at x) (key n) q m (other n (omega arith))

  -- an object with a key of its own may be set before the others
  pub laid_from-under : (n : ℕ) (xs : List A) (m : Memory) (k : List ℕ) (object : Object) → ((j : ℕ) → n ≤ j → k ≡ key j → ⊥)
      → map.insert (laid_from object_at key n xs m) k object ≡ laid_from object_at key n xs (map.insert m k object)
  laid_from-under n [] m k object other = refl
  laid_from-under n (x ∷ xs) m k object other =
      laid_from-under (n + 1) xs (laid (object_at x) (key n) m) k object (λ j le. other j (omega arith))
      ∙ ap (laid_from object_at key (n + 1) xs) (swapped (object_at x) (λ e. other n (omega arith) (sym e)))
    where
      swapped : (slot : Option Object) → (key n ≡ k → ⊥) → map.insert (laid slot (key n) m) k object ≡ laid slot (key n) (map.insert m k object)
      swapped None differ = refl
      swapped (Some y) differ = insert-insert_other m (key n) k y object differ

  module _ (one : (i j : ℕ) → key i ≡ key j → i ≡ j) where
    above : (n j : ℕ) → n + 1 ≤ j → key n ≡ key j → ⊥
    above n j le e = let same = one n j e in omega arith

    fresh_above : (n : ℕ) (slot : Option Object) (m : Memory) → ((j : ℕ) → n ≤ j → map.get m (key j) ≡ None) → (j : ℕ) → n + 1 ≤ j → map.get (laid slot (key n) m) (key j) ≡ None
    fresh_above n slot m none j le = laid_other slot (key n) (key j) m (λ e. above n j le (sym e)) ∙ none j (omega arith)

    -- each object stands under its key
    pub laid_from-here : (n : ℕ) (xs : List A) (m : Memory) (i : ℕ) → ((j : ℕ) → n ≤ j → map.get m (key j) ≡ None)
        → map.get (laid_from object_at key n xs m) (key (n + i)) ≡ there object_at (slice_get xs i)
    laid_from-here n [] m i none = none (n + i) (omega arith)
    laid_from-here n (x ∷ xs) m zero none =
        let same : n + 0 ≡ n = omega arith in
        ap (λ j. map.get (laid_from object_at key n (x ∷ xs) m) (key j)) same
        ∙ laid_from-other (n + 1) xs (laid (object_at x) (key n) m) (key n) (above n)
        ∙ laid_here (object_at x) (key n) m (none n (omega arith))
    laid_from-here n (x ∷ xs) m (suc i) none =
        let same : n + suc i ≡ (n + 1) + i = omega arith in
        ap (λ j. map.get (laid_from object_at key n (x ∷ xs) m) (key j)) same
        ∙ laid_from-here (n + 1) xs (laid (object_at x) (key n) m) i (fresh_above n (object_at x) m none)

    laid_from-set : (n : ℕ) (xs : List A) (m : Memory) (i : ℕ) (x : A) (q : List ℕ) → i < length xs → ((j : ℕ) → n ≤ j → map.get m (key j) ≡ None)
        → map.get (laid_from object_at key n (slice_set xs i x) m) q ≡ cond (same_keys q (key (n + i))) (object_at x) (map.get (laid_from object_at key n xs m) q)
    laid_from-set n [] m i x q lt none = absurd (omega arith)
    laid_from-set n (y ∷ xs) m zero x q lt none =
        let same : n ≡ n + 0 = omega arith in
        elim (same_keys q (key n)) as (λ b. same_keys q (key n) ≡ b → map.get (laid_from object_at key (n + 1) xs (laid (object_at x) (key n) m)) q
        ≡ cond b (object_at x) (map.get (laid_from object_at key (n + 1) xs (laid (object_at y) (key n) m)) q)) [
          | true ↦ λ is. ap (map.get (laid_from object_at key (n + 1) xs (laid (object_at x) (key n) m))) (same_key q (key n) is)
              ∙ laid_from-other (n + 1) xs (laid (object_at x) (key n) m) (key n) (above n)
              ∙ laid_here (object_at x) (key n) m (none n (omega arith))
          | false ↦ λ is. laid_from-same (n + 1) xs (laid (object_at x) (key n) m) (laid (object_at y) (key n) m) q
              (laid_other (object_at x) (key n) q m (apart is) ∙ sym (laid_other (object_at y) (key n) q m (apart is)))
        ] refl
        ∙ ap (λ j. cond (same_keys q (key j)) (object_at x) (map.get (laid_from object_at key n (y ∷ xs) m) q)) same
      where
        apart : same_keys q (key n) ≡ false → q ≡ key n → ⊥
        apart is e = let alike' = alike (key n) in let is' : same_keys (key n) (key n) ≡ false = rw e at is in cc
    laid_from-set n (y ∷ xs) m (suc i) x q lt none =
        let same : (n + 1) + i ≡ n + suc i = omega arith in
        laid_from-set (n + 1) xs (laid (object_at y) (key n) m) i x q (omega arith) (fresh_above n (object_at y) m none)
        ∙ ap (λ j. cond (same_keys q (key j)) (object_at x) (map.get (laid_from object_at key n (y ∷ xs) m) q)) same

    -- to set an object is to set it in the list
    pub laid_from-insert : (n : ℕ) (xs : List A) (m : Memory) (i : ℕ) (x : A) (object : Object) → object_at x ≡ Some object → i < length xs → ((j : ℕ) → n ≤ j → map.get m (key j) ≡ None)
        → map.insert (laid_from object_at key n xs m) (key (n + i)) object ≡ laid_from object_at key n (slice_set xs i x) m
    laid_from-insert n xs m i x object is lt none =
        same_memory _ _ (λ q. map.get-insert nat_list_cmp_total (laid_from object_at key n xs m) (key (n + i)) object q
        ∙ ap (λ o. cond (same_keys q (key (n + i))) o (map.get (laid_from object_at key n xs m) q)) (sym is)
        ∙ sym (laid_from-set n xs m i x q lt none))

    pub laid_from-remove : (n : ℕ) (xs : List A) (m : Memory) (i : ℕ) (x : A) → object_at x ≡ None → i < length xs → ((j : ℕ) → n ≤ j → map.get m (key j) ≡ None)
        → map.remove (laid_from object_at key n xs m) (key (n + i)) ≡ laid_from object_at key n (slice_set xs i x) m
    laid_from-remove n xs m i x is lt none =
        same_memory _ _ (λ q. map.get-remove nat_list_cmp_total (laid_from object_at key n xs m) (key (n + i)) q
        ∙ ap (λ o. cond (same_keys q (key (n + i))) o (map.get (laid_from object_at key n xs m) q)) (sym is)
        ∙ sym (laid_from-set n xs m i x q lt none))
