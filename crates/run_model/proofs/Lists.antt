-- Lists by their places.
use Rattle.std.proofs.Common.{◌≡◌, ◌<◌, ℕ, zero, suc, List, [], ◌∷◌, ◌++◌, length, slice_get, slice_set, Some, refl, ap, ◌∙◌, arith}

pub get_set_same : {X : Type 0} (xs : List X) (i : ℕ) (x : X) → i < length xs → slice_get (slice_set xs i x) i ≡ Some x
get_set_same [] i x h = absurd (omega arith)
get_set_same (y ∷ xs) zero x h = refl
get_set_same (y ∷ xs) (suc i) x h = get_set_same xs i x (omega arith)

pub get_set_other : {X : Type 0} (xs : List X) (i j : ℕ) (x : X) → (j ≡ i → ⊥) → slice_get (slice_set xs i x) j ≡ slice_get xs j
get_set_other [] i j x h = refl
get_set_other (y ∷ xs) zero zero x h = absurd (h refl)
get_set_other (y ∷ xs) zero (suc j) x h = refl
get_set_other (y ∷ xs) (suc i) zero x h = refl
get_set_other (y ∷ xs) (suc i) (suc j) x h = get_set_other xs i j x (λ e. h (ap suc e))

pub length_set : {X : Type 0} (xs : List X) (i : ℕ) (x : X) → length (slice_set xs i x) ≡ length xs
length_set [] i x = refl
length_set (y ∷ xs) zero x = refl
length_set (y ∷ xs) (suc i) x = ap suc (length_set xs i x)

pub get_before : {X : Type 0} (xs ys : List X) (i : ℕ) → i < length xs → slice_get (xs ++ ys) i ≡ slice_get xs i
get_before [] ys i h = absurd (omega arith)
get_before (x ∷ xs) ys zero h = refl
get_before (x ∷ xs) ys (suc i) h = get_before xs ys i (omega arith)

-- equal lists that begin with lists of one length have the same beginning
pub same_beginning : {X : Type 0} (xs ys zs ws : List X) → length xs ≡ length ys → xs ++ zs ≡ ys ++ ws → xs ≡ ys
same_beginning [] [] zs ws n e = refl
same_beginning [] (y ∷ ys) zs ws n e = absurd (omega (arith, n))
same_beginning (x ∷ xs) [] zs ws n e = absurd (omega (arith, n))
same_beginning (x ∷ xs) (y ∷ ys) zs ws n e =
    let first : x ≡ y = cc in
    let more : xs ++ zs ≡ ys ++ ws = cc in
    ap (λ z. z ∷ xs) first ∙ ap (λ zs'. y ∷ zs') (same_beginning xs ys zs ws (omega (arith, n)) more)
