-- Two lists that a function walks side by side, a test at each place.
use Rattle.std.proofs.Common.{◌≡◌, ℕ, ◌+◌, ◌<◌, List, [], ◌∷◌, refl, sym, ap, ◌∙◌, length, drop, get_or, Bool, false, true, suc}
use Rattle.std.specs.Prelude.{◌&&◌}
use Rattle.std.proofs.lemmas.List.{drop_more}

module _ {A B : Type 0} (walk : List A → List B → Bool) (test : A → B → Bool)
    (both : (x : A) (xs : List A) (y : B) (ys : List B) → walk (x ∷ xs) (y ∷ ys) ≡ test x y && walk xs ys)
    (left : (x : A) (xs : List A) → walk (x ∷ xs) [] ≡ false)
    (right : (y : B) (ys : List B) → walk [] (y ∷ ys) ≡ false) where
  false_and : (b : Bool) → false ≡ b && false
  false_and true = refl
  false_and false = refl

  pub other_lengths : (xs : List A) (ys : List B) → (length xs ≡ length ys → ⊥) → false ≡ walk xs ys
  other_lengths [] [] h = absurd (h refl)
  other_lengths [] (y ∷ ys) h = sym (right y ys)
  other_lengths (x ∷ xs) [] h = sym (left x xs)
  other_lengths (x ∷ xs) (y ∷ ys) h =
      false_and (test x y) ∙ ap (λ b. test x y && b) (other_lengths xs ys (λ e. h (ap suc e))) ∙ sym (both x xs y ys)

  next : (xs : List A) (ys : List B) (i : ℕ) (x : A) (y : B) → i < length xs → i < length ys
      → walk (drop i xs) (drop i ys) ≡ test (get_or xs i x) (get_or ys i y) && walk (drop (i + 1) xs) (drop (i + 1) ys)
  next xs ys i x y h g =
      ap (λ l. walk l (drop i ys)) (drop_more xs i x h)
      ∙ ap (walk (get_or xs i x ∷ drop (i + 1) xs)) (drop_more ys i y g)
      ∙ both (get_or xs i x) (drop (i + 1) xs) (get_or ys i y) (drop (i + 1) ys)

  -- where the test fails, so does the walk
  pub stops : (xs : List A) (ys : List B) (i : ℕ) (x : A) (y : B) (r : Bool) → i < length xs → i < length ys
      → walk (drop i xs) (drop i ys) ≡ walk xs ys → r ≡ test (get_or xs i x) (get_or ys i y) → r ≡ false → false ≡ walk xs ys
  stops xs ys i x y r h g inv is fails =
      sym (ap (λ b. b && walk (drop (i + 1) xs) (drop (i + 1) ys)) (sym is ∙ fails)) ∙ sym (next xs ys i x y h g) ∙ inv

  -- where it does not, the walk goes on
  pub goes : (xs : List A) (ys : List B) (i : ℕ) (x : A) (y : B) (r : Bool) → i < length xs → i < length ys
      → walk (drop i xs) (drop i ys) ≡ walk xs ys → r ≡ test (get_or xs i x) (get_or ys i y) → r ≡ true
      → walk (drop (i + 1) xs) (drop (i + 1) ys) ≡ walk xs ys
  goes xs ys i x y r h g inv is holds =
      sym (ap (λ b. b && walk (drop (i + 1) xs) (drop (i + 1) ys)) (sym is ∙ holds)) ∙ sym (next xs ys i x y h g) ∙ inv
