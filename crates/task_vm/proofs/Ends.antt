-- The end of a list is the front of the list turned round.
use Rattle.std.proofs.Common.{◌≡◌, ℕ, suc, ◌+◌, ◌-◌, ◌<◌, ◌≤◌, ◌⊎◌, inl, inr, List, [], ◌∷◌, ◌++◌, length, sym, ap, ◌∙◌, take, drop, reverse, set, arith, length-drop}
use Rattle.std.proofs.lemmas.List.{reverse-append, reverse-reverse, length-reverse, take-append-drop, drop_all, take_all, set_split}
use Rattle.std.proofs.Math.Seq.{take-append_seam, drop-append_seam}

module _ {A : Type 0} (l : List A) (n k : ℕ) (e : k ≡ length l - n) where
  turned : reverse l ≡ reverse (drop k l) ++ reverse (take k l)
  turned = ap reverse (sym (take-append-drop k l)) ∙ reverse-append (take k l) (drop k l)

  module _ (h : n ≤ length l) where
    len : n ≡ length (reverse (drop k l))
    len = omega (arith, length-reverse (drop k l), length-drop k l)

    latest_within : drop k l ≡ reverse (take n (reverse l))
    latest_within =
        sym (reverse-reverse (drop k l))
        ∙ ap reverse (sym (take-append_seam (reverse (drop k l)) (reverse (take k l))) ∙ ap (λ m. take m (reverse (drop k l) ++ reverse (take k l))) (sym len) ∙ ap (take n) (sym turned))

    below_within : reverse (take k l) ≡ drop n (reverse l)
    below_within =
        sym (drop-append_seam (reverse (drop k l)) (reverse (take k l))) ∙ ap (λ m. drop m (reverse (drop k l) ++ reverse (take k l))) (sym len) ∙ ap (drop n) (sym turned)

  module _ (h : length l ≤ n) where
    none : k ≡ 0
    none = omega arith

    long : length (reverse l) ≤ n
    long = omega (arith, length-reverse l)

    latest_past : drop k l ≡ reverse (take n (reverse l))
    latest_past = ap (λ m. drop m l) none ∙ sym (reverse-reverse l) ∙ ap reverse (sym (take_all n (reverse l) long))

    below_past : reverse (take k l) ≡ drop n (reverse l)
    below_past = ap (λ m. reverse (take m l)) none ∙ sym (drop_all n (reverse l) long)

  within : (n ≤ length l) ⊎ (length l ≤ n)
  within = grind arith

  -- the topmost words of a stack in the order in which they came
  pub latest : drop k l ≡ reverse (take n (reverse l))
  latest = elim within [ inl h ↦ latest_within h | inr h ↦ latest_past h ]

  -- the words below those
  pub below : reverse (take k l) ≡ drop n (reverse l)
  below = elim within [ inl h ↦ below_within h | inr h ↦ below_past h ]

-- another word on top
pub replaced : {A : Type 0} (l : List A) (k : ℕ) (a : A) → k + 1 ≡ length l → reverse (set l k a) ≡ a ∷ drop 1 (reverse l)
replaced l k a e =
    let lt : k < length l = omega arith in
    let all : length l ≤ suc k = omega arith in
    let one : k ≡ length l - 1 = omega arith in
    ap reverse (set_split l k a lt ∙ ap (λ r. take k l ++ a ∷ r) (drop_all (suc k) l all))
    ∙ reverse-append (take k l) (a ∷ [])
    ∙ ap (λ r. a ∷ r) (below l 1 k one)
