-- The cells of a vector of words with holes.
use Rattle.std.proofs.Common.{◌≡◌, ℕ, zero, suc, ◌+◌, ◌<◌, ◌≤◌, max, Bool, true, false, not, cond, ◌&&◌, ◌||◌, List, [], ◌∷◌, length, get_or, set, ◌-◌, Option, Some, None, is_some, refl, sym, ap, ◌∙◌, inl, inr, arith}
use Rattle.std.proofs.lemmas.Bool.{cases_lt, false≢true}
use Rattle.std.proofs.lemmas.List.{get_or_past}
use Rattle.mpc_values.specs.declared.values.Word.{Word}
use Rattle.mpc_values.specs.declared.values.Word.TheVariants.{Undef}
use Rattle.word_region.specs.declared.holes.Hole.{Hole}
use Rattle.word_region.specs.Places.{cell, is_in, IsHeld, Takes, Releases, Shifts}
use Rattle.word_region.specs.Holes.{is_in_hole, shown, cells_from, cells_of, Unsets, LeavesHoles, JoinsHoles, Copies}
use Rattle.word_region.proofs.Laid.{in_range, below_range, above_range}

pub length-cells : (holes : List Hole) (n : ℕ) (words : List Word) → length (cells_from holes n words) ≡ length words
unfolding cells_from
length-cells holes n [] = refl
length-cells holes n (w ∷ words) = ap suc (length-cells holes (n + 1) words)

pub cell_from : (holes : List Hole) (n : ℕ) (words : List Word) (i : ℕ) (d : Word) → i < length words
    → cell (cells_from holes n words) i ≡ shown holes (n + i) (get_or words i d)
unfolding cells_from
cell_from holes n [] i d within = absurd (omega arith)
cell_from holes n (w ∷ words) zero d within = ap (λ k. shown holes k w) (sym (let e : n + 0 ≡ n = omega arith in e))
cell_from holes n (w ∷ words) (suc i) d within =
    cell_from holes (n + 1) words i d (omega arith) ∙ ap (λ k. shown holes k (get_or words i d)) (let e : (n + 1) + i ≡ n + suc i = omega arith in e)

-- a place of the vector
pub cell_within : (words : List Word) (holes : List Hole) (p : ℕ) (d : Word) → p < length words
    → cell (cells_of words holes) p ≡ shown holes p (get_or words p d)
cell_within words holes p d within = cell_from holes 0 words p d within ∙ ap (λ k. shown holes k (get_or words p d)) (let e : 0 + p ≡ p = omega arith in e)

-- a place past the end
pub cell_past : (words : List Word) (holes : List Hole) (p : ℕ) → length words ≤ p → cell (cells_of words holes) p ≡ None
cell_past words holes p past = get_or_past (cells_of words holes) p None (let e = length-cells holes 0 words in omega arith)

take_bits : (h r : Bool) (w : Word) → cond (h && not r) None (Some (cond r Undef w)) ≡ cond r (Some Undef) (cond h None (Some w))
take_bits true true w = refl
take_bits true false w = refl
take_bits false true w = refl
take_bits false false w = refl

release_bits : (h r : Bool) (w : Word) → cond (h || r) None (Some w) ≡ cond r None (cond h None (Some w))
release_bits true true w = refl
release_bits true false w = refl
release_bits false true w = refl
release_bits false false w = refl

none_bits : (r : Bool) → ◌≡◌ {A = Option Word} (cond r None None) None
none_bits true = refl
none_bits false = refl

-- words that are unset, and no more in a hole, are taken
pub takes : (words words' : List Word) (holes holes' : List Hole) (base len : ℕ) → base ≤ length words → Unsets words words' base len
    → LeavesHoles holes holes' base len → Takes (cells_of words holes) (cells_of words' holes') base len
takes words words' holes holes' base len from unset leaves = record {
  cells = λ p. elim (cases_lt p (length words')) [
    | inl within ↦
        let here = cell_within words' holes' p Undef within in
        let word = unset.words p within in
        let bits = take_bits (is_in_hole holes p) (is_in base len p) (get_or words p Undef) in
        let now : cell (cells_of words' holes') p ≡ cond (is_in base len p) (Some Undef) (cond (is_in_hole holes p) None (Some (get_or words p Undef))) =
        here ∙ (ap (λ w. cond (is_in_hole holes' p) None (Some w)) word
        ∙ (ap (λ b. cond b None (Some (cond (is_in base len p) Undef (get_or words p Undef)))) (leaves p) ∙ bits)) in
        elim (cases_lt p (length words)) [
          | inl old ↦ now ∙ ap (λ o. cond (is_in base len p) (Some Undef) o) (sym (cell_within words holes p Undef old))
          | inr past ↦
              let yes : is_in base len p ≡ true = in_range base len p (omega arith) (let e = unset.end in omega arith) in
              now ∙ (ap (λ b. cond b (Some Undef) (cond (is_in_hole holes p) None (Some (get_or words p Undef)))) yes
              ∙ ap (λ b. cond b (Some Undef) (cell (cells_of words holes) p)) (sym yes))
        ]
    | inr past ↦
        let e = unset.end in
        let no : is_in base len p ≡ false = above_range base len p (omega arith) in
        cell_past words' holes' p past ∙ (sym (cell_past words holes p (omega arith))
        ∙ ap (λ b. cond b (Some Undef) (cell (cells_of words holes) p)) (sym no))
  ];
  end = length-cells holes' 0 words' ∙ (unset.end ∙ ap (λ n. max n (base + len)) (sym (length-cells holes 0 words)));
}

-- places that are put into the holes are released
pub releases : (words : List Word) (holes holes' : List Hole) (base len : ℕ) → JoinsHoles holes holes' base len
    → Releases (cells_of words holes) (cells_of words holes') base len
releases words holes holes' base len joins = record {
  cells = λ p. elim (cases_lt p (length words)) [
    | inl within ↦
        cell_within words holes' p Undef within
        ∙ (ap (λ b. cond b None (Some (get_or words p Undef))) (joins p)
        ∙ (release_bits (is_in_hole holes p) (is_in base len p) (get_or words p Undef)
        ∙ ap (λ o. cond (is_in base len p) None o) (sym (cell_within words holes p Undef within))))
    | inr past ↦
        cell_past words holes' p past ∙ (sym (none_bits (is_in base len p)) ∙ ap (λ o. cond (is_in base len p) None o) (sym (cell_past words holes p past)))
  ];
  end = length-cells holes' 0 words ∙ sym (length-cells holes 0 words);
}

hidden : (b : Bool) (w : Word) → cond b None (Some w) ≡ None → b ≡ true
hidden true w e = refl
hidden false w e = cc

seen : (b : Bool) (w : Word) → is_some (cond b None (Some w)) ≡ true → b ≡ false
seen true w e = absurd (false≢true e)
seen false w e = refl

-- a free place of the vector lies in a hole, and a held one lies in none
pub free_in_hole : (words : List Word) (holes : List Hole) (p : ℕ) → p < length words → cell (cells_of words holes) p ≡ None → is_in_hole holes p ≡ true
free_in_hole words holes p within free =
    let shown_here : cond (is_in_hole holes p) None (Some (get_or words p Undef)) ≡ None = sym (cell_within words holes p Undef within) ∙ free in
    hidden (is_in_hole holes p) (get_or words p Undef) shown_here

pub in_hole_free : (words : List Word) (holes : List Hole) (p : ℕ) → p < length words → is_in_hole holes p ≡ true → cell (cells_of words holes) p ≡ None
in_hole_free words holes p within inside =
    cell_within words holes p Undef within ∙ ap (λ b. cond b None (Some (get_or words p Undef))) inside

pub held_outside : (words : List Word) (holes : List Hole) (p : ℕ) → is_some (cell (cells_of words holes) p) ≡ true → (p < length words) × (is_in_hole holes p ≡ false)
held_outside words holes p held = elim (cases_lt p (length words)) [
  | inl within ↦ (within, seen (is_in_hole holes p) (get_or words p Undef) (ap is_some (sym (cell_within words holes p Undef within)) ∙ held))
  | inr past ↦ absurd (false≢true (ap is_some (sym (cell_past words holes p past)) ∙ held))
]

pub cells-set : (holes : List Hole) (n : ℕ) (words : List Word) (i : ℕ) (w : Word)
    → cells_from holes n (set words i w) ≡ set (cells_from holes n words) i (shown holes (n + i) w)
unfolding cells_from
cells-set holes n [] i w = refl
cells-set holes n (x ∷ words) zero w = ap (λ k. shown holes k w ∷ cells_from holes (n + 1) words) (let e : n ≡ n + 0 = omega arith in e)
cells-set holes n (x ∷ words) (suc i) w =
    ap (λ rest. shown holes n x ∷ rest) (cells-set holes (n + 1) words i w
    ∙ ap (λ k. set (cells_from holes (n + 1) words) i (shown holes k w)) (let e : (n + 1) + i ≡ n + suc i = omega arith in e))

-- a word of a held place is changed
pub cells_written : (words : List Word) (holes : List Hole) (at : ℕ) (w : Word) → is_some (cell (cells_of words holes) at) ≡ true
    → cells_of (set words at w) holes ≡ set (cells_of words holes) at (Some w)
cells_written words holes at w held =
    cells-set holes 0 words at w
    ∙ (ap (λ k. set (cells_of words holes) at (shown holes k w)) (let e : 0 + at ≡ at = omega arith in e)
    ∙ ap (λ b. set (cells_of words holes) at (cond b None (Some w))) (held_outside words holes at held).1)

-- the word of a held place
pub held_word : (words : List Word) (holes : List Hole) (at : ℕ) (d : Word) → is_some (cell (cells_of words holes) at) ≡ true
    → cell (cells_of words holes) at ≡ Some (get_or words at d)
held_word words holes at d held =
    let out = held_outside words holes at held in
    cell_within words holes at d out.0 ∙ ap (λ b. cond b None (Some (get_or words at d))) out.1

-- A held range lies within the vector.
pub held_within : (words : List Word) (holes : List Hole) (base len : ℕ) → 0 < len → IsHeld (cells_of words holes) base len → base + len ≤ length words
held_within words holes base len some held =
    let last = (held_outside words holes (base + len - 1) (held (base + len - 1) (omega arith) (omega arith))).0 in omega (arith, last)

-- words that are copied from a held range to another are shifted
pub shifts : (words words' : List Word) (holes : List Hole) (from to len : ℕ) → Copies words words' from to len
    → IsHeld (cells_of words holes) from len → IsHeld (cells_of words holes) to len → Shifts (cells_of words holes) (cells_of words' holes) from to len
shifts words words' holes from to len copies source target = let same = copies.end in record {
  cells = λ p. elim (cases_lt p (length words)) [
    | inl within ↦
        let here = cell_within words' holes p Undef (omega arith) in
        elim (cases_lt p to) [
          | inl under ↦ here ∙ (ap (λ w. shown holes p w) (copies.below p Undef under) ∙ (sym (cell_within words holes p Undef within)
              ∙ ap (λ b. cond b (cell (cells_of words holes) (from + (p - to))) (cell (cells_of words holes) p)) (sym (below_range to len p under))))
          | inr over ↦ elim (cases_lt p (to + len)) [
            | inl inside ↦
                let word : get_or words' p Undef ≡ get_or words (from + (p - to)) Undef =
                copies.copied p Undef over inside in
                here ∙ (ap (λ w. shown holes p w) word
                ∙ (ap (λ b. cond b None (Some (get_or words (from + (p - to)) Undef))) (held_outside words holes p (target p over inside)).1
                ∙ (sym (held_word words holes (from + (p - to)) Undef (source (from + (p - to)) (omega arith) (omega arith)))
                ∙ ap (λ b. cond b (cell (cells_of words holes) (from + (p - to))) (cell (cells_of words holes) p)) (sym (in_range to len p over inside)))))
            | inr past ↦ here ∙ (ap (λ w. shown holes p w) (copies.above p Undef past) ∙ (sym (cell_within words holes p Undef within)
                ∙ ap (λ b. cond b (cell (cells_of words holes) (from + (p - to))) (cell (cells_of words holes) p)) (sym (above_range to len p past))))
          ]
        ]
    | inr past ↦
        let out : is_in to len p ≡ false = elim (cases_lt p to) [
          | inl under ↦ below_range to len p under
          | inr over ↦ elim (cases_lt p (to + len)) [
            | inl inside ↦ absurd (let w = (held_outside words holes p (target p over inside)).0 in omega arith)
            | inr behind ↦ above_range to len p behind
          ]
        ] in
        cell_past words' holes p (omega arith) ∙ (sym (cell_past words holes p past)
        ∙ ap (λ b. cond b (cell (cells_of words holes) (from + (p - to))) (cell (cells_of words holes) p)) (sym out))
  ];
  end = length-cells holes 0 words' ∙ (same ∙ sym (length-cells holes 0 words));
}
