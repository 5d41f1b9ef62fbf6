-- The first hole with room gives the first range that fits, and where there is none, the end does.
use Rattle.std.proofs.Common.{◌≡◌, ◌≢◌, ℕ, suc, ◌+◌, ◌-◌, ◌<◌, ◌≤◌, Bool, true, false, not, ◌&&◌, ◌||◌, List, [], ◌∷◌, ◌++◌, length, take, drop, None, refl, sym, ap, subst, ◌∙◌, inl, inr, arith, append-nil}
use Rattle.std.specs.List.{remove}
use Rattle.std.proofs.lemmas.Bool.{cases_lt, false≢true}
use Rattle.std.proofs.lemmas.List.{places, length-take-le, drop_all}
use Rattle.mpc_values.specs.declared.values.Word.{Word}
use Rattle.word_region.specs.declared.holes.Hole.{Hole}
use Rattle.word_region.specs.Places.{cell, is_in, IsFree, IsFirstFit}
use Rattle.word_region.specs.Holes.{is_in_hole, Lies, AreLaid, cells_of, hole_at, IsNoneWith, LeavesHoles}
use Rattle.word_region.proofs.Laid.{in_range, below_range, above_range, in_none, in_more, nothing_below, nothing_above, wider, Parts}
use Rattle.word_region.proofs.Cells.{free_in_hole, in_hole_free, cell_past}
use Rattle.word_region.proofs.Edits.{split_at, cut_at, in_parts, remove_leaves}
use Rattle.word_region.proofs.Puts.{tight_front}

-- Holes that are all shorter than a range cover none that begins before their end.
pub no_earlier : (low : ℕ) (holes : List Hole) (high len other : ℕ) → Lies low holes high → ((j : ℕ) → j < length holes → (hole_at holes j).len < len)
    → other < high → 0 < len → ((p : ℕ) → other ≤ p → p < other + len → p < high → is_in_hole holes p ≡ true) → ⊥
no_earlier low [] high len other lies short before some covered =
    false≢true (sym (in_none other) ∙ covered other (omega arith) (omega arith) before)
no_earlier low (h ∷ hs) high len other lies short before some covered =
    let shorter : h.len < len = short 0 (omega arith) in
    elim (cases_lt other h.base) [
      | inl below ↦
          let none : is_in_hole (h ∷ hs) other ≡ false = in_more h hs other
          ∙ (ap (λ b. b || is_in_hole hs other) (below_range h.base h.len other below) ∙ nothing_below (h.base + h.len + 1) hs high other lies.1.1.1 (omega arith)) in
          false≢true (sym none ∙ covered other (omega arith) (omega arith) before)
      | inr from ↦ elim (cases_lt other (h.base + h.len)) [
        | inl inside ↦
            let none : is_in_hole (h ∷ hs) (h.base + h.len) ≡ false = in_more h hs (h.base + h.len)
            ∙ (ap (λ b. b || is_in_hole hs (h.base + h.len)) (above_range h.base h.len (h.base + h.len) (omega arith))
            ∙ nothing_below (h.base + h.len + 1) hs high (h.base + h.len) lies.1.1.1 (omega arith)) in
            false≢true (sym none ∙ covered (h.base + h.len) (omega arith) (omega arith) lies.1.1.0)
        | inr past ↦
            no_earlier (h.base + h.len + 1) hs high len other lies.1.1.1 (λ j there. short (suc j) (omega arith)) before some
            (λ p low' until within. sym (in_more h hs p ∙ ap (λ b. b || is_in_hole hs p) (above_range h.base h.len p (omega arith))) ∙ covered p low' until within)
      ]
    ]

held_in : (f h b : Bool) → h ≡ true → (f || (h || b)) ≡ true
held_in f h b e = grind arith

and_true : (b : Bool) → (b && true) ≡ b
and_true true = refl
and_true false = refl

front_only : (f h b : Bool) → h ≡ false → b ≡ false → (f || (h || b)) ≡ true → f ≡ true
front_only f h b eh eb e = grind arith

module _ (words : List Word) (holes : List Hole) (k len : ℕ) (laid : AreLaid words holes) (some : 0 < len) (there : k < length holes)
    (shorter : (j : ℕ) → j < k → (hole_at holes j).len < len) where
  parts : Parts 0 (take k holes) (hole_at holes k) (drop (k + 1) holes) (length words + 1)
  parts = cut_at 0 holes k (length words + 1) there laid

  inside : (p : ℕ) → is_in_hole holes p ≡ (is_in_hole (take k holes) p || (is_in (hole_at holes k).base (hole_at holes k).len p || is_in_hole (drop (k + 1) holes) p))
  inside p = ap (λ hs. is_in_hole hs p) (sym (split_at holes k there)) ∙ in_parts (take k holes) (hole_at holes k) (drop (k + 1) holes) p

  in_the_hole : (p : ℕ) → (hole_at holes k).base ≤ p → p < (hole_at holes k).base + (hole_at holes k).len → cell (cells_of words holes) p ≡ None
  in_the_hole p from until =
      in_hole_free words holes p (let u : (hole_at holes k).base + (hole_at holes k).len < length words + 1 = parts.until in omega arith)
      (inside p ∙ held_in (is_in_hole (take k holes) p) (is_in (hole_at holes k).base (hole_at holes k).len p) (is_in_hole (drop (k + 1) holes) p)
      (in_range (hole_at holes k).base (hole_at holes k).len p from until))

  -- a hole behind shorter ones gives the first range that fits, where its base gives one at all
  fits_at : IsFree (cells_of words holes) (hole_at holes k).base len → IsFirstFit (cells_of words holes) len (hole_at holes k).base
  fits_at free = record {
    free = free;
    first = λ other before covered.
        no_earlier 0 (take k holes) (hole_at holes k).base len other parts.before
        (λ j within. subst (λ (h : Hole). h.len < len) (let e : hole_at holes j ≡ hole_at (take k holes) j = grind (arith, places) in e)
        (shorter j (let n = length-take-le k holes (omega arith) in omega arith)))
        before some
        (λ p from until within.
        let here = free_in_hole words holes p (let s = parts.some in let u = parts.until in omega arith) (covered p from until) in
        front_only (is_in_hole (take k holes) p) (is_in (hole_at holes k).base (hole_at holes k).len p) (is_in_hole (drop (k + 1) holes) p)
        (below_range (hole_at holes k).base (hole_at holes k).len p within)
        (nothing_below ((hole_at holes k).base + (hole_at holes k).len + 1) (drop (k + 1) holes) (length words + 1) p parts.behind (omega arith))
        (sym (inside p) ∙ here));
  }

  -- the hole has room
  pub first_fits : len ≤ (hole_at holes k).len → IsFirstFit (cells_of words holes) len (hole_at holes k).base
  first_fits fits = fits_at (λ p from until. in_the_hole p from (omega arith))

  -- the hole is the last, too short, and reaches the end
  module _ (short : (hole_at holes k).len < len) (end : (hole_at holes k).base + (hole_at holes k).len ≡ length words) (last : length holes ≡ k + 1) where
    pub end_fits : IsFirstFit (cells_of words holes) len (hole_at holes k).base
    end_fits = fits_at (λ p from until. elim (cases_lt p (length words)) [
      | inl within ↦ in_the_hole p from (omega arith)
      | inr past ↦ cell_past words holes p past
    ])

    front_is : remove holes k ≡ take k holes
    front_is = ap (λ rest. take k holes ++ rest) (drop_all (suc k) holes (omega arith)) ∙ append-nil (take k holes)

    pub end_leaves : LeavesHoles holes (take k holes) (hole_at holes k).base len
    end_leaves p =
        let shorter_leaves : is_in_hole (take k holes) p ≡ (is_in_hole holes p && not (is_in (hole_at holes k).base (hole_at holes k).len p)) =
        ap (λ hs. is_in_hole hs p) (sym front_is) ∙ remove_leaves holes k 0 (length words + 1) there laid p in
        elim (cases_lt p (length words)) [
          | inl within ↦
              let same : is_in (hole_at holes k).base (hole_at holes k).len p ≡ is_in (hole_at holes k).base len p = elim (cases_lt p (hole_at holes k).base) [
                | inl below ↦ below_range (hole_at holes k).base (hole_at holes k).len p below ∙ sym (below_range (hole_at holes k).base len p below)
                | inr from ↦ in_range (hole_at holes k).base (hole_at holes k).len p from (omega arith) ∙ sym (in_range (hole_at holes k).base len p from (omega arith))
              ] in
              shorter_leaves ∙ ap (λ b. is_in_hole holes p && not b) same
          | inr past ↦
              let none : is_in_hole holes p ≡ false = nothing_above 0 holes (length words + 1) p laid (omega arith) in
              shorter_leaves ∙ (ap (λ b. b && not (is_in (hole_at holes k).base (hole_at holes k).len p)) none ∙ ap (λ b. b && not (is_in (hole_at holes k).base len p)) (sym none))
        ]

    pub end_lies : (high : ℕ) → length words ≤ high → Lies 0 (take k holes) high
    end_lies high le = wider 0 (take k holes) (hole_at holes k).base 0 high parts.before (omega arith) (omega arith)

-- no hole has room, and none reaches the end
module _ (words : List Word) (holes : List Hole) (len : ℕ) (laid : AreLaid words holes) (some : 0 < len) (none : IsNoneWith len holes)
    (apart : 0 < length holes → (hole_at holes (length holes - 1)).base + (hole_at holes (length holes - 1)).len ≢ length words) where
  tight : Lies 0 holes (length words)
  tight = tight_front 0 holes (length words) laid apart

  pub past_fits : IsFirstFit (cells_of words holes) len (length words)
  past_fits = record {
    free = λ p from until. cell_past words holes p from;
    first = λ other before covered. no_earlier 0 holes (length words) len other tight none before some
        (λ p from until within. free_in_hole words holes p within (covered p from until));
  }

  pub past_leaves : LeavesHoles holes holes (length words) len
  past_leaves p = elim (cases_lt p (length words)) [
    | inl within ↦ sym (ap (λ b. is_in_hole holes p && not b) (below_range (length words) len p within) ∙ and_true (is_in_hole holes p))
    | inr past ↦
        let none_here : is_in_hole holes p ≡ false = nothing_above 0 holes (length words + 1) p laid (omega arith) in
        none_here ∙ ap (λ b. b && not (is_in (length words) len p)) (sym none_here)
  ]

  pub past_lies : (high : ℕ) → length words ≤ high → Lies 0 holes high
  past_lies high le = wider 0 holes (length words) 0 high tight (omega arith) le
