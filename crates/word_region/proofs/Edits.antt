-- What an edit of a list of holes that lie apart leaves.
use Rattle.std.proofs.Common.{◌≡◌, ℕ, suc, ◌+◌, ◌-◌, ◌<◌, ◌≤◌, Bool, true, false, not, ◌&&◌, ◌||◌, List, ◌∷◌, ◌++◌, length, take, drop, set, refl, sym, ap, subst, ◌∙◌, arith, inl, inr}
use Rattle.std.proofs.lemmas.Bool.{cases_lt, false≢true}
use Rattle.std.proofs.lemmas.Bool.Decides.{nat_tests}
use Rattle.std.proofs.lemmas.List.{drop_more, take-append-drop, set_split}
use Rattle.std.specs.List.{remove}
use Rattle.word_region.specs.declared.holes.Hole.{Hole}
use Rattle.word_region.specs.Places.{is_in}
use Rattle.word_region.specs.Holes.{is_in_hole, Lies, no_hole, hole_at, LeavesHoles}
use Rattle.word_region.proofs.Laid.{below_range, above_range, in_more, in_both, nothing_below, nothing_above, wider, Parts, cut, join, append_lies}

-- a hole of the list, between those before it and those behind it
pub split_at : (xs : List Hole) (k : ℕ) → k < length xs → take k xs ++ hole_at xs k ∷ drop (k + 1) xs ≡ xs
split_at xs k there = ap (λ rest. take k xs ++ rest) (sym (drop_more xs k no_hole there)) ∙ take-append-drop k xs

pub cut_at : (low : ℕ) (xs : List Hole) (k high : ℕ) → k < length xs → Lies low xs high → Parts low (take k xs) (hole_at xs k) (drop (k + 1) xs) high
cut_at low xs k high there lies = cut low (take k xs) (hole_at xs k) (drop (k + 1) xs) high (subst (λ hs. Lies low hs high) (sym (split_at xs k there)) lies)

-- where a place is, by the holes before one hole, that hole, and those behind it
pub in_parts : (front : List Hole) (h : Hole) (back : List Hole) (p : ℕ) → is_in_hole (front ++ h ∷ back) p ≡ (is_in_hole front p || (is_in h.base h.len p || is_in_hole back p))
in_parts front h back p = in_both front (h ∷ back) p ∙ ap (λ b. is_in_hole front p || b) (in_more h back p)

pub leave_bits : (f h b n r : Bool) → n ≡ (h && not r) → (r ≡ true → f ≡ false) → (r ≡ true → b ≡ false) → (f || (n || b)) ≡ ((f || (h || b)) && not r)
leave_bits f h b n r e ff bb = grind arith

pub leave_all_bits : (f h b r : Bool) → r ≡ h → (r ≡ true → f ≡ false) → (r ≡ true → b ≡ false) → (f || b) ≡ ((f || (h || b)) && not r)
leave_all_bits f h b r e ff bb = grind arith

pub in_is : (base len p : ℕ) → is_in base len p ≡ true → (base ≤ p) × (p < base + len)
in_is base len p e =
    elim (cases_lt p base) [
      | inl low ↦ absurd (false≢true (sym (below_range base len p low) ∙ e))
      | inr from ↦ elim (cases_lt p (base + len)) [
        | inl until ↦ (from, until)
        | inr past ↦ absurd (false≢true (sym (above_range base len p past) ∙ e))
      ]
    ]

-- A hole is made shorter from its front, by less than its length or by all of it.
module _ (front : List Hole) (h : Hole) (back : List Hole) (low high : ℕ) (parts : Parts low front h back high) where
  none_before : (p : ℕ) → h.base ≤ p → is_in_hole front p ≡ false
  none_before p from = nothing_above low front h.base p parts.before (omega arith)

  none_behind : (p : ℕ) → p < h.base + h.len → is_in_hole back p ≡ false
  none_behind p until = nothing_below (h.base + h.len + 1) back high p parts.behind (omega arith)

  pub shorter_leaves : (len : ℕ) → len ≤ h.len → (p : ℕ)
      → is_in_hole (front ++ record { base = h.base + len; len = h.len - len } ∷ back) p ≡ (is_in_hole (front ++ h ∷ back) p && not (is_in h.base len p))
  shorter_leaves len fits p =
      let bits : is_in (h.base + len) (h.len - len) p ≡ (is_in h.base h.len p && not (is_in h.base len p)) = grind (arith, nat_tests) in
      in_parts front (record { base = h.base + len; len = h.len - len }) back p
      ∙ (leave_bits (is_in_hole front p) (is_in h.base h.len p) (is_in_hole back p) (is_in (h.base + len) (h.len - len) p) (is_in h.base len p) bits
      (λ e. none_before p (in_is h.base len p e).0)
      (λ e. none_behind p (let i = in_is h.base len p e in omega (arith, i.1)))
      ∙ ap (λ b. b && not (is_in h.base len p)) (sym (in_parts front h back p)))

  pub none_leaves : (p : ℕ) → is_in_hole (front ++ back) p ≡ (is_in_hole (front ++ h ∷ back) p && not (is_in h.base h.len p))
  none_leaves p =
      in_both front back p
      ∙ (leave_all_bits (is_in_hole front p) (is_in h.base h.len p) (is_in_hole back p) (is_in h.base h.len p) refl
      (λ e. none_before p (in_is h.base h.len p e).0)
      (λ e. none_behind p (in_is h.base h.len p e).1)
      ∙ ap (λ b. b && not (is_in h.base h.len p)) (sym (in_parts front h back p)))

  pub shorter_lies : (len : ℕ) → len < h.len → Lies low (front ++ record { base = h.base + len; len = h.len - len } ∷ back) high
  shorter_lies len fits =
      let until : h.base + h.len < high = parts.until in
      let end : (h.base + len) + (h.len - len) ≡ h.base + h.len = omega arith in
      join low front (record { base = h.base + len; len = h.len - len }) back high (record {
        before = wider low front h.base low (h.base + len) parts.before (omega arith) (omega arith);
        from = omega (arith, parts.from);
        some = omega arith;
        until = omega arith;
        behind = subst (λ e. Lies (e + 1) back high) (sym end) parts.behind;
      })

  pub none_lies : Lies low (front ++ back) high
  none_lies = append_lies low front h.base (h.base + h.len + 1) back high parts.before parts.behind parts.from (omega arith) (let u : h.base + h.len < high = parts.until in omega arith)

-- the list with another hole of this number, and without it
pub set_parts : (xs : List Hole) (k : ℕ) (h : Hole) → k < length xs → set xs k h ≡ take k xs ++ h ∷ drop (k + 1) xs
set_parts xs k h there = set_split xs k h there ∙ ap (λ n. take k xs ++ h ∷ drop n xs) (let e : suc k ≡ k + 1 = omega arith in e)

-- the same of a whole list, by the number of the hole
module _ (xs : List Hole) (k low high : ℕ) (there : k < length xs) (lies : Lies low xs high) where
  pub within_until : (hole_at xs k).base + (hole_at xs k).len < high
  within_until = (cut_at low xs k high there lies).until

  pub set_leaves : (len : ℕ) → len ≤ (hole_at xs k).len
      → LeavesHoles xs (set xs k (record { base = (hole_at xs k).base + len; len = (hole_at xs k).len - len })) (hole_at xs k).base len
  set_leaves len fits p =
      ap (λ hs. is_in_hole hs p) (set_parts xs k (record { base = (hole_at xs k).base + len; len = (hole_at xs k).len - len }) there)
      ∙ (shorter_leaves (take k xs) (hole_at xs k) (drop (k + 1) xs) low high (cut_at low xs k high there lies) len fits p
      ∙ ap (λ hs. is_in_hole hs p && not (is_in (hole_at xs k).base len p)) (split_at xs k there))

  pub set_lies : (len : ℕ) → len < (hole_at xs k).len → Lies low (set xs k (record { base = (hole_at xs k).base + len; len = (hole_at xs k).len - len })) high
  set_lies len fits =
      subst (λ hs. Lies low hs high) (sym (set_parts xs k (record { base = (hole_at xs k).base + len; len = (hole_at xs k).len - len }) there))
      (shorter_lies (take k xs) (hole_at xs k) (drop (k + 1) xs) low high (cut_at low xs k high there lies) len fits)

  pub remove_leaves : LeavesHoles xs (remove xs k) (hole_at xs k).base (hole_at xs k).len
  remove_leaves p =
      ap (λ n. is_in_hole (take k xs ++ drop n xs) p) (let e : suc k ≡ k + 1 = omega arith in e)
      ∙ (none_leaves (take k xs) (hole_at xs k) (drop (k + 1) xs) low high (cut_at low xs k high there lies) p
      ∙ ap (λ hs. is_in_hole hs p && not (is_in (hole_at xs k).base (hole_at xs k).len p)) (split_at xs k there))

  pub remove_lies : Lies low (remove xs k) high
  remove_lies =
      subst (λ n. Lies low (take k xs ++ drop n xs) high) (let e : k + 1 ≡ suc k = omega arith in e)
      (none_lies (take k xs) (hole_at xs k) (drop (k + 1) xs) low high (cut_at low xs k high there lies))
