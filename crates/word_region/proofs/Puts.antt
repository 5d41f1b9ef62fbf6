-- A range that is in no hole is put into the holes: alone, or in one with the hole that ends where it begins, with the
-- hole that begins where it ends, or with both.
use Rattle.std.proofs.Common.{◌≡◌, ◌≢◌, ℕ, suc, ◌+◌, ◌-◌, ◌<◌, ◌≤◌, Bool, false, ◌||◌, List, [], ◌∷◌, ◌++◌, length, take, drop, set, sym, ap, subst, ◌∙◌, arith, inl, inr, append_assoc, length-drop}
use Rattle.std.specs.List.{insert, remove}
use Rattle.std.proofs.lemmas.Bool.{cases_lt, false≢true}
use Rattle.std.proofs.lemmas.List.Edits.{get_or-remove_below}
use Rattle.std.proofs.lemmas.List.{places, drop_more, take_more, take-append-drop, set_at, get_or-drop, length-take-le}
use Rattle.word_region.specs.declared.holes.Hole.{Hole}
use Rattle.word_region.specs.Places.{is_in}
use Rattle.word_region.specs.Holes.{is_in_hole, Lies, no_hole, hole_at, Put, IsOutside, IsPlace}
use Rattle.word_region.proofs.Laid.{in_range, above_range, in_more, in_both, Parts, join, append_rest, joined_range}
use Rattle.word_region.proofs.Edits.{split_at, cut_at, in_parts, set_parts}

-- A range that is in no hole is put into the holes: `front` begins before it, `rest` does not.
pub front_until : (low : ℕ) (front rest : List Hole) (base len high : ℕ) → Lies low (front ++ rest) high → 0 < len
    → ((j : ℕ) → j < length front → (hole_at front j).base < base) → IsOutside (front ++ rest) base len → Lies low front (base + 1)
front_until low [] rest base len high lies some starts outside = tt
front_until low (f ∷ front) rest base len high lies some starts outside =
    let begins : f.base < base = starts 0 (omega arith) in
    let past : f.base + f.len ≤ base =
    elim (cases_lt base (f.base + f.len)) [
      | inl inside ↦ absurd (false≢true (sym (outside base (omega arith) (omega arith)) ∙ (in_more f (front ++ rest) base ∙ ap (λ b. b || is_in_hole (front ++ rest) base) (in_range f.base f.len base (omega arith) inside))))
      | inr past ↦ past
    ] in
    let others : IsOutside (front ++ rest) base len =
    λ p from until. sym (in_more f (front ++ rest) p ∙ ap (λ b. b || is_in_hole (front ++ rest) p) (above_range f.base f.len p (omega arith))) ∙ outside p from until in
    (lies.0, (lies.1.0, (omega arith, front_until (f.base + f.len + 1) front rest base len high lies.1.1.1 some (λ j there. starts (suc j) (omega arith)) others)))

pub rest_from : (low : ℕ) (rest : List Hole) (base len high : ℕ) → Lies low rest high → ((j : ℕ) → j < length rest → base ≤ (hole_at rest j).base)
    → IsOutside rest base len → Lies (base + len) rest high
rest_from low [] base len high lies starts outside = tt
rest_from low (r ∷ rest) base len high lies starts outside =
    let begins : base ≤ r.base = starts 0 (omega arith) in
    let past : base + len ≤ r.base =
    elim (cases_lt r.base (base + len)) [
      | inl inside ↦ absurd (false≢true (sym (outside r.base begins inside) ∙ (in_more r rest r.base ∙ ap (λ b. b || is_in_hole rest r.base) (in_range r.base r.len r.base (omega arith) (omega (arith, lies.1.0))))))
      | inr past ↦ past
    ] in
    (past, lies.1)

-- no hole of the front ends at the place
pub tight_front : (low : ℕ) (front : List Hole) (base : ℕ) → Lies low front (base + 1)
    → (0 < length front → (hole_at front (length front - 1)).base + (hole_at front (length front - 1)).len ≢ base) → Lies low front base
tight_front low [] base lies apart = tt
tight_front low (f ∷ []) base lies apart =
    let until : f.base + f.len < base + 1 = lies.1.1.0 in
    let other : f.base + f.len ≢ base = λ e. apart (omega arith) (subst (λ n. (hole_at (f ∷ []) n).base + (hole_at (f ∷ []) n).len ≡ base) (let z : 0 ≡ 1 - 1 = omega arith in z) e) in
    (lies.0, (lies.1.0, (omega arith, tt)))
tight_front low (f ∷ g ∷ front) base lies apart =
    let rest = tight_front (f.base + f.len + 1) (g ∷ front) base lies.1.1.1
    (λ some e. apart (omega arith) (subst (λ n. (hole_at (f ∷ g ∷ front) n).base + (hole_at (f ∷ g ∷ front) n).len ≡ base)
    (let z : suc (length (g ∷ front) - 1) ≡ length (f ∷ g ∷ front) - 1 = omega arith in z) e)) in
    let next : f.base + f.len + 1 ≤ g.base = lies.1.1.1.0 in
    let until : g.base + g.len < base + 1 = lies.1.1.1.1.1.0 in
    (lies.0, (lies.1.0, (omega arith, rest)))

-- no hole of the rest begins at the place
tight_rest : (low : ℕ) (rest : List Hole) (high : ℕ) → Lies low rest high → (0 < length rest → (hole_at rest 0).base ≢ low) → Lies (low + 1) rest high
tight_rest low [] high lies apart = tt
tight_rest low (r ∷ rest) high lies apart =
    let other : r.base ≢ low = apart (omega arith) in
    let from : low ≤ r.base = lies.0 in
    (omega arith, lies.1)

alone_bits : (f r b : Bool) → (f || (r || b)) ≡ ((f || b) || r)
alone_bits f r b = grind arith

before_bits : (g x r b n : Bool) → n ≡ (x || r) → (g || (n || b)) ≡ ((g || (x || b)) || r)
before_bits g x r b n e = grind arith

behind_bits : (f y r b n : Bool) → n ≡ (r || y) → (f || (n || b)) ≡ ((f || (y || b)) || r)
behind_bits f y r b n e = grind arith

both_bits : (g x y r b n : Bool) → n ≡ (x || (r || y)) → (g || (n || b)) ≡ ((g || (x || (y || b))) || r)
both_bits g x y r b n e = grind arith

or_right : (a b : Bool) → (a || b) ≡ false → b ≡ false
or_right a b e = grind arith

-- the range goes to this place of the list
pub record Goes (xs : List Hole) (k base len high : ℕ) : Type 0 where
  pub laid : Lies 0 xs high
  pub some : 0 < len
  pub until : base + len < high
  pub outside : IsOutside xs base len
  pub place : IsPlace base xs k

module _ (xs : List Hole) (k base len high : ℕ) (goes : Goes xs k base len high) where
  parts_are : take k xs ++ drop k xs ≡ xs
  parts_are = take-append-drop k xs

  front_length : length (take k xs) ≡ k
  front_length = length-take-le k xs goes.place.within

  front_at : (j : ℕ) → j < k → hole_at (take k xs) j ≡ hole_at xs j
  front_at j below = grind (arith, places)

  rest_at : (j : ℕ) → hole_at (drop k xs) j ≡ hole_at xs (k + j)
  rest_at j = get_or-drop k xs j no_hole

  outside_parts : IsOutside (take k xs ++ drop k xs) base len
  outside_parts = subst (λ hs. IsOutside hs base len) (sym parts_are) goes.outside

  laid_parts : Lies 0 (take k xs ++ drop k xs) high
  laid_parts = subst (λ hs. Lies 0 hs high) (sym parts_are) goes.laid

  -- the holes before the range end at it at the latest
  front_lies : Lies 0 (take k xs) (base + 1)
  front_lies = front_until 0 (take k xs) (drop k xs) base len high laid_parts goes.some
      (λ j there. subst (λ (h : Hole). h.base < base) (sym (front_at j (let n = front_length in omega arith))) (goes.place.before j (let n = front_length in omega arith)))
      outside_parts

  rest_outside : IsOutside (drop k xs) base len
  rest_outside p from before = or_right (is_in_hole (take k xs) p) (is_in_hole (drop k xs) p) (sym (in_both (take k xs) (drop k xs) p) ∙ outside_parts p from before)

  -- the other holes begin behind it
  rest_lies : Lies (base + len) (drop k xs) high
  rest_lies = rest_from 0 (drop k xs) base len high (append_rest 0 (take k xs) (drop k xs) high laid_parts)
      (λ j there. subst (λ (h : Hole). base ≤ h.base) (sym (rest_at j)) (goes.place.behind (k + j) (omega arith) (let n = length-drop k xs in omega arith)))
      rest_outside

  -- where the hole before the range does not touch it
  apart_front : (0 < k → (hole_at xs (k - 1)).base + (hole_at xs (k - 1)).len ≢ base) → Lies 0 (take k xs) base
  apart_front apart = tight_front 0 (take k xs) base front_lies
      (λ some e. apart (let n = front_length in omega arith)
      (subst (λ (h : Hole). h.base + h.len ≡ base) (front_at (k - 1) (let n = front_length in omega arith))
      (subst (λ n. (hole_at (take k xs) (n - 1)).base + (hole_at (take k xs) (n - 1)).len ≡ base) front_length e)))

  -- where the hole behind the range does not touch it
  apart_rest : (k < length xs → (hole_at xs k).base ≢ base + len) → Lies (base + len + 1) (drop k xs) high
  apart_rest apart = tight_rest (base + len) (drop k xs) high rest_lies
      (λ some e. apart (let n = length-drop k xs in omega arith)
      (subst (λ n. (hole_at xs n).base ≡ base + len) (let z : k + 0 ≡ k = omega arith in z) (subst (λ (h : Hole). h.base ≡ base + len) (rest_at 0) e)))

  whole : (p : ℕ) → (is_in_hole (take k xs) p || is_in_hole (drop k xs) p) ≡ is_in_hole xs p
  whole p = sym (in_both (take k xs) (drop k xs) p) ∙ ap (λ hs. is_in_hole hs p) parts_are

  pub put_alone : (0 < k → (hole_at xs (k - 1)).base + (hole_at xs (k - 1)).len ≢ base) → (k < length xs → (hole_at xs k).base ≢ base + len)
      → Put xs (insert xs k (record { base = base; len = len })) base len high
  put_alone before behind = record {
    joins = λ p. in_parts (take k xs) (record { base = base; len = len }) (drop k xs) p
        ∙ (alone_bits (is_in_hole (take k xs) p) (is_in base len p) (is_in_hole (drop k xs) p) ∙ ap (λ b. b || is_in base len p) (whole p));
    laid = join 0 (take k xs) (record { base = base; len = len }) (drop k xs) high
        (record { before = apart_front before; from = omega arith; some = goes.some; until = goes.until; behind = apart_rest behind });
  }

  -- the hole before the range touches it
  module _ (some_before : 0 < k) (touch : (hole_at xs (k - 1)).base + (hole_at xs (k - 1)).len ≡ base) where
    there : k - 1 < length xs
    there = let w = goes.place.within in omega arith

    before_parts : Parts 0 (take (k - 1) xs) (hole_at xs (k - 1)) (drop (k - 1 + 1) xs) high
    before_parts = cut_at 0 xs (k - 1) high there goes.laid

    behind_is : drop (k - 1 + 1) xs ≡ drop k xs
    behind_is = ap (λ n. drop n xs) (let e : k - 1 + 1 ≡ k = omega arith in e)

    longer : ℕ → Hole
    longer more = record { base = (hole_at xs (k - 1)).base; len = (hole_at xs (k - 1)).len + more }

    longer_end : (more : ℕ) → (hole_at xs (k - 1)).base + ((hole_at xs (k - 1)).len + more) ≡ base + more
    longer_end more = omega (arith, touch)

    longer_range : (more p : ℕ) → is_in (hole_at xs (k - 1)).base ((hole_at xs (k - 1)).len + more) p ≡ (is_in (hole_at xs (k - 1)).base (hole_at xs (k - 1)).len p || is_in base more p)
    longer_range more p = joined_range (hole_at xs (k - 1)).base (hole_at xs (k - 1)).len more p
        ∙ ap (λ n. is_in (hole_at xs (k - 1)).base (hole_at xs (k - 1)).len p || is_in n more p) touch

    pub put_before : (k < length xs → (hole_at xs k).base ≢ base + len)
        → Put xs (set xs (k - 1) (record { base = (hole_at xs (k - 1)).base; len = (hole_at xs (k - 1)).len + len })) base len high
    put_before behind = record {
      joins = λ p. ap (λ hs. is_in_hole hs p) (set_parts xs (k - 1) (record { base = (hole_at xs (k - 1)).base; len = (hole_at xs (k - 1)).len + len }) there)
          ∙ (in_parts (take (k - 1) xs) (record { base = (hole_at xs (k - 1)).base; len = (hole_at xs (k - 1)).len + len }) (drop (k - 1 + 1) xs) p
          ∙ (before_bits (is_in_hole (take (k - 1) xs) p) (is_in (hole_at xs (k - 1)).base (hole_at xs (k - 1)).len p) (is_in base len p) (is_in_hole (drop (k - 1 + 1) xs) p)
          (is_in (hole_at xs (k - 1)).base ((hole_at xs (k - 1)).len + len) p) (longer_range len p)
          ∙ ap (λ b. b || is_in base len p) (sym (in_parts (take (k - 1) xs) (hole_at xs (k - 1)) (drop (k - 1 + 1) xs) p) ∙ ap (λ hs. is_in_hole hs p) (split_at xs (k - 1) there))));
      laid = subst (λ hs. Lies 0 hs high) (sym (set_parts xs (k - 1) (record { base = (hole_at xs (k - 1)).base; len = (hole_at xs (k - 1)).len + len }) there))
          (join 0 (take (k - 1) xs) (record { base = (hole_at xs (k - 1)).base; len = (hole_at xs (k - 1)).len + len }) (drop (k - 1 + 1) xs) high (record {
            before = before_parts.before;
            from = before_parts.from;
            some = let s = before_parts.some in omega arith;
            until = let e = longer_end len in let u : base + len < high = goes.until in omega arith;
            behind = subst (λ n. Lies (n + 1) (drop (k - 1 + 1) xs) high) (sym (longer_end len)) (subst (λ hs. Lies (base + len + 1) hs high) (sym behind_is) (apart_rest behind));
          }));
    }

    -- and so does the hole behind it
    module _ (some_behind : k < length xs) (meet : (hole_at xs k).base ≡ base + len) where
      all_is : take (k - 1) xs ++ hole_at xs (k - 1) ∷ (hole_at xs k ∷ drop (k + 1) xs) ≡ xs
      all_is = ap (λ rest. take (k - 1) xs ++ hole_at xs (k - 1) ∷ rest) (sym (behind_is ∙ drop_more xs k no_hole some_behind)) ∙ split_at xs (k - 1) there

      removed_is : remove xs k ≡ take (k - 1) xs ++ hole_at xs (k - 1) ∷ drop (k + 1) xs
      removed_is = ap (λ n. take k xs ++ drop n xs) (let e : suc k ≡ k + 1 = omega arith in e)
          ∙ (ap (λ n. take n xs ++ drop (k + 1) xs) (let e : k ≡ k - 1 + 1 = omega arith in e)
          ∙ (ap (λ front. front ++ drop (k + 1) xs) (take_more xs (k - 1) no_hole there)
          ∙ append_assoc (take (k - 1) xs) (hole_at xs (k - 1) ∷ []) (drop (k + 1) xs)))

      both_is : (h : Hole) → set (remove xs k) (k - 1) h ≡ take (k - 1) xs ++ h ∷ drop (k + 1) xs
      both_is h = ap (λ hs. set hs (k - 1) h) removed_is
          ∙ set_at (take (k - 1) xs) (hole_at xs (k - 1)) (drop (k + 1) xs) h (k - 1) (length-take-le (k - 1) xs (let t = there in omega arith))

      both_range : (p : ℕ) → is_in base (len + (hole_at xs k).len) p ≡ (is_in base len p || is_in (hole_at xs k).base (hole_at xs k).len p)
      both_range p = joined_range base len (hole_at xs k).len p ∙ ap (λ n. is_in base len p || is_in n (hole_at xs k).len p) (sym meet)

      all_in : (p : ℕ) → (is_in_hole (take (k - 1) xs) p || (is_in (hole_at xs (k - 1)).base (hole_at xs (k - 1)).len p || (is_in (hole_at xs k).base (hole_at xs k).len p || is_in_hole (drop (k + 1) xs) p))) ≡ is_in_hole xs p
      all_in p = ap (λ b. is_in_hole (take (k - 1) xs) p || (is_in (hole_at xs (k - 1)).base (hole_at xs (k - 1)).len p || b)) (sym (in_more (hole_at xs k) (drop (k + 1) xs) p))
          ∙ (sym (in_parts (take (k - 1) xs) (hole_at xs (k - 1)) (hole_at xs k ∷ drop (k + 1) xs) p) ∙ ap (λ hs. is_in_hole hs p) all_is)

      behind_parts : Parts 0 (take k xs) (hole_at xs k) (drop (k + 1) xs) high
      behind_parts = cut_at 0 xs k high some_behind goes.laid

      joined : Hole
      joined = record { base = (hole_at xs (k - 1)).base; len = (hole_at xs (k - 1)).len + (len + (hole_at xs k).len) }

      both_put : Put xs (set (remove xs k) (k - 1) (record { base = (hole_at xs (k - 1)).base; len = (hole_at xs (k - 1)).len + (len + (hole_at xs k).len) })) base len high
      both_put = record {
        joins = λ p. ap (λ hs. is_in_hole hs p) (both_is (record { base = (hole_at xs (k - 1)).base; len = (hole_at xs (k - 1)).len + (len + (hole_at xs k).len) }))
            ∙ (in_parts (take (k - 1) xs) (record { base = (hole_at xs (k - 1)).base; len = (hole_at xs (k - 1)).len + (len + (hole_at xs k).len) }) (drop (k + 1) xs) p
            ∙ (both_bits (is_in_hole (take (k - 1) xs) p) (is_in (hole_at xs (k - 1)).base (hole_at xs (k - 1)).len p) (is_in (hole_at xs k).base (hole_at xs k).len p)
            (is_in base len p) (is_in_hole (drop (k + 1) xs) p) (is_in (hole_at xs (k - 1)).base ((hole_at xs (k - 1)).len + (len + (hole_at xs k).len)) p)
            (longer_range (len + (hole_at xs k).len) p ∙ ap (λ b. is_in (hole_at xs (k - 1)).base (hole_at xs (k - 1)).len p || b) (both_range p))
            ∙ ap (λ b. b || is_in base len p) (all_in p)));
        laid = subst (λ hs. Lies 0 hs high) (sym (both_is (record { base = (hole_at xs (k - 1)).base; len = (hole_at xs (k - 1)).len + (len + (hole_at xs k).len) })))
            (join 0 (take (k - 1) xs) (record { base = (hole_at xs (k - 1)).base; len = (hole_at xs (k - 1)).len + (len + (hole_at xs k).len) }) (drop (k + 1) xs) high (record {
              before = before_parts.before;
              from = before_parts.from;
              some = let s = before_parts.some in omega arith;
              until = let e = longer_end (len + (hole_at xs k).len) in let u : (hole_at xs k).base + (hole_at xs k).len < high = behind_parts.until in omega (arith, meet);
              behind = subst (λ n. Lies (n + 1) (drop (k + 1) xs) high)
                  (let e = longer_end (len + (hole_at xs k).len) in let z : (hole_at xs k).base + (hole_at xs k).len ≡ (hole_at xs (k - 1)).base + ((hole_at xs (k - 1)).len + (len + (hole_at xs k).len)) = omega (arith, meet) in z)
                  behind_parts.behind;
            }));
      }

      kept_before : hole_at (remove xs k) (k - 1) ≡ hole_at xs (k - 1)
      kept_before = get_or-remove_below xs k no_hole (k - 1) (omega arith) some_behind

      pub both_fits : (hole_at (remove xs k) (k - 1)).len + (len + (hole_at xs k).len) < high
      both_fits = let e = longer_end (len + (hole_at xs k).len) in let u : (hole_at xs k).base + (hole_at xs k).len < high = behind_parts.until in
          subst (λ (h : Hole). h.len + (len + (hole_at xs k).len) < high) (sym kept_before) (omega (arith, meet))

      pub put_both : Put xs (set (remove xs k) (k - 1) (record { base = (hole_at (remove xs k) (k - 1)).base; len = (hole_at (remove xs k) (k - 1)).len + (len + (hole_at xs k).len) })) base len high
      put_both = subst (λ (h : Hole). Put xs (set (remove xs k) (k - 1) (record { base = h.base; len = h.len + (len + (hole_at xs k).len) })) base len high) (sym kept_before) both_put

  -- the hole behind the range touches it
  module _ (some_behind : k < length xs) (meet : (hole_at xs k).base ≡ base + len) where
    next_parts : Parts 0 (take k xs) (hole_at xs k) (drop (k + 1) xs) high
    next_parts = cut_at 0 xs k high some_behind goes.laid

    next_range : (p : ℕ) → is_in base (len + (hole_at xs k).len) p ≡ (is_in base len p || is_in (hole_at xs k).base (hole_at xs k).len p)
    next_range p = joined_range base len (hole_at xs k).len p ∙ ap (λ n. is_in base len p || is_in n (hole_at xs k).len p) (sym meet)

    pub behind_fits : len + (hole_at xs k).len < high
    behind_fits = let u : (hole_at xs k).base + (hole_at xs k).len < high = next_parts.until in omega (arith, meet)

    pub put_behind : (0 < k → (hole_at xs (k - 1)).base + (hole_at xs (k - 1)).len ≢ base)
        → Put xs (set xs k (record { base = base; len = len + (hole_at xs k).len })) base len high
    put_behind before = record {
      joins = λ p. ap (λ hs. is_in_hole hs p) (set_parts xs k (record { base = base; len = len + (hole_at xs k).len }) some_behind)
          ∙ (in_parts (take k xs) (record { base = base; len = len + (hole_at xs k).len }) (drop (k + 1) xs) p
          ∙ (behind_bits (is_in_hole (take k xs) p) (is_in (hole_at xs k).base (hole_at xs k).len p) (is_in base len p) (is_in_hole (drop (k + 1) xs) p) (is_in base (len + (hole_at xs k).len) p) (next_range p)
          ∙ ap (λ b. b || is_in base len p) (sym (in_parts (take k xs) (hole_at xs k) (drop (k + 1) xs) p) ∙ ap (λ hs. is_in_hole hs p) (split_at xs k some_behind))));
      laid = subst (λ hs. Lies 0 hs high) (sym (set_parts xs k (record { base = base; len = len + (hole_at xs k).len }) some_behind))
          (join 0 (take k xs) (record { base = base; len = len + (hole_at xs k).len }) (drop (k + 1) xs) high (record {
            before = apart_front before;
            from = omega arith;
            some = let s : 0 < len = goes.some in omega arith;
            until = let u : (hole_at xs k).base + (hole_at xs k).len < high = next_parts.until in omega (arith, meet);
            behind = subst (λ n. Lies (n + 1) (drop (k + 1) xs) high)
                (let z : (hole_at xs k).base + (hole_at xs k).len ≡ base + (len + (hole_at xs k).len) = omega (arith, meet) in z) next_parts.behind;
          }));
    }
