-- How many places are held, before and behind a change of a range.
use Rattle.std.proofs.Common.{◌≡◌, ℕ, zero, suc, ◌+◌, ◌-◌, ◌<◌, ◌≤◌, Bool, true, false, cond, List, [], ◌∷◌, length, set, subst, Option, Some, None, is_some, refl, sym, ap, ◌∙◌, inl, inr, arith}
use Rattle.std.proofs.lemmas.Bool.{cases_lt, cases_eq, false≢true}
use Rattle.std.proofs.lemmas.List.{get_or_past, length-set, get_or-set_same, get_or-set_other}
use Rattle.std.proofs.lemmas.List.Sums.{count_by-le-length, sum_by-cons}
use Rattle.mpc_values.specs.declared.values.Word.{Word}
use Rattle.mpc_values.specs.declared.values.Word.TheVariants.{Undef}
use Rattle.word_region.specs.Places.{cell, is_in, held_of, IsFree, IsHeld, Takes, Releases, Shifts}
use Rattle.word_region.proofs.Laid.{in_range, below_range, above_range}

-- how many of so many places pass a test
unfoldable pub tally : (ℕ → Bool) → ℕ → ℕ
tally test zero = 0
tally test (suc n) = cond (test 0) 1 0 + tally (λ p. test (suc p)) n

pub tally_same : (f g : ℕ → Bool) (n : ℕ) → ((p : ℕ) → p < n → f p ≡ g p) → tally f n ≡ tally g n
unfolding tally
tally_same f g zero same = refl
tally_same f g (suc n) same =
    ap (λ b. cond b 1 0 + tally (λ p. f (suc p)) n) (same 0 (omega arith))
    ∙ ap (λ t. cond (g 0) 1 0 + t) (tally_same (λ p. f (suc p)) (λ p. g (suc p)) n (λ p within. same (suc p) (omega arith)))

-- a range that passes the second test and not the first
pub tally_more : (f g : ℕ → Bool) (base len n : ℕ) → base + len ≤ n → ((p : ℕ) → p < base → g p ≡ f p) → ((p : ℕ) → base + len ≤ p → g p ≡ f p)
    → ((p : ℕ) → base ≤ p → p < base + len → f p ≡ false) → ((p : ℕ) → base ≤ p → p < base + len → g p ≡ true) → tally g n ≡ tally f n + len
unfolding tally
tally_more f g base zero n within low high was is =
    tally_same g f n (λ p below. elim (cases_lt p base) [ inl under ↦ low p under | inr from ↦ high p (omega arith) ]) ∙ (let e : tally f n ≡ tally f n + 0 = omega arith in e)
tally_more f g base (suc len) zero within low high was is = absurd (omega arith)
tally_more f g zero (suc len) (suc n) within low high was is =
    let rest : tally (λ p. g (suc p)) n ≡ tally (λ p. f (suc p)) n + len =
    tally_more (λ p. f (suc p)) (λ p. g (suc p)) 0 len n (omega arith)
    (λ p under. absurd (omega arith)) (λ p over. high (suc p) (omega arith))
    (λ p from until. was (suc p) (omega arith) (omega arith)) (λ p from until. is (suc p) (omega arith) (omega arith)) in
    ap (λ b. cond b 1 0 + tally (λ p. g (suc p)) n) (is 0 (omega arith) (omega arith))
    ∙ ((let e : 1 + tally (λ p. g (suc p)) n ≡ (0 + tally (λ p. f (suc p)) n) + suc len = omega (arith, rest) in e)
    ∙ ap (λ b. (cond b 1 0 + tally (λ p. f (suc p)) n) + suc len) (sym (was 0 (omega arith) (omega arith))))
tally_more f g (suc base) (suc len) (suc n) within low high was is =
    let rest : tally (λ p. g (suc p)) n ≡ tally (λ p. f (suc p)) n + suc len =
    tally_more (λ p. f (suc p)) (λ p. g (suc p)) base (suc len) n (omega arith)
    (λ p under. low (suc p) (omega arith)) (λ p over. high (suc p) (omega arith))
    (λ p from until. was (suc p) (omega arith) (omega arith)) (λ p from until. is (suc p) (omega arith) (omega arith)) in
    ap (λ b. cond b 1 0 + tally (λ p. g (suc p)) n) (low 0 (omega arith))
    ∙ (let e : cond (f 0) 1 0 + tally (λ p. g (suc p)) n ≡ (cond (f 0) 1 0 + tally (λ p. f (suc p)) n) + suc len = omega (arith, rest) in e)

-- no place from a number on passes
pub tally_past : (f : ℕ → Bool) (n more : ℕ) → ((p : ℕ) → n ≤ p → f p ≡ false) → tally f (n + more) ≡ tally f n
unfolding tally
tally_past f zero zero none = refl
tally_past f zero (suc more) none =
    ap (λ k. tally f k) (let e : 0 + suc more ≡ suc more = omega arith in e)
    ∙ (ap (λ b. cond b 1 0 + tally (λ p. f (suc p)) more) (none 0 (omega arith))
    ∙ ((let e : 0 + tally (λ p. f (suc p)) more ≡ tally (λ p. f (suc p)) (0 + more) = omega (arith, ap (λ k. tally (λ p. f (suc p)) k) (let z : 0 + more ≡ more = omega arith in z)) in e)
    ∙ tally_past (λ p. f (suc p)) zero more (λ p from. none (suc p) (omega arith))))
tally_past f (suc n) more none =
    ap (λ k. tally f k) (let e : suc n + more ≡ suc (n + more) = omega arith in e)
    ∙ ap (λ t. cond (f 0) 1 0 + t) (tally_past (λ p. f (suc p)) n more (λ p from. none (suc p) (omega arith)))

held_tally : (cells : List (Option Word)) → held_of cells ≡ tally (λ p. is_some (cell cells p)) (length cells)
unfolding tally
held_tally [] = refl
held_tally (c ∷ cells) = sum_by-cons (λ o. cond (is_some o) 1 0) c cells ∙ ap (λ n. cond (is_some c) 1 0 + n) (held_tally cells)

-- the same over more places
held_over : (cells : List (Option Word)) (n : ℕ) → length cells ≤ n → held_of cells ≡ tally (λ p. is_some (cell cells p)) n
held_over cells n le =
    held_tally cells ∙ (sym (tally_past (λ p. is_some (cell cells p)) (length cells) (n - length cells) (λ p past. ap is_some (get_or_past cells p None past)))
    ∙ ap (λ k. tally (λ p. is_some (cell cells p)) k) (let e : length cells + (n - length cells) ≡ n = omega arith in e))

out_low : (old new : List (Option Word)) (base len : ℕ) (o : Option Word) → ((p : ℕ) → cell new p ≡ cond (is_in base len p) o (cell old p)) → (p : ℕ) → p < base → cell new p ≡ cell old p
out_low old new base len o cells p below = cells p ∙ ap (λ b. cond b o (cell old p)) (below_range base len p below)

out_high : (old new : List (Option Word)) (base len : ℕ) (o : Option Word) → ((p : ℕ) → cell new p ≡ cond (is_in base len p) o (cell old p)) → (p : ℕ) → base + len ≤ p → cell new p ≡ cell old p
out_high old new base len o cells p past = cells p ∙ ap (λ b. cond b o (cell old p)) (above_range base len p past)

inside : (old new : List (Option Word)) (base len : ℕ) (o : Option Word) → ((p : ℕ) → cell new p ≡ cond (is_in base len p) o (cell old p)) → (p : ℕ) → base ≤ p → p < base + len → cell new p ≡ o
inside old new base len o cells p from until = cells p ∙ ap (λ b. cond b o (cell old p)) (in_range base len p from until)

pub held_more : (old new : List (Option Word)) (base len : ℕ) → Takes old new base len → IsFree old base len → held_of new ≡ held_of old + len
held_more old new base len takes free =
    let end = takes.end in
    held_over new (length new) (omega arith)
    ∙ (tally_more (λ p. is_some (cell old p)) (λ p. is_some (cell new p)) base len (length new) (omega arith)
    (λ p below. ap is_some (out_low old new base len (Some Undef) takes.cells p below)) (λ p past. ap is_some (out_high old new base len (Some Undef) takes.cells p past))
    (λ p from until. ap is_some (free p from until)) (λ p from until. ap is_some (inside old new base len (Some Undef) takes.cells p from until))
    ∙ ap (λ t. t + len) (sym (held_over old (length new) (omega arith))))

pub held_less : (old new : List (Option Word)) (base len : ℕ) → base + len ≤ length old → Releases old new base len → IsHeld old base len → held_of old ≡ held_of new + len
held_less old new base len within releases held =
    let end = releases.end in
    held_over old (length old) (omega arith)
    ∙ (tally_more (λ p. is_some (cell new p)) (λ p. is_some (cell old p)) base len (length old) within
    (λ p below. sym (ap is_some (out_low old new base len None releases.cells p below))) (λ p past. sym (ap is_some (out_high old new base len None releases.cells p past)))
    (λ p from until. ap is_some (inside old new base len None releases.cells p from until)) held
    ∙ ap (λ t. t + len) (sym (held_over new (length old) (omega arith))))

pub held_at_most : (cells : List (Option Word)) → held_of cells ≤ length cells
held_at_most cells = count_by-le-length is_some cells

-- the same places are held
pub held_same : (old new : List (Option Word)) → length new ≡ length old → ((p : ℕ) → is_some (cell new p) ≡ is_some (cell old p)) → held_of new ≡ held_of old
held_same old new same each =
    held_tally new ∙ (tally_same (λ p. is_some (cell new p)) (λ p. is_some (cell old p)) (length new) (λ p below. each p)
    ∙ sym (held_over old (length new) (omega arith)))

pub held_written : (cells : List (Option Word)) (at : ℕ) (w : Word) → is_some (cell cells at) ≡ true → held_of (set cells at (Some w)) ≡ held_of cells
held_written cells at w held =
    held_same cells (set cells at (Some w)) (length-set cells at (Some w))
    (λ p. elim (cases_eq p at) [
      | inl same ↦ subst (λ n. is_some (cell (set cells at (Some w)) n) ≡ is_some (cell cells n)) (sym same)
          (ap is_some (get_or-set_same cells at (Some w) None (elim (cases_lt at (length cells)) [
            | inl within ↦ within
            | inr past ↦ absurd (false≢true (ap is_some (sym (get_or_past cells at None past)) ∙ held))
          ])) ∙ sym held)
      | inr other ↦ ap is_some (get_or-set_other cells at p (Some w) None other)
    ])

pub held_shifted : (old new : List (Option Word)) (from to len : ℕ) → Shifts old new from to len → IsHeld old from len → IsHeld old to len → held_of new ≡ held_of old
held_shifted old new from to len shifts source target =
    held_same old new shifts.end
    (λ p. elim (cases_lt p to) [
      | inl under ↦ ap is_some (shifts.cells p ∙ ap (λ b. cond b (cell old (from + (p - to))) (cell old p)) (below_range to len p under))
      | inr over ↦ elim (cases_lt p (to + len)) [
        | inl inside ↦ ap is_some (shifts.cells p ∙ ap (λ b. cond b (cell old (from + (p - to))) (cell old p)) (in_range to len p over inside))
            ∙ (source (from + (p - to)) (omega arith) (omega arith) ∙ sym (target p over inside))
        | inr past ↦ ap is_some (shifts.cells p ∙ ap (λ b. cond b (cell old (from + (p - to))) (cell old p)) (above_range to len p past))
      ]
    ])
