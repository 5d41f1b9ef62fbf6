-- What taking, releasing and copying leave of the ranges in slots.
use Rattle.std.proofs.Common.{◌≡◌, ◌≢◌, ℕ, ◌+◌, ◌-◌, ◌<◌, ◌≤◌, ◌⊎◌, inl, inr, List, length, set, count_by, subst, Option, Some, None, is_some, true, false, cond, sym, ap, ◌∙◌, arith}
use Rattle.std.proofs.lemmas.Bool.{cases_eq, cases_lt, false≢true}
use Rattle.std.proofs.lemmas.List.{get_or_past, get_or-set_same, get_or-set_other}
use Rattle.std.proofs.lemmas.List.Sums.{sum_by-set}
use Rattle.mpc_values.specs.declared.values.Word.{Word}
use Rattle.mpc_values.specs.declared.values.Word.TheVariants.{Undef}
use Rattle.mpi_copy.specs.declared.Held.{Held}
use Rattle.mpi_copy.specs.Copies.{Holds, Lands}
use Rattle.word_region.specs.Places.{Places, cell, is_in, IsHeld, IsFree, Takes, Releases}
use Rattle.word_region.proofs.Laid.{in_range, below_range, above_range}
use Rattle.heap_runs.specs.Ranges.{slot, AreHeld}

-- a slot with a range is there
pub slot_there : (slots : List (Option Held)) (k : ℕ) (h : Held) → slot slots k ≡ Some h → k < length slots
slot_there slots k h is = elim (cases_lt k (length slots)) [
  | inl within ↦ within
  | inr past ↦ absurd (let none = get_or_past slots k None past in let e : Some h ≡ None = sym is ∙ none in cc)
]

-- a slot after a change is the changed one, or it is as it was
at_set : (slots : List (Option Held)) (k j : ℕ) (o : Option Held) (h : Held) → k < length slots → slot (set slots k o) j ≡ Some h
    → ((j ≡ k) × (o ≡ Some h)) ⊎ ((j ≢ k) × (slot slots j ≡ Some h))
at_set slots k j o h within is = elim (cases_eq j k) [
  | inl same ↦ inl (same, sym (get_or-set_same slots k o None within) ∙ (ap (λ n. slot (set slots k o) n) (sym same) ∙ is))
  | inr other ↦ inr (other, sym (get_or-set_other slots k j o None other) ∙ is)
]

same_range : (a b : Held) → Some a ≡ Some b → a ≡ b
same_range a b e = cc

-- how many ranges a slot has
abbrev ranges_in : Option Held → ℕ
ranges_in o = cond (is_some o) 1 0

-- how many slots have a range, after a change of one
counts : (slots : List (Option Held)) (k : ℕ) (o : Option Held) → k < length slots
    → count_by is_some (set slots k o) + ranges_in (slot slots k) ≡ count_by is_some slots + ranges_in o
counts slots k o within = sum_by-set ranges_in slots k o None within

-- one more
counts_taken : (slots : List (Option Held)) (k : ℕ) (h : Held) → k < length slots → slot slots k ≡ None → count_by is_some (set slots k (Some h)) ≡ count_by is_some slots + 1
counts_taken slots k h within empty =
    let n = counts slots k (Some h) within in
    let none : ranges_in (slot slots k) ≡ 0 = ap ranges_in empty in
    omega (arith, n, none)

-- one less
counts_released : (slots : List (Option Held)) (k : ℕ) (h : Held) → k < length slots → slot slots k ≡ Some h → count_by is_some (set slots k None) + 1 ≡ count_by is_some slots
counts_released slots k h within there =
    let n = counts slots k None within in
    let one : ranges_in (slot slots k) ≡ 1 = ap ranges_in there in
    omega (arith, n, one)

-- a range that was free is in the slot, and the places that were held still are
pub taken : (old new : Places) (slots : List (Option Held)) (k : ℕ) (h : Held) → AreHeld old slots → (k < length slots) × (slot slots k ≡ None) → 0 < h.len
    → IsFree old.cells h.base h.len → IsHeld new.cells h.base h.len → ((p : ℕ) → is_some (cell old.cells p) ≡ true → is_some (cell new.cells p) ≡ true)
    → new.ranges ≡ old.ranges + 1 → AreHeld new (set slots k (Some h))
taken old new slots k h was vacant some free here keeps more =
    let fresh : (j p : ℕ) (a : Held) → slot slots j ≡ Some a → a.base ≤ p → p < a.base + a.len → h.base ≤ p → p < h.base + h.len → ⊥ =
    λ j p a is from until low high. false≢true (ap is_some (sym (free p low high)) ∙ was.held j a is p from until) in
    record {
      some = λ j a is. elim (at_set slots k j (Some h) a vacant.0 is) [
        | inl here ↦ subst (λ (x : Held). 0 < x.len) (same_range h a here.1) some
        | inr there ↦ was.some j a there.1
      ];
      held = λ j a is. elim (at_set slots k j (Some h) a vacant.0 is) [
        | inl this ↦ subst (λ (x : Held). IsHeld new.cells x.base x.len) (same_range h a this.1) here
        | inr there ↦ (λ p from until. keeps p (was.held j a there.1 p from until))
      ];
      apart = λ i j p a b ia jb a1 a2 b1 b2. elim (at_set slots k i (Some h) a vacant.0 ia) [
        | inl first ↦ elim (at_set slots k j (Some h) b vacant.0 jb) [
          | inl second ↦ first.0 ∙ sym second.0
          | inr there ↦ absurd (let e = same_range h a first.1 in fresh j p b there.1 b1 b2 (subst (λ (x : Held). x.base ≤ p) (sym e) a1) (subst (λ (x : Held). p < x.base + x.len) (sym e) a2))
        ]
        | inr there ↦ elim (at_set slots k j (Some h) b vacant.0 jb) [
          | inl second ↦ absurd (let e = same_range h b second.1 in fresh i p a there.1 a1 a2 (subst (λ (x : Held). x.base ≤ p) (sym e) b1) (subst (λ (x : Held). p < x.base + x.len) (sym e) b2))
          | inr other ↦ was.apart i j p a b there.1 other.1 a1 a2 b1 b2
        ]
      ];
      count =
          let n = counts_taken slots k h vacant.0 vacant.1 in
          let now = was.count in
          omega (arith, n, now, more);
    }

-- the range in the slot is released, and each other place that was held still is
pub released : (old new : Places) (slots : List (Option Held)) (k : ℕ) (h : Held) → AreHeld old slots → slot slots k ≡ Some h
    → ((p : ℕ) → (p < h.base) ⊎ (h.base + h.len ≤ p) → is_some (cell old.cells p) ≡ true → is_some (cell new.cells p) ≡ true)
    → new.ranges + 1 ≡ old.ranges → AreHeld new (set slots k None)
released old new slots k h was there keeps less =
    let within = slot_there slots k h there in
    let left : (j : ℕ) (a : Held) → slot (set slots k None) j ≡ Some a → (j ≢ k) × (slot slots j ≡ Some a) = λ j a is.
    elim (at_set slots k j None a within is) [
      | inl gone ↦ absurd (let e = gone.1 in cc)
      | inr other ↦ other
    ] in
    record {
      some = λ j a is. was.some j a (left j a is).1;
      held = λ j a is p from until. keeps p (elim (cases_lt p h.base) [
        | inl below ↦ inl below
        | inr above ↦ elim (cases_lt p (h.base + h.len)) [
          | inl inside ↦ absurd ((left j a is).0 (was.apart j k p a h (left j a is).1 there from until above inside))
          | inr past ↦ inr past
        ]
      ]) (was.held j a (left j a is).1 p from until);
      apart = λ i j p a b ia jb. was.apart i j p a b (left i a ia).1 (left j b jb).1;
      count =
          let n = counts_released slots k h within there in
          let now = was.count in
          omega (arith, n, now, less);
    }

-- the slots are as they were, and the places that were held still are
pub unchanged : (old new : Places) (slots : List (Option Held)) → AreHeld old slots → ((p : ℕ) → is_some (cell old.cells p) ≡ true → is_some (cell new.cells p) ≡ true)
    → new.ranges ≡ old.ranges → AreHeld new slots
unchanged old new slots was keeps same = record {
  some = was.some;
  held = λ k h is p from until. keeps p (was.held k h is p from until);
  apart = was.apart;
  count = same ∙ was.count;
}

-- what a take, a copy into a new range, a landed copy, a release and a write leave held
pub takes_here : (old new : List (Option Word)) (base len : ℕ) → Takes old new base len → IsHeld new base len
takes_here old new base len takes p from until = ap is_some (takes.cells p ∙ ap (λ b. cond b (Some Undef) (cell old p)) (in_range base len p from until))

-- the place is in the range or not
sides : (base len p : ℕ) → ((base ≤ p) × (p < base + len)) ⊎ ((p < base) ⊎ (base + len ≤ p))
sides base len p = elim (cases_lt p base) [
  | inl below ↦ inr (inl below)
  | inr from ↦ elim (cases_lt p (base + len)) [
    | inl until ↦ inl (from, until)
    | inr past ↦ inr (inr past)
  ]
]

out_of : (base len p : ℕ) → (p < base) ⊎ (base + len ≤ p) → is_in base len p ≡ false
out_of base len p out = elim out [
  | inl below ↦ below_range base len p below
  | inr past ↦ above_range base len p past
]

pub takes_keep : (old new : List (Option Word)) (base len : ℕ) → Takes old new base len → (p : ℕ) → is_some (cell old p) ≡ true → is_some (cell new p) ≡ true
takes_keep old new base len takes p was = elim (sides base len p) [
  | inl both ↦ takes_here old new base len takes p both.0 both.1
  | inr out ↦ ap is_some (takes.cells p ∙ ap (λ b. cond b (Some Undef) (cell old p)) (out_of base len p out)) ∙ was
]

pub holds_here : (old new : List (Option Word)) (from base len : ℕ) → Holds old new from base len → IsHeld old from len → IsHeld new base len
holds_here old new from base len holds source p low high =
    ap is_some (holds.cells p ∙ ap (λ b. cond b (cell old (from + (p - base))) (cell old p)) (in_range base len p low high)) ∙ source (from + (p - base)) (omega arith) (omega arith)

pub holds_keep : (old new : List (Option Word)) (from base len : ℕ) → Holds old new from base len → IsHeld old from len → (p : ℕ) → is_some (cell old p) ≡ true → is_some (cell new p) ≡ true
holds_keep old new from base len holds source p was = elim (sides base len p) [
  | inl both ↦ holds_here old new from base len holds source p both.0 both.1
  | inr out ↦ ap is_some (holds.cells p ∙ ap (λ b. cond b (cell old (from + (p - base))) (cell old p)) (out_of base len p out)) ∙ was
]

pub lands_keep : (old new : List (Option Word)) (base to len : ℕ) → Lands old new base to len → IsHeld old base len
    → (p : ℕ) → (p < base) ⊎ (base + len ≤ p) → is_some (cell old p) ≡ true → is_some (cell new p) ≡ true
lands_keep old new base to len lands source p out was =
    ap is_some (lands.cells p ∙ ap (λ b. cond b None (cond (is_in to len p) (cell old (base + (p - to))) (cell old p))) (out_of base len p out))
    ∙ elim (sides to len p) [
      | inl both ↦ (let low = both.0 in let high = both.1 in
          ap (λ b. is_some (cond b (cell old (base + (p - to))) (cell old p))) (in_range to len p low high) ∙ source (base + (p - to)) (omega arith) (omega arith))
      | inr outside ↦ ap (λ b. is_some (cond b (cell old (base + (p - to))) (cell old p))) (out_of to len p outside) ∙ was
    ]

pub releases_keep : (old new : List (Option Word)) (base len : ℕ) → Releases old new base len → (p : ℕ) → (p < base) ⊎ (base + len ≤ p) → is_some (cell old p) ≡ true → is_some (cell new p) ≡ true
releases_keep old new base len releases p out was = ap is_some (releases.cells p ∙ ap (λ b. cond b None (cell old p)) (out_of base len p out)) ∙ was

pub written_keep : (old : List (Option Word)) (at : ℕ) (w : Word) (p : ℕ) → is_some (cell old p) ≡ true → is_some (cell (set old at (Some w)) p) ≡ true
written_keep old at w p was = elim (cases_eq p at) [
  | inl same ↦ subst (λ n. is_some (cell (set old at (Some w)) n) ≡ true) (sym same)
      (ap is_some (get_or-set_same old at (Some w) None (elim (cases_lt at (length old)) [
        | inl within ↦ within
        | inr past ↦ absurd (false≢true (ap is_some (sym (get_or_past old at None past)) ∙ subst (λ n. is_some (cell old n) ≡ true) same was))
      ])))
  | inr other ↦ ap is_some (get_or-set_other old at p (Some w) None other) ∙ was
]

-- the places with one word written
abbrev pub written : Places → ℕ → Word → Places
written places at w = record places { cells = set places.cells at (Some w) }
