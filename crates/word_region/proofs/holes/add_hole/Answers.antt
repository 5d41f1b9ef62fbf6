use Rattle.std.proofs.Common.{◌≡◌, ◌≢◌, ℕ, ◌+◌, ◌-◌, ◌<◌, ◌≤◌, List, length, set, subst, sym, ap, refl, ◌∙◌, arith}
use Rattle.std.specs.List.{remove}
use Rattle.std.proofs.lemmas.List.{get_or_read}
use Rattle.word_region.specs.declared.holes.Hole.{Hole}
use Rattle.word_region.specs.Holes.{Lies, Put, IsOutside, IsPlace, no_hole, hole_at}
use Rattle.word_region.proofs.Puts.{Goes, put_alone, put_before, put_behind, put_both, behind_fits, both_fits}
use Rattle.word_region.proofs.holes.add_hole.Goals as goal

-- the place that was found, in the holes themselves
goes_to : (xs seen : List Hole) (k base len end : ℕ) → seen ≡ xs → Lies 0 xs (end + 1) → 0 < len → base + len ≤ end → IsOutside xs base len → IsPlace base seen k
    → Goes xs k base len (end + 1)
goes_to xs seen k base len end same laid some within outside place =
    record { laid = laid; some = some; until = omega arith; outside = outside; place = subst (λ hs. IsPlace base hs k) same place }

ends : (xs seen : List Hole) (k base : ℕ) → seen ≡ xs → (0 < k) × ((hole_at seen (k - 1)).base + (hole_at seen (k - 1)).len ≡ base)
    → (0 < k) × ((hole_at xs (k - 1)).base + (hole_at xs (k - 1)).len ≡ base)
ends xs seen k base same h = subst (λ hs. (0 < k) × ((hole_at hs (k - 1)).base + (hole_at hs (k - 1)).len ≡ base)) same h

not_ends : (xs seen : List Hole) (k base : ℕ) → seen ≡ xs → (0 < k → (hole_at seen (k - 1)).base + (hole_at seen (k - 1)).len ≢ base)
    → 0 < k → (hole_at xs (k - 1)).base + (hole_at xs (k - 1)).len ≢ base
not_ends xs seen k base same h = subst (λ hs. 0 < k → (hole_at hs (k - 1)).base + (hole_at hs (k - 1)).len ≢ base) same h

begins : (xs seen : List Hole) (k place : ℕ) → seen ≡ xs → (k < length seen) × ((hole_at seen k).base ≡ place) → (k < length xs) × ((hole_at xs k).base ≡ place)
begins xs seen k place same h = subst (λ hs. (k < length hs) × ((hole_at hs k).base ≡ place)) same h

not_begins : (xs seen : List Hole) (k place : ℕ) → seen ≡ xs → (k < length seen → (hole_at seen k).base ≢ place) → k < length xs → (hole_at xs k).base ≢ place
not_begins xs seen k place same h = subst (λ hs. k < length hs → (hole_at hs k).base ≢ place) same h

pub overflow_add-len : goal.overflow_add-len
overflow_add-len c =
    let goes = goes_to c.args.holes.now.items c.as_slice.result.now c.place_of-k.result c.args.base c.args.len c.args.end c.as_slice.ensures.value c.requires.laid c.requires.some c.requires.within c.requires.outside c.place_of-k.ensures in
    let before = (ends c.args.holes.now.items c.as_slice-2.result.now c.place_of-k.result c.args.base c.as_slice-2.ensures.value ((c.in-true-true.ensures).yes refl)) in
    let behind = (begins c.args.holes.now.items c.as_slice-3.result.now c.place_of-k.result (c.args.base + c.args.len) c.as_slice-3.ensures.value ((c.in-true-true.ensures').yes refl)) in
    let is = get_or_read _ c.place_of-k.result _ behind.0 c.remove-next.ensures.value no_hole in
    let len : c.remove-next.result.len ≡ (hole_at c.args.holes.now.items c.place_of-k.result).len = ap (λ (h : Hole). h.len) is in
    let fits = behind_fits c.args.holes.now.items c.place_of-k.result c.args.base c.args.len (c.args.end + 1) goes behind.0 behind.1 in
    omega (arith, len, fits, c.ranges.end)

pub lengthen-requires-clause-fits : goal.lengthen-requires-clause-fits
lengthen-requires-clause-fits c =
    let goes = goes_to c.args.holes.now.items c.as_slice.result.now c.place_of-k.result c.args.base c.args.len c.args.end c.as_slice.ensures.value c.requires.laid c.requires.some c.requires.within c.requires.outside c.place_of-k.ensures in
    let before = (ends c.args.holes.now.items c.as_slice-2.result.now c.place_of-k.result c.args.base c.as_slice-2.ensures.value ((c.in-true-true.ensures).yes refl)) in
    let behind = (begins c.args.holes.now.items c.as_slice-3.result.now c.place_of-k.result (c.args.base + c.args.len) c.as_slice-3.ensures.value ((c.in-true-true.ensures').yes refl)) in
    let is = get_or_read _ c.place_of-k.result _ behind.0 c.remove-next.ensures.value no_hole in
    let len : c.remove-next.result.len ≡ (hole_at c.args.holes.now.items c.place_of-k.result).len = ap (λ (h : Hole). h.len) is in
    let fits = both_fits c.args.holes.now.items c.place_of-k.result c.args.base c.args.len (c.args.end + 1) goes before.0 before.1 behind.0 behind.1 in
    let same : hole_at c.remove-next.new.self.items (c.place_of-k.result - 1) ≡ hole_at (remove c.args.holes.now.items c.place_of-k.result) (c.place_of-k.result - 1) = ap (λ hs. hole_at hs (c.place_of-k.result - 1)) c.remove-next.ensures.items in
    let kept : (hole_at c.remove-next.new.self.items (c.place_of-k.result - 1)).len ≡ (hole_at (remove c.args.holes.now.items c.place_of-k.result) (c.place_of-k.result - 1)).len = ap (λ (h : Hole). h.len) same in
    omega (arith, len, kept, fits, c.ranges.end)

pub overflow_add-len-in-false-true : goal.overflow_add-len-in-false-true
overflow_add-len-in-false-true c =
    let goes = goes_to c.args.holes.now.items c.as_slice.result.now c.place_of-k.result c.args.base c.args.len c.args.end c.as_slice.ensures.value c.requires.laid c.requires.some c.requires.within c.requires.outside c.place_of-k.ensures in
    let before = (not_ends c.args.holes.now.items c.as_slice-2.result.now c.place_of-k.result c.args.base c.as_slice-2.ensures.value ((c.in-false-true.ensures).no refl)) in
    let behind = (begins c.args.holes.now.items c.as_slice-3.result.now c.place_of-k.result (c.args.base + c.args.len) c.as_slice-3.ensures.value ((c.in-false-true.ensures').yes refl)) in
    let is = get_or_read _ c.place_of-k.result _ behind.0 c.index.ensures no_hole in
    let len : c.index.result.now.len ≡ (hole_at c.args.holes.now.items c.place_of-k.result).len = ap (λ (h : Hole). h.len) is in
    let fits = behind_fits c.args.holes.now.items c.place_of-k.result c.args.base c.args.len (c.args.end + 1) goes behind.0 behind.1 in
    omega (arith, len, fits, c.ranges.end)

pub returns-in-true-true-clause-puts : goal.returns-in-true-true-clause-puts
returns-in-true-true-clause-puts c =
    let goes = goes_to c.args.holes.now.items c.as_slice.result.now c.place_of-k.result c.args.base c.args.len c.args.end c.as_slice.ensures.value c.requires.laid c.requires.some c.requires.within c.requires.outside c.place_of-k.ensures in
    let before = (ends c.args.holes.now.items c.as_slice-2.result.now c.place_of-k.result c.args.base c.as_slice-2.ensures.value ((c.in-true-true.ensures).yes refl)) in
    let behind = (begins c.args.holes.now.items c.as_slice-3.result.now c.place_of-k.result (c.args.base + c.args.len) c.as_slice-3.ensures.value ((c.in-true-true.ensures').yes refl)) in
    let is = get_or_read _ c.place_of-k.result _ behind.0 c.remove-next.ensures.value no_hole in
    let items : c.lengthen.new.holes.items ≡ set (remove c.args.holes.now.items c.place_of-k.result) (c.place_of-k.result - 1) (record { base = (hole_at (remove c.args.holes.now.items c.place_of-k.result) (c.place_of-k.result - 1)).base; len = (hole_at (remove c.args.holes.now.items c.place_of-k.result) (c.place_of-k.result - 1)).len + (c.args.len + (hole_at c.args.holes.now.items c.place_of-k.result).len) }) =
    c.lengthen.ensures.items
    ∙ (ap (λ (hs : List Hole). set hs (c.place_of-k.result - 1) (record { base = (hole_at hs (c.place_of-k.result - 1)).base; len = (hole_at hs (c.place_of-k.result - 1)).len + (c.args.len + c.remove-next.result.len) })) c.remove-next.ensures.items
    ∙ ap (λ (h : Hole). set (remove c.args.holes.now.items c.place_of-k.result) (c.place_of-k.result - 1) (record { base = (hole_at (remove c.args.holes.now.items c.place_of-k.result) (c.place_of-k.result - 1)).base; len = (hole_at (remove c.args.holes.now.items c.place_of-k.result) (c.place_of-k.result - 1)).len + (c.args.len + h.len) })) is) in
    subst (λ hs. Put c.args.holes.now.items hs c.args.base c.args.len (c.args.end + 1)) (sym items) (put_both c.args.holes.now.items c.place_of-k.result c.args.base c.args.len (c.args.end + 1) goes before.0 before.1 behind.0 behind.1)

pub returns-in-true-false-clause-puts : goal.returns-in-true-false-clause-puts
returns-in-true-false-clause-puts c =
    let goes = goes_to c.args.holes.now.items c.as_slice.result.now c.place_of-k.result c.args.base c.args.len c.args.end c.as_slice.ensures.value c.requires.laid c.requires.some c.requires.within c.requires.outside c.place_of-k.ensures in
    let before = (ends c.args.holes.now.items c.as_slice-2.result.now c.place_of-k.result c.args.base c.as_slice-2.ensures.value ((c.in-true-false.ensures).yes refl)) in
    let behind = (not_begins c.args.holes.now.items c.as_slice-3.result.now c.place_of-k.result (c.args.base + c.args.len) c.as_slice-3.ensures.value ((c.in-true-false.ensures').no refl)) in
    subst (λ hs. Put c.args.holes.now.items hs c.args.base c.args.len (c.args.end + 1)) (sym c.lengthen-in-true-false.ensures.items) (put_before c.args.holes.now.items c.place_of-k.result c.args.base c.args.len (c.args.end + 1) goes before.0 before.1 behind)

pub returns-in-false-true-clause-puts : goal.returns-in-false-true-clause-puts
returns-in-false-true-clause-puts c =
    let goes = goes_to c.args.holes.now.items c.as_slice.result.now c.place_of-k.result c.args.base c.args.len c.args.end c.as_slice.ensures.value c.requires.laid c.requires.some c.requires.within c.requires.outside c.place_of-k.ensures in
    let before = (not_ends c.args.holes.now.items c.as_slice-2.result.now c.place_of-k.result c.args.base c.as_slice-2.ensures.value ((c.in-false-true.ensures).no refl)) in
    let behind = (begins c.args.holes.now.items c.as_slice-3.result.now c.place_of-k.result (c.args.base + c.args.len) c.as_slice-3.ensures.value ((c.in-false-true.ensures').yes refl)) in
    let is = get_or_read _ c.place_of-k.result _ behind.0 c.index.ensures no_hole in
    subst (λ (h : Hole). Put c.args.holes.now.items (set c.args.holes.now.items c.place_of-k.result (record { base = c.args.base; len = c.args.len + h.len })) c.args.base c.args.len (c.args.end + 1)) (sym is) (put_behind c.args.holes.now.items c.place_of-k.result c.args.base c.args.len (c.args.end + 1) goes behind.0 behind.1 before)

pub returns-in-Ok-clause-puts : goal.returns-in-Ok-clause-puts
returns-in-Ok-clause-puts c =
    let goes = goes_to c.args.holes.now.items c.as_slice.result.now c.place_of-k.result c.args.base c.args.len c.args.end c.as_slice.ensures.value c.requires.laid c.requires.some c.requires.within c.requires.outside c.place_of-k.ensures in
    let before = (not_ends c.args.holes.now.items c.as_slice-2.result.now c.place_of-k.result c.args.base c.as_slice-2.ensures.value ((c.in-false-false.ensures).no refl)) in
    let behind = (not_begins c.args.holes.now.items c.as_slice-3.result.now c.place_of-k.result (c.args.base + c.args.len) c.as_slice-3.ensures.value ((c.in-false-false.ensures').no refl)) in
    subst (λ hs. Put c.args.holes.now.items hs c.args.base c.args.len (c.args.end + 1)) (sym c.in-Ok.ensures.items) (put_alone c.args.holes.now.items c.place_of-k.result c.args.base c.args.len (c.args.end + 1) goes before behind)
