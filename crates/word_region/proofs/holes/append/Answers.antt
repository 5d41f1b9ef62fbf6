use Rattle.std.proofs.Common.{◌≡◌, ◌≢◌, ℕ, ◌+◌, ◌-◌, ◌<◌, ◌≤◌, List, length, take, subst, sym, refl, ◌∙◌, arith}
use Rattle.std.proofs.lemmas.List.{get_or_read}
use Rattle.mpc_values.specs.declared.values.Word.{Word}
use Rattle.word_region.specs.declared.holes.Hole.{Hole}
use Rattle.word_region.specs.Places.{IsFirstFit, Takes}
use Rattle.word_region.specs.Holes.{AreLaid, LeavesHoles, no_hole, hole_at, cells_of}
use Rattle.word_region.proofs.Fits.{end_fits, end_leaves, end_lies, past_fits, past_leaves, past_lies}
use Rattle.word_region.proofs.Cells.{takes}
use Rattle.word_region.proofs.Edits.{within_until}
use Rattle.word_region.proofs.holes.append.Goals as goal

-- the last hole reaches the end
record AtEnd (words : List Word) (holes : List Hole) (k : ℕ) : Type 0 where
  there : k < length holes
  end : (hole_at holes k).base + (hole_at holes k).len ≡ length words
  last : length holes ≡ k + 1

at_end : (words : List Word) (holes seen : List Hole) (count end : ℕ) → seen ≡ holes → length holes ≡ count → length words ≡ end
    → (0 < count) × ((hole_at seen (count - 1)).base + (hole_at seen (count - 1)).len ≡ end) → AtEnd words holes (count - 1)
at_end words holes seen count end same count_is end_is found =
    record { there = omega (arith, found.0); end = subst (λ hs. (hole_at hs (count - 1)).base + (hole_at hs (count - 1)).len ≡ length words) same (found.1 ∙ sym end_is); last = omega (arith, found.0) }

not_at_end : (words : List Word) (holes seen : List Hole) (count end : ℕ) → seen ≡ holes → length holes ≡ count → length words ≡ end
    → (0 < count → (hole_at seen (count - 1)).base + (hole_at seen (count - 1)).len ≢ end) → 0 < length holes → (hole_at holes (length holes - 1)).base + (hole_at holes (length holes - 1)).len ≢ length words
not_at_end words holes seen count end same count_is end_is apart some e =
    apart (omega arith) (subst (λ n. (hole_at seen (n - 1)).base + (hole_at seen (n - 1)).len ≡ end) count_is
    (subst (λ hs. (hole_at hs (length holes - 1)).base + (hole_at hs (length holes - 1)).len ≡ end) (sym same) (e ∙ end_is)))

pub returns-in_ok-grow-clause-first : goal.returns-in_ok-grow-clause-first
returns-in_ok-grow-clause-first c =
    let words : length c.args.words.now.items ≡ c.len-end.result = let ok = c.args.words.now.ok in omega (arith, ok.0, c.len-end.ensures) in
    let holes : length c.args.holes.now.items ≡ c.len-count.result = let ok = c.args.holes.now.ok in omega (arith, ok.0, c.len-count.ensures) in
    let at = at_end c.args.words.now.items c.args.holes.now.items c.as_slice.result.now c.len-count.result c.len-end.result c.as_slice.ensures.value holes words (c.if-ends_at.ensures.yes refl) in
    let base = get_or_read _ (c.len-count.result - 1) _ at.there c.index.ensures no_hole in
    let short : (hole_at c.args.holes.now.items (c.len-count.result - 1)).len < c.args.len = c.requires.none (c.len-count.result - 1) at.there in
    subst (λ (h : Hole). IsFirstFit (cells_of c.args.words.now.items c.args.holes.now.items) c.args.len h.base) (sym base) (end_fits c.args.words.now.items c.args.holes.now.items (c.len-count.result - 1) c.args.len c.requires.laid c.requires.some at.there (λ j before. c.requires.none j (let t = at.there in omega arith)) short at.end at.last)

pub returns-in_ok-grow-clause-takes : goal.returns-in_ok-grow-clause-takes
returns-in_ok-grow-clause-takes c =
    let words : length c.args.words.now.items ≡ c.len-end.result = let ok = c.args.words.now.ok in omega (arith, ok.0, c.len-end.ensures) in
    let holes : length c.args.holes.now.items ≡ c.len-count.result = let ok = c.args.holes.now.ok in omega (arith, ok.0, c.len-count.ensures) in
    let at = at_end c.args.words.now.items c.args.holes.now.items c.as_slice.result.now c.len-count.result c.len-end.result c.as_slice.ensures.value holes words (c.if-ends_at.ensures.yes refl) in
    let base = get_or_read _ (c.len-count.result - 1) _ at.there c.index.ensures no_hole in
    let short : (hole_at c.args.holes.now.items (c.len-count.result - 1)).len < c.args.len = c.requires.none (c.len-count.result - 1) at.there in
    let until : (hole_at c.args.holes.now.items (c.len-count.result - 1)).base + (hole_at c.args.holes.now.items (c.len-count.result - 1)).len < length c.args.words.now.items + 1 = within_until c.args.holes.now.items (c.len-count.result - 1) 0 (length c.args.words.now.items + 1) at.there c.requires.laid in
    subst (λ hs. Takes (cells_of c.args.words.now.items c.args.holes.now.items) (cells_of c.grow.new.words.items hs) c.index.result.now.base c.args.len) (sym c.truncate.ensures.items)
    (takes c.args.words.now.items c.grow.new.words.items c.args.holes.now.items (take (c.len-count.result - 1) c.args.holes.now.items) c.index.result.now.base c.args.len
    (subst (λ (h : Hole). h.base ≤ length c.args.words.now.items) (sym base) (omega arith)) c.in_ok-grow.ensures.ok
    (subst (λ (h : Hole). LeavesHoles c.args.holes.now.items (take (c.len-count.result - 1) c.args.holes.now.items) h.base c.args.len) (sym base) (end_leaves c.args.words.now.items c.args.holes.now.items (c.len-count.result - 1) c.args.len c.requires.laid c.requires.some at.there (λ j before. c.requires.none j (let t = at.there in omega arith)) short at.end at.last)))

pub returns-in_ok-grow-clause-laid : goal.returns-in_ok-grow-clause-laid
returns-in_ok-grow-clause-laid c =
    let words : length c.args.words.now.items ≡ c.len-end.result = let ok = c.args.words.now.ok in omega (arith, ok.0, c.len-end.ensures) in
    let holes : length c.args.holes.now.items ≡ c.len-count.result = let ok = c.args.holes.now.ok in omega (arith, ok.0, c.len-count.ensures) in
    let at = at_end c.args.words.now.items c.args.holes.now.items c.as_slice.result.now c.len-count.result c.len-end.result c.as_slice.ensures.value holes words (c.if-ends_at.ensures.yes refl) in
    let base = get_or_read _ (c.len-count.result - 1) _ at.there c.index.ensures no_hole in
    let short : (hole_at c.args.holes.now.items (c.len-count.result - 1)).len < c.args.len = c.requires.none (c.len-count.result - 1) at.there in
    let un = c.in_ok-grow.ensures.ok in
    subst (λ hs. AreLaid c.grow.new.words.items hs) (sym c.truncate.ensures.items)
    (end_lies c.args.words.now.items c.args.holes.now.items (c.len-count.result - 1) c.args.len c.requires.laid c.requires.some at.there (λ j before. c.requires.none j (let t = at.there in omega arith)) short at.end at.last (length c.grow.new.words.items + 1) (omega (arith, un.end)))

pub returns-in_ok-grow-2-clause-first : goal.returns-in_ok-grow-2-clause-first
returns-in_ok-grow-2-clause-first c =
    let words : length c.args.words.now.items ≡ c.len-end.result = let ok = c.args.words.now.ok in omega (arith, ok.0, c.len-end.ensures) in
    let holes : length c.args.holes.now.items ≡ c.len-count.result = let ok = c.args.holes.now.ok in omega (arith, ok.0, c.len-count.ensures) in
    let apart = not_at_end c.args.words.now.items c.args.holes.now.items c.as_slice.result.now c.len-count.result c.len-end.result c.as_slice.ensures.value holes words (c.if-ends_at.ensures.no refl) in
    subst (λ n. IsFirstFit (cells_of c.args.words.now.items c.args.holes.now.items) c.args.len n) words (past_fits c.args.words.now.items c.args.holes.now.items c.args.len c.requires.laid c.requires.some c.requires.none apart)

pub returns-in_ok-grow-2-clause-takes : goal.returns-in_ok-grow-2-clause-takes
returns-in_ok-grow-2-clause-takes c =
    let words : length c.args.words.now.items ≡ c.len-end.result = let ok = c.args.words.now.ok in omega (arith, ok.0, c.len-end.ensures) in
    let holes : length c.args.holes.now.items ≡ c.len-count.result = let ok = c.args.holes.now.ok in omega (arith, ok.0, c.len-count.ensures) in
    let apart = not_at_end c.args.words.now.items c.args.holes.now.items c.as_slice.result.now c.len-count.result c.len-end.result c.as_slice.ensures.value holes words (c.if-ends_at.ensures.no refl) in
    takes c.args.words.now.items c.grow-else-ends_at.new.words.items c.args.holes.now.items c.args.holes.now.items c.len-end.result c.args.len (omega arith) c.in_ok-grow-2.ensures.ok
    (subst (λ n. LeavesHoles c.args.holes.now.items c.args.holes.now.items n c.args.len) words (past_leaves c.args.words.now.items c.args.holes.now.items c.args.len c.requires.laid c.requires.some c.requires.none apart))

pub returns-in_ok-grow-2-clause-laid : goal.returns-in_ok-grow-2-clause-laid
returns-in_ok-grow-2-clause-laid c =
    let words : length c.args.words.now.items ≡ c.len-end.result = let ok = c.args.words.now.ok in omega (arith, ok.0, c.len-end.ensures) in
    let holes : length c.args.holes.now.items ≡ c.len-count.result = let ok = c.args.holes.now.ok in omega (arith, ok.0, c.len-count.ensures) in
    let apart = not_at_end c.args.words.now.items c.args.holes.now.items c.as_slice.result.now c.len-count.result c.len-end.result c.as_slice.ensures.value holes words (c.if-ends_at.ensures.no refl) in
    let un = c.in_ok-grow-2.ensures.ok in
    past_lies c.args.words.now.items c.args.holes.now.items c.args.len c.requires.laid c.requires.some c.requires.none apart (length c.grow-else-ends_at.new.words.items + 1) (omega (arith, un.end))
