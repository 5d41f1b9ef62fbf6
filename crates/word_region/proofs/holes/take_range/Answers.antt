use Rattle.std.proofs.Common.{◌≡◌, ◌+◌, ◌<◌, ◌≤◌, length, subst, sym, ap, arith}
use Rattle.std.proofs.lemmas.List.{get_or_read}
use Rattle.word_region.specs.declared.holes.Hole.{Hole}
use Rattle.word_region.specs.Places.{IsFirstFit}
use Rattle.word_region.specs.Holes.{IsFirstWith, Lies, LeavesHoles, no_hole, hole_at, cells_of}
use Rattle.word_region.proofs.Fits.{first_fits}
use Rattle.word_region.proofs.Cells.{takes}
use Rattle.word_region.proofs.Edits.{within_until}
use Rattle.word_region.proofs.holes.take_range.Goals as goal

pub unset-requires : goal.unset-requires
unset-requires c =
    let found = subst (λ hs. IsFirstWith c.args.len hs c.in-Some.k) c.as_slice.ensures.value c.in-Some.ensures.found in
    let base = get_or_read _ c.in-Some.k _ found.there c.index.ensures no_hole in
    let until : (hole_at c.args.holes.now.items c.in-Some.k).base + (hole_at c.args.holes.now.items c.in-Some.k).len < length c.args.words.now.items + 1 = within_until c.args.holes.now.items c.in-Some.k 0 (length c.args.words.now.items + 1) found.there c.requires.laid in
    let fits = found.fits in
    subst (λ (h : Hole). h.base + c.args.len ≤ length c.args.words.now.items) (sym base) (omega arith)

pub returns-clause-first : goal.returns-clause-first
returns-clause-first c =
    let found = subst (λ hs. IsFirstWith c.args.len hs c.in-Some.k) c.as_slice.ensures.value c.in-Some.ensures.found in
    let base = get_or_read _ c.in-Some.k _ found.there c.index.ensures no_hole in
    let until : (hole_at c.args.holes.now.items c.in-Some.k).base + (hole_at c.args.holes.now.items c.in-Some.k).len < length c.args.words.now.items + 1 = within_until c.args.holes.now.items c.in-Some.k 0 (length c.args.words.now.items + 1) found.there c.requires.laid in
    subst (λ (h : Hole). IsFirstFit (cells_of c.args.words.now.items c.args.holes.now.items) c.args.len h.base) (sym base)
    (first_fits c.args.words.now.items c.args.holes.now.items c.in-Some.k c.args.len c.requires.laid c.requires.some found.there found.shorter found.fits)

pub returns-clause-takes : goal.returns-clause-takes
returns-clause-takes c =
    let found = subst (λ hs. IsFirstWith c.args.len hs c.in-Some.k) c.as_slice.ensures.value c.in-Some.ensures.found in
    let base = get_or_read _ c.in-Some.k _ found.there c.index.ensures no_hole in
    let until : (hole_at c.args.holes.now.items c.in-Some.k).base + (hole_at c.args.holes.now.items c.in-Some.k).len < length c.args.words.now.items + 1 = within_until c.args.holes.now.items c.in-Some.k 0 (length c.args.words.now.items + 1) found.there c.requires.laid in
    takes c.args.words.now.items c.unset.new.words.items c.args.holes.now.items c.shorten.new.holes.items c.index.result.now.base c.args.len
    (subst (λ (h : Hole). h.base ≤ length c.args.words.now.items) (sym base) (omega arith)) c.unset.ensures
    (subst (λ (h : Hole). LeavesHoles c.args.holes.now.items c.shorten.new.holes.items h.base c.args.len) (sym base) c.shorten.ensures.leaves)

pub returns-clause-laid : goal.returns-clause-laid
returns-clause-laid c =
    let found = subst (λ hs. IsFirstWith c.args.len hs c.in-Some.k) c.as_slice.ensures.value c.in-Some.ensures.found in
    let base = get_or_read _ c.in-Some.k _ found.there c.index.ensures no_hole in
    let until : (hole_at c.args.holes.now.items c.in-Some.k).base + (hole_at c.args.holes.now.items c.in-Some.k).len < length c.args.words.now.items + 1 = within_until c.args.holes.now.items c.in-Some.k 0 (length c.args.words.now.items + 1) found.there c.requires.laid in
    let fits = found.fits in
    let from : c.index.result.now.base ≡ (hole_at c.args.holes.now.items c.in-Some.k).base = ap (λ (h : Hole). h.base) base in
    let un = c.unset.ensures in
    let ok = c.args.words.now.ok in
    subst (λ n. Lies 0 c.shorten.new.holes.items (n + 1)) (let e : c.len-end.result ≡ length c.unset.new.words.items = omega (arith, un.end, c.len-end.ensures) in e) c.shorten.ensures.laid
