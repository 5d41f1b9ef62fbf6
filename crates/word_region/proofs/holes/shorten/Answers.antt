use Rattle.std.proofs.Common.{◌≡◌, ◌+◌, ◌-◌, set, subst, sym, ap, ◌∙◌, arith}
use Rattle.std.proofs.lemmas.List.{get_or_read}
use Rattle.word_region.specs.declared.holes.Hole.{Hole}
use Rattle.word_region.specs.Holes.{Lies, LeavesHoles, no_hole, hole_at}
use Rattle.word_region.proofs.Edits.{within_until, set_leaves, set_lies, remove_leaves, remove_lies}
use Rattle.word_region.proofs.holes.shorten.Goals as goal

pub overflow_add-hole : goal.overflow_add-hole
overflow_add-hole c =
    let is = get_or_read _ c.args.k _ c.requires.there c.index-hole.ensures no_hole in
    let until = within_until c.args.holes.now.items c.args.k 0 (c.args.end + 1) c.requires.there c.requires.laid in
    let fits = c.requires.fits in
    let base : c.index-hole.result.now.base ≡ (hole_at c.args.holes.now.items c.args.k).base = ap (λ (h : Hole). h.base) is in
    omega (arith, c.ranges.end)

pub returns-then-hole-len-clause-leaves : goal.returns-then-hole-len-clause-leaves
returns-then-hole-len-clause-leaves c =
    let is = get_or_read _ c.args.k _ c.requires.there c.index-hole.ensures no_hole in
    let e : (hole_at c.args.holes.now.items c.args.k).len ≡ c.args.len = ap (λ (h : Hole). h.len) (sym is) ∙ c.if-hole-len.true in
    subst (λ n. LeavesHoles c.args.holes.now.items c.remove.new.self.items (hole_at c.args.holes.now.items c.args.k).base n) e
    (subst (λ hs. LeavesHoles c.args.holes.now.items hs (hole_at c.args.holes.now.items c.args.k).base (hole_at c.args.holes.now.items c.args.k).len) (sym c.remove.ensures.items)
    (remove_leaves c.args.holes.now.items c.args.k 0 (c.args.end + 1) c.requires.there c.requires.laid))

pub returns-then-hole-len-clause-laid : goal.returns-then-hole-len-clause-laid
returns-then-hole-len-clause-laid c =
    subst (λ hs. Lies 0 hs (c.args.end + 1)) (sym c.remove.ensures.items)
    (remove_lies c.args.holes.now.items c.args.k 0 (c.args.end + 1) c.requires.there c.requires.laid)

pub returns-else-hole-len-clause-leaves : goal.returns-else-hole-len-clause-leaves
returns-else-hole-len-clause-leaves c =
    let is = get_or_read _ c.args.k _ c.requires.there c.index-hole.ensures no_hole in
    subst (λ (h : Hole). LeavesHoles c.args.holes.now.items (set c.args.holes.now.items c.args.k (record { base = h.base + c.args.len; len = h.len - c.args.len })) (hole_at c.args.holes.now.items c.args.k).base c.args.len) (sym is)
    (set_leaves c.args.holes.now.items c.args.k 0 (c.args.end + 1) c.requires.there c.requires.laid c.args.len c.requires.fits)

pub returns-else-hole-len-clause-laid : goal.returns-else-hole-len-clause-laid
returns-else-hole-len-clause-laid c =
    let is = get_or_read _ c.args.k _ c.requires.there c.index-hole.ensures no_hole in
    let differ = c.if-hole-len.false in
    let fits = c.requires.fits in
    subst (λ (h : Hole). Lies 0 (set c.args.holes.now.items c.args.k (record { base = h.base + c.args.len; len = h.len - c.args.len })) (c.args.end + 1)) (sym is)
    (set_lies c.args.holes.now.items c.args.k 0 (c.args.end + 1) c.requires.there c.requires.laid c.args.len
    (let len : c.index-hole.result.now.len ≡ (hole_at c.args.holes.now.items c.args.k).len = ap (λ (h : Hole). h.len) is in omega arith))
