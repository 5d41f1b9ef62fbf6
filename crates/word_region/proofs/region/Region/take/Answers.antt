use Rattle.std.proofs.Common.{◌≡◌, ap, arith}
use Rattle.word_region.specs.Places.{held_of}
use Rattle.word_region.specs.Holes.{cells_of}
use Rattle.word_region.proofs.Cells.{length-cells}
use Rattle.word_region.proofs.Counts.{held_more, held_at_most}
use Rattle.word_region.proofs.region.Region.take.Goals as goal

pub overflow_add-self : goal.overflow_add-self
overflow_add-self c =
    let more = held_more (cells_of c.self.inside.words.items c.reserve.new.self.items) (cells_of c.take_range.new.words.items c.take_range.new.holes.items) c.in_ok-base.base c.args.len c.in_ok-base.ensures.takes c.in_ok-base.ensures.first.free in
    let was : held_of (cells_of c.self.inside.words.items c.reserve.new.self.items) ≡ held_of (cells_of c.self.inside.words.items c.self.inside.holes.items) = ap (λ hs. held_of (cells_of c.self.inside.words.items hs)) c.reserve.ensures.items in
    let most = held_at_most (cells_of c.take_range.new.words.items c.take_range.new.holes.items) in
    let count = length-cells c.take_range.new.holes.items 0 c.take_range.new.words.items in
    let ok = c.take_range.new.words.ok in
    omega (arith, more, was, most, count, ok.0, c.self.invariant.held, c.take_range.new.words.small)

pub invariant_of-self-2 : goal.invariant_of-self-2
invariant_of-self-2 c =
    let more = held_more (cells_of c.self.inside.words.items c.reserve.new.self.items) (cells_of c.take_range.new.words.items c.take_range.new.holes.items) c.in_ok-base.base c.args.len c.in_ok-base.ensures.takes c.in_ok-base.ensures.first.free in
    let was : held_of (cells_of c.self.inside.words.items c.reserve.new.self.items) ≡ held_of (cells_of c.self.inside.words.items c.self.inside.holes.items) = ap (λ hs. held_of (cells_of c.self.inside.words.items hs)) c.reserve.ensures.items in
    let most = held_at_most (cells_of c.take_range.new.words.items c.take_range.new.holes.items) in
    let count = length-cells c.take_range.new.holes.items 0 c.take_range.new.words.items in
    let ok = c.take_range.new.words.ok in
    record {
      laid = c.in_ok-base.ensures.laid;
      held = omega (arith, more, was, c.self.invariant.held);
      room = let r = c.in_ok-reserve.ensures.ok in let l = c.reserve.new.self.ok in omega (arith, r, l.0, c.in_ok-base.ensures.count, c.in_ok-base.ensures.capacity);
    }
