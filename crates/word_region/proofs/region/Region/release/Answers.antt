use Rattle.std.proofs.Common.{◌≡◌, ◌+◌, ◌<◌, length, subst, sym, arith}
use Rattle.word_region.specs.Places.{Places, IsHeld, Releases}
use Rattle.word_region.specs.Holes.{cells_of, Lies}
use Rattle.word_region.proofs.Cells.{length-cells, held_outside, held_within, releases}
use Rattle.word_region.proofs.Counts.{held_less}
use Rattle.word_region.proofs.region.Region.release.Goals as goal

pub add_hole-requires-clause-within : goal.add_hole-requires-clause-within
add_hole-requires-clause-within c =
    let held : IsHeld (cells_of c.self.inside.words.items c.self.inside.holes.items) c.args.base c.args.len = subst (λ (v : Places). IsHeld v.cells c.args.base c.args.len) (sym c.self.view_is) c.requires.held in
    let within = held_within c.self.inside.words.items c.self.inside.holes.items c.args.base c.args.len c.requires.some held in
    let ok = c.self.inside.words.ok in
    omega (arith, within, ok.0, c.len-end.ensures)

pub add_hole-requires-clause-outside : goal.add_hole-requires-clause-outside
add_hole-requires-clause-outside c =
    let held : IsHeld (cells_of c.self.inside.words.items c.self.inside.holes.items) c.args.base c.args.len = subst (λ (v : Places). IsHeld v.cells c.args.base c.args.len) (sym c.self.view_is) c.requires.held in
    let within = held_within c.self.inside.words.items c.self.inside.holes.items c.args.base c.args.len c.requires.some held in
    let ok = c.self.inside.words.ok in
    λ p from until. (held_outside c.self.inside.words.items c.self.inside.holes.items p (held p from until)).1

pub overflow_sub-self-2 : goal.overflow_sub-self-2
overflow_sub-self-2 c =
    let held : IsHeld (cells_of c.self.inside.words.items c.self.inside.holes.items) c.args.base c.args.len = subst (λ (v : Places). IsHeld v.cells c.args.base c.args.len) (sym c.self.view_is) c.requires.held in
    let within = held_within c.self.inside.words.items c.self.inside.holes.items c.args.base c.args.len c.requires.some held in
    let ok = c.self.inside.words.ok in
    let less = held_less (cells_of c.self.inside.words.items c.self.inside.holes.items) (cells_of c.self.inside.words.items c.add_hole.new.holes.items) c.args.base c.args.len
    (let n = length-cells c.self.inside.holes.items 0 c.self.inside.words.items in omega (arith, within, n)) (releases c.self.inside.words.items c.self.inside.holes.items c.add_hole.new.holes.items c.args.base c.args.len c.add_hole.ensures.puts.joins) held in
    omega (arith, less, c.self.invariant.held)

pub invariant_of-self : goal.invariant_of-self
invariant_of-self c =
    let held : IsHeld (cells_of c.self.inside.words.items c.self.inside.holes.items) c.args.base c.args.len = subst (λ (v : Places). IsHeld v.cells c.args.base c.args.len) (sym c.self.view_is) c.requires.held in
    let within = held_within c.self.inside.words.items c.self.inside.holes.items c.args.base c.args.len c.requires.some held in
    let ok = c.self.inside.words.ok in
    let less = held_less (cells_of c.self.inside.words.items c.self.inside.holes.items) (cells_of c.self.inside.words.items c.add_hole.new.holes.items) c.args.base c.args.len
    (let n = length-cells c.self.inside.holes.items 0 c.self.inside.words.items in omega (arith, within, n)) (releases c.self.inside.words.items c.self.inside.holes.items c.add_hole.new.holes.items c.args.base c.args.len c.add_hole.ensures.puts.joins) held in
    record {
      laid = subst (λ n. Lies 0 c.add_hole.new.holes.items (n + 1)) (let e : c.len-end.result ≡ length c.self.inside.words.items = omega (arith, ok.0, c.len-end.ensures) in e) c.add_hole.ensures.puts.laid;
      held = omega (arith, less, c.self.invariant.held);
      room = let taken : 0 < c.self.inside.ranges = subst (λ (v : Places). 0 < v.ranges) (sym c.self.view_is) c.requires.taken in
          let room = c.self.invariant.room in omega (arith, c.add_hole.ensures.count, c.add_hole.ensures.capacity);
    }

pub returns-clause-releases : goal.returns-clause-releases
returns-clause-releases c =
    subst (λ (v : Places). Releases v.cells (cells_of c.self.inside.words.items c.add_hole.new.holes.items) c.args.base c.args.len) c.self.view_is
    (releases c.self.inside.words.items c.self.inside.holes.items c.add_hole.new.holes.items c.args.base c.args.len c.add_hole.ensures.puts.joins)
