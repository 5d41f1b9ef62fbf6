use Rattle.std.proofs.Common.{◌≡◌, ◌<◌, subst, sym, arith}
use Rattle.word_region.specs.Places.{IsFree, IsHeld}
use Rattle.heap_runs.proofs.Slots.{taken, holds_here, holds_keep}
use Rattle.heap_runs.proofs.ranges.Ranges.hold.Goals as goal

pub invariant_of-self-2 : goal.invariant_of-self-2
invariant_of-self-2 c =
    let there = sym c.in-Some.ensures in
    let source = c.args.self.now.held.held c.args.from c.in-Some.source there in
    let some : 0 < c.in-Some.source.len = c.args.self.now.held.some c.args.from c.in-Some.source there in
    let same : c.in_ok-held.held.len ≡ c.in-Some.source.len = c.in_ok-held.ensures.len in
    record {
      held = taken c.args.self.now.region c.hold.new.region c.args.self.now.slots.items c.args.k c.in_ok-held.held c.args.self.now.held
          (c.is_vacant.ensures (grind arith)) (omega (arith, same, some))
          (subst (λ n. IsFree c.args.self.now.region.cells c.in_ok-held.held.base n) (sym same) c.in_ok-held.ensures.first.free)
          (subst (λ n. IsHeld c.hold.new.region.cells c.in_ok-held.held.base n) (sym same)
          (holds_here c.args.self.now.region.cells c.hold.new.region.cells c.in-Some.source.base c.in_ok-held.held.base c.in-Some.source.len c.in_ok-held.ensures.holds source))
          (holds_keep c.args.self.now.region.cells c.hold.new.region.cells c.in-Some.source.base c.in_ok-held.held.base c.in-Some.source.len c.in_ok-held.ensures.holds source)
          c.in_ok-held.ensures.ranges;
    }
