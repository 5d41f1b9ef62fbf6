use Rattle.std.proofs.Common.{sym}
use Rattle.heap_runs.proofs.Slots.{released, lands_keep}
use Rattle.heap_runs.proofs.ranges.Ranges.land.Goals as goal

pub invariant_of-self : goal.invariant_of-self
invariant_of-self c =
    let there = sym c.in-Some.ensures in
    record {
      held = released c.args.self.now.region c.land.new.region c.args.self.now.slots.items c.args.k c.in-Some.held c.args.self.now.held there
          (lands_keep c.args.self.now.region.cells c.land.new.region.cells c.in-Some.held.base c.in-Some-get.target.base c.in-Some.held.len c.land.ensures.lands
          (c.args.self.now.held.held c.args.k c.in-Some.held there)) c.land.ensures.ranges;
    }
