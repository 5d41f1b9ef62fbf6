use Rattle.std.proofs.Common.{sym}
use Rattle.heap_runs.proofs.Slots.{released, releases_keep}
use Rattle.heap_runs.proofs.ranges.Ranges.discard.Goals as goal

pub invariant_of-self : goal.invariant_of-self
invariant_of-self c = record {
  held = released c.args.self.now.region c.discard.new.region c.args.self.now.slots.items c.args.k c.in-Some.held c.args.self.now.held (sym c.in-Some.ensures)
      (releases_keep c.args.self.now.region.cells c.discard.new.region.cells c.in-Some.held.base c.in-Some.held.len c.discard.ensures.releases) c.discard.ensures.ranges;
}
