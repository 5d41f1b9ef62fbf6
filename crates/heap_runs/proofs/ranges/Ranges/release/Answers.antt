use Rattle.std.proofs.Common.{sym}
use Rattle.heap_runs.proofs.Slots.{released, releases_keep}
use Rattle.heap_runs.proofs.ranges.Ranges.release.Goals as goal

pub invariant_of-self : goal.invariant_of-self
invariant_of-self c = record {
  held = released c.args.self.now.region c.release.new.self c.args.self.now.slots.items c.args.k c.in-Some.range c.args.self.now.held (sym c.in-Some.ensures)
      (releases_keep c.args.self.now.region.cells c.release.new.self.cells c.in-Some.range.base c.in-Some.range.len c.release.ensures.releases) c.release.ensures.ranges;
}
