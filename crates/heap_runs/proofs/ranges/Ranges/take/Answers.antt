use Rattle.std.proofs.Common.{arith}
use Rattle.heap_runs.proofs.Slots.{taken, takes_here, takes_keep}
use Rattle.heap_runs.proofs.ranges.Ranges.take.Goals as goal

pub invariant_of-self-2 : goal.invariant_of-self-2
invariant_of-self-2 c = record {
  held = taken c.args.self.now.region c.take.new.self c.args.self.now.slots.items c.args.k (record { base = c.in_ok-base.base; len = c.args.len }) c.args.self.now.held
      (c.is_vacant.ensures (grind arith)) (grind arith) c.in_ok-base.ensures.first.free
      (takes_here c.args.self.now.region.cells c.take.new.self.cells c.in_ok-base.base c.args.len c.in_ok-base.ensures.takes)
      (takes_keep c.args.self.now.region.cells c.take.new.self.cells c.in_ok-base.base c.args.len c.in_ok-base.ensures.takes) c.in_ok-base.ensures.ranges;
}
