use Rattle.std.proofs.Common.{refl}
use Rattle.serial_node.proofs.Visits.{IsRun-start}
use Rattle.serial_node.proofs.node.Node.new.Goals as goal

pub invariant_of-result : goal.invariant_of-result
invariant_of-result c =
    rw c.new-2.ensures.items (IsRun-start c.args.setup c.in_ok-state.state (rw (c.in_ok-state.ensures.memory, c.in_ok-state.ensures.task, c.in_ok-state.ensures.count, c.in_ok-state.ensures.last, c.as_slice.ensures) refl))
