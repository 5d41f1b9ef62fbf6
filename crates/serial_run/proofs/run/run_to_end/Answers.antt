use Rattle.std.proofs.Common.{◌≤◌, length, arith}
use Rattle.serial_run.proofs.Turning.{too_many}
use Rattle.serial_run.proofs.run.run_to_end.Goals as goal

pub unreachable-requires : goal.unreachable-requires
unreachable-requires c =
    let many : 250001 ≤ length c.loop-round.node.entries = omega (arith, c.loop-round-test.false, c.loop-round.invariant.1) in
    too_many c.loop-round.task c.loop-round.node c.loop-round.invariant.0 c.is_of_a_run.ensures.entries many
