use Rattle.std.proofs.Common.{◌+◌, ◌-◌, ◌<◌, arith}
use Rattle.word_region.specs.Holes.{hole_at}
use Rattle.word_region.proofs.Edits.{within_until}
use Rattle.word_region.proofs.holes.ends_at.Goals as goal

pub overflow_add-result : goal.overflow_add-result
overflow_add-result c =
    let some = c.if-k-gt0.true in
    let within = c.requires.within in
    let until : (hole_at c.args.holes.now (c.args.k - 1)).base + (hole_at c.args.holes.now (c.args.k - 1)).len < c.args.end + 1 =
    within_until c.args.holes.now (c.args.k - 1) 0 (c.args.end + 1) (omega arith) c.requires.laid in
    omega (arith, until, c.ranges.end)
