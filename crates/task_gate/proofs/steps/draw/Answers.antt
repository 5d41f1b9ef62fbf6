use Rattle.std.proofs.Common.{arith}
use Rattle.task_gate.proofs.Kept.{draws}
use Rattle.task_gate.proofs.steps.draw.Goals as goal

pub fetch_add-requires : goal.fetch_add-requires
fetch_add-requires g c = (c.requires.fits.0, omega (arith, c.requires.fits.1.0), draws g.S.Traced.base g.S.Traced.history _ _ _ c.requires.ready.1 c.requires.ready.2)
