use Rattle.std.proofs.Common.{arith, ap, ◌∙◌}
use Rattle.task_gate.proofs.Kept.{looks}
use Rattle.task_gate.proofs.steps.wait_turn.Goals as goal

pub load-served-requires : goal.load-served-requires
load-served-requires g c =
    let i = c.loop.invariant in
    (i.0 ∙ c.requires.fits.0, omega (arith, c.requires.fits.1.0), looks g.S.Traced.base g.S.Traced.history _ _ _ _ (ap (λ m. m.0.stage) i.2 ∙ c.requires.ready.1))
