use Rattle.std.proofs.Common.{arith, ◌∷◌, Some, None, sym, ap, ◌∙◌}
use Rattle.atomic_table.specs.Table.{rest}
use Rattle.task_gate.proofs.Kept.{sets_down}
use Rattle.task_gate.proofs.steps.take_out.Goals as goal

pub exchange-requires : goal.exchange-requires
exchange-requires g c =
    let x = c.requires.inside.1.0 in
    let e = c.requires.inside.1.1 in
    (c.requires.fits.0, (Some x, e ∙ ap (λ cs. (0, Some x) ∷ cs) (sym (ap rest e))))

pub load-requires : goal.load-requires
load-requires g c =
    let x = c.requires.inside.1.0 in
    let e = c.requires.inside.1.1 in
    let now = c.exchange.ensures in (
      now.0 ∙ c.requires.fits.0,
      omega (arith, c.requires.fits.1.0),
      sets_down g.S.Traced.base g.S.Traced.history _ _ _ _ _ (ap (λ m. m.0.stage) now.3 ∙ c.requires.inside.0) (ap (λ m. m.1) now.3 ∙ ap (λ cs. (0, None) ∷ cs) (ap rest e)),
    )
