use Rattle.std.proofs.Common.{◌++◌, arith, ap, ◌∙◌}
use Rattle.task_gate.specs.Passes.{pass_view, number_of, left_of, view_or}
use Rattle.task_gate.proofs.Claims.{parted, rest_of}
use Rattle.task_gate.proofs.Kept.{joins}
use Rattle.task_gate.proofs.passes.Pass.absorb.Goals as goal

pub join_seat-requires : goal.join_seat-requires
join_seat-requires g c =
    let one = c.take_seat-seat.ensures in
    let two = c.take_seat-other.ensures in
    let v = pass_view c.args.self.now in
    let a = ap (λ m. m.0) one.1 in
    let b = ap (λ m. m.0) two.1 in (
      one.0 ∙ c.requires.fits.0,
      two.0 ∙ c.requires.fits.1,
      ap (λ m. m.1) two.1,
      omega (arith, c.requires.fits.2.0),
      joins g.S.Traced.base g.S.Traced.history _ _ _ _ (number_of v.claims) (left_of v.claims) (rest_of v.claims)
          (ap (λ w. w.stage) a ∙ c.requires.outside.0.2) (ap (λ w. w.stage) b ∙ c.requires.outside.1.2) (ap (λ w. w.makes) a ∙ c.requires.outside.0.1.0) (ap (λ w. w.makes) b ∙ c.requires.outside.1.1.0)
          (ap (λ w. w.claims) a ∙ parted v.claims c.requires.outside.0.1.2) (omega (arith, ap (λ w. w.parts) a, c.requires.outside.0.1.1)),
    )

pub returns-clause-claims : goal.returns-clause-claims
returns-clause-claims g c =
    let a = ap (λ m. m.0) c.take_seat-seat.ensures.1 in
    let b = ap (λ m. m.0) c.take_seat-other.ensures.1 in
    ap (λ vs. (view_or vs).claims) c.into_badge.ensures.2 ∙ ap (λ m. m.0.claims) c.join_seat.ensures.2 ∙ (λ i. (a i).claims ++ (b i).claims)
