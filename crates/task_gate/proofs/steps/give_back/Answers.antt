use Rattle.std.proofs.Common.{ℕ, arith, [], ◌∷◌, Some, true, refl, sym, ap, ◌∙◌, List}
use base.Stored.{Gv}
use Rattle.atomic_table.specs.Table.{rest, Me}
use Rattle.task_gate.specs.Rule.{at_stage, ticket_of, history_of, counted_view}
use Rattle.task_gate.specs.Passes.{number_of, left_of}
use Rattle.task_gate.specs.declared.views.Stage.TheVariants.{Inside, Outside}
use Rattle.task_gate.proofs.Claims.{rest_of, parted}
use Rattle.task_gate.proofs.Kept.{picks_up, counts, serves}
use Rattle.task_gate.proofs.steps.give_back.Goals as goal

pub load-requires : goal.load-requires
load-requires g c = (c.requires.fits.0, omega (arith, c.requires.fits.1.0), picks_up g.S.Traced.base g.S.Traced.history _ _ _ _ _ c.requires.inside.0)

pub fetch_add-requires : goal.fetch_add-requires
fetch_add-requires g c =
    let v = c.args.seat.now.me.0 in
    let t : ℕ = ticket_of v.stage in
    let h : List (ℕ × Gv) = history_of v.stage in
    let picked = c.load.ensures.2 t h c.requires.inside.0 in
    let now = c.exchange.ensures in
    let seat = now.3 ∙ ap (λ (m : Me _ _). (m.0, (0, Some c.args.state) ∷ rest m.1)) picked ∙ ap (λ cs. (at_stage v (Inside t h true), (0, Some c.args.state) ∷ cs)) c.requires.inside.1 in
    let view = ap (λ m. m.0) seat in (
      now.0 ∙ c.load.ensures.0 ∙ c.requires.fits.0,
      omega (arith, c.requires.fits.1.0),
      counts g.S.Traced.base g.S.Traced.history _ _ _ t c.args.more (number_of v.claims) (left_of v.claims) h (rest_of v.claims) c.args.state
          (ap (λ w. w.stage) view) (ap (λ m. m.1) seat) (ap (λ w. w.makes) view ∙ c.requires.inside.2.0) (ap (λ w. w.claims) view ∙ parted v.claims c.requires.inside.2.2) c.requires.adds,
    )

pub fetch_add-requires-2 : goal.fetch_add-requires-2
fetch_add-requires-2 g c =
    let v = c.args.seat.now.me.0 in
    let t : ℕ = ticket_of v.stage in
    let h : List (ℕ × Gv) = history_of v.stage in
    let x = c.args.state in
    let picked = c.load.ensures.2 t h c.requires.inside.0 in
    let now = c.exchange.ensures in
    let seat = now.3 ∙ ap (λ (m : Me _ _). (m.0, (0, Some x) ∷ rest m.1)) picked ∙ ap (λ cs. (at_stage v (Inside t h true), (0, Some x) ∷ cs)) c.requires.inside.1 in
    let counted = c.fetch_add.ensures.2 t h x (ap (λ m. m.0.stage) seat) (ap (λ m. m.1) seat) in
    let after = counted ∙ ap (λ (m : Me _ _). (counted_view m.0 t (g.S.Traced.history x), m.1)) seat in (
      c.fetch_add.ensures.0 ∙ (now.0 ∙ c.load.ensures.0 ∙ c.requires.fits.0),
      omega (arith, c.requires.fits.1.0),
      serves g.S.Traced.base g.S.Traced.history _ _ _ t (g.S.Traced.history x) x (ap (λ m. m.0.stage) after) (ap (λ m. m.1) after) refl (c.requires.based ∙ sym (ap (λ m. m.0.base) after)),
    )

pub returns-clause-seat : goal.returns-clause-seat
returns-clause-seat g c =
    let v = c.args.seat.now.me.0 in
    let t : ℕ = ticket_of v.stage in
    let h : List (ℕ × Gv) = history_of v.stage in
    let x = c.args.state in
    let picked = c.load.ensures.2 t h c.requires.inside.0 in
    let now = c.exchange.ensures in
    let seat = now.3 ∙ ap (λ (m : Me _ _). (m.0, (0, Some x) ∷ rest m.1)) picked ∙ ap (λ cs. (at_stage v (Inside t h true), (0, Some x) ∷ cs)) c.requires.inside.1 in
    let counted = c.fetch_add.ensures.2 t h x (ap (λ m. m.0.stage) seat) (ap (λ m. m.1) seat) in
    let after = counted ∙ ap (λ (m : Me _ _). (counted_view m.0 t (g.S.Traced.history x), m.1)) seat in
    c.fetch_add-2.ensures.2 ∙ ap (λ (m : Me _ _). (at_stage m.0 Outside, [])) after
