use Rattle.std.proofs.Common.{◌≡◌, ◌<◌, ◌-◌, Some, None, length, ◌∙◌, sym, subst, ap}
use Rattle.std.specs.Prelude.{slice_get}
use Rattle.mpi_coll.specs.Rooms.{Tables, differs_in}
use Rattle.mpi_coll.proofs.Fields.{differs_read}
use Rattle.mpi_coll.proofs.rooms.Room.differs_next.Goals as goal

pub returns-in-Some : goal.returns-in-Some
returns-in-Some c =
    let t : Tables = record { made = c.self.inside.made.items; gone = c.self.inside.gone.items; full = c.self.inside.full; results = c.self.inside.results.items; waiting = c.self.inside.waiting.items } in
    let is : t ≡ c.args.self.now = c.self.view_is in
    let within : c.args.rank < length t.made = subst (λ (u : Tables). c.args.rank < length u.made) (sym is) c.requires in
    c.is_other.ensures
    ∙ (differs_read t c.self.invariant.1 c.args.rank c.index.result.now within c.index.ensures c.args.coll.now (Some c.in-Some.gathering.now)
    (c.in-Some.ensures ∙ ap (λ ws. slice_get ws (c.index.result.now - c.self.inside.full)) c.as_slice.ensures.value)
    ∙ ap (λ (u : Tables). differs_in u c.args.rank c.args.coll.now) is)

pub returns-in-None : goal.returns-in-None
returns-in-None c =
    let t : Tables = record { made = c.self.inside.made.items; gone = c.self.inside.gone.items; full = c.self.inside.full; results = c.self.inside.results.items; waiting = c.self.inside.waiting.items } in
    let is : t ≡ c.args.self.now = c.self.view_is in
    let within : c.args.rank < length t.made = subst (λ (u : Tables). c.args.rank < length u.made) (sym is) c.requires in
    differs_read t c.self.invariant.1 c.args.rank c.index.result.now within c.index.ensures c.args.coll.now None
    (c.in-None.ensures ∙ ap (λ ws. slice_get ws (c.index.result.now - c.self.inside.full)) c.as_slice.ensures.value)
    ∙ ap (λ (u : Tables). differs_in u c.args.rank c.args.coll.now) is
