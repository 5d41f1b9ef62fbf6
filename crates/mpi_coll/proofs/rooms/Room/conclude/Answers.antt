use Rattle.std.proofs.Common.{◌≡◌, ◌<◌, length, Some, refl, ◌∙◌, sym, subst}
use Rattle.std.specs.Prelude.{slice_get}
use Rattle.std.proofs.lemmas.Option.{slice_get_read}
use Rattle.mpi_coll.specs.Rooms.{Tables}
use Rattle.mpi_coll.proofs.rooms.Room.conclude.Goals as goal

pub conclude-requires-clause-given : goal.conclude-requires-clause-given
conclude-requires-clause-given c =
    let t : Tables = record { made = c.self.inside.made.items; gone = c.self.inside.gone.items; full = c.self.inside.full; results = c.self.inside.results.items; waiting = c.self.inside.waiting.items } in
    let is : t ≡ c.args.self.now = c.self.view_is in
    let waits : 0 < length t.waiting = subst (λ (u : Tables). 0 < length u.waiting) (sym is) c.requires.waits in
    let there : slice_get t.waiting 0 ≡ Some c.index-gathering.result.now =
    slice_get_read t.waiting (length t.waiting) 0 c.index-gathering.result.now refl waits c.index-gathering.ensures in
    (c.self.invariant.1.gathered 0 c.index-gathering.result.now there).given ∙ sym c.self.invariant.0
