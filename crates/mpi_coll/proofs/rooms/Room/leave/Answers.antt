use Rattle.std.proofs.Common.{◌≡◌, true, length, Some, ◌∙◌, sym, subst, ap, refl}
use Rattle.std.specs.Prelude.{slice_get}
use Rattle.std.proofs.lemmas.Option.{slice_get_read}
use Rattle.mpi_coll.specs.Rooms.{Tables, is_due}
use Rattle.mpi_coll.proofs.Fields.{leave_whole, leave_there}
use Rattle.mpi_coll.proofs.rooms.Room.leave.Goals as goal

pub invariant_of-self : goal.invariant_of-self
invariant_of-self c =
    let t : Tables = record { made = c.self.inside.made.items; gone = c.self.inside.gone.items; full = c.self.inside.full; results = c.self.inside.results.items; waiting = c.self.inside.waiting.items } in
    let is : t ≡ c.args.self.now = c.self.view_is in
    let due : is_due t c.args.rank ≡ true = subst (λ (u : Tables). is_due u c.args.rank ≡ true) (sym is) c.requires in
    let there = leave_there t c.self.invariant.1 c.args.rank due in (
      c.self.invariant.0,
      leave_whole t c.self.invariant.1 c.args.rank c.index.result.now there.0 c.index.ensures c.replace.new.dest (c.replace.ensures.after ∙ (c.of.ensures ∙ c.new.ensures.items)),
    )

pub returns-clause-gets : goal.returns-clause-gets
returns-clause-gets c =
    let t : Tables = record { made = c.self.inside.made.items; gone = c.self.inside.gone.items; full = c.self.inside.full; results = c.self.inside.results.items; waiting = c.self.inside.waiting.items } in
    let is : t ≡ c.args.self.now = c.self.view_is in
    let due : is_due t c.args.rank ≡ true = subst (λ (u : Tables). is_due u c.args.rank ≡ true) (sym is) c.requires in
    let there = leave_there t c.self.invariant.1 c.args.rank due in
    subst (λ (u : Tables). slice_get u.results c.args.rank ≡ Some c.replace.result) is
    (slice_get_read t.results (length t.results) c.args.rank c.index_mut-2.result.now refl there.1 c.index_mut-2.ensures.value ∙ ap (λ ws. Some ws) (sym c.replace.ensures.value))
