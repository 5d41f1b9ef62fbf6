use Rattle.std.proofs.Common.{◌≡◌, ◌<◌, true, length, ◌+◌, ◌∙◌, sym, subst}
use Rattle.std.proofs.lemmas.List.{length-set}
use Rattle.mpi_coll.specs.Rooms.{Tables, is_last}
use Rattle.mpi_coll.proofs.Fields.{fill_whole}
use Rattle.mpi_coll.proofs.rooms.Room.fill.Goals as goal

pub invariant_of-self : goal.invariant_of-self
invariant_of-self c =
    let t : Tables = record { made = c.self.inside.made.items; gone = c.self.inside.gone.items; full = c.self.inside.full; results = c.self.inside.results.items; waiting = c.self.inside.waiting.items } in
    let is : t ≡ c.args.self.now = c.self.view_is in
    let within : c.args.rank < length t.made = subst (λ (u : Tables). c.args.rank < length u.made) (sym is) c.requires.member in
    let last : is_last t c.args.rank ≡ true = subst (λ (u : Tables). is_last u c.args.rank ≡ true) (sym is) c.requires.last in
    let each : length c.args.results.items ≡ length t.made = subst (λ (u : Tables). length c.args.results.items ≡ length u.made) (sym is) c.requires.each in (
      c.self.invariant.0 ∙ sym (length-set c.self.inside.made.items c.args.rank (c.index_mut.result.now + 1)),
      fill_whole t c.self.invariant.1 c.args.rank c.index_mut.result.now within c.index_mut.ensures.value c.args.results.items c.remove.new.self.items c.remove.ensures.items last each,
    )
