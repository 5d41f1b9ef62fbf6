use Rattle.std.proofs.Common.{◌≡◌, ◌<◌, ◌+◌, false, length, ◌∙◌, sym, subst, ap, arith}
use Rattle.std.proofs.lemmas.List.{length-set}
use Rattle.mpi_coll.specs.Rooms.{Tables, place_of, is_last, entered}
use Rattle.mpi_coll.proofs.Fields.{come_fits, enter_is, enter_whole, waits_read}
use Rattle.mpi_coll.proofs.rooms.Room.enter.Goals as goal

pub come-requires : goal.come-requires
come-requires c =
    let t : Tables = record { made = c.self.inside.made.items; gone = c.self.inside.gone.items; full = c.self.inside.full; results = c.self.inside.results.items; waiting = c.self.inside.waiting.items } in
    let is : t ≡ c.args.self.now = c.self.view_is in
    let within : c.args.rank < length t.made = subst (λ (u : Tables). c.args.rank < length u.made) (sym is) c.requires.member in
    let waits : place_of t c.args.rank < length t.waiting = subst (λ (u : Tables). place_of u c.args.rank < length u.waiting) (sym is) c.requires.waits in
    let few = come_fits t c.self.invariant.1 c.args.rank c.index.result.now within c.index.ensures c.index_mut-gathering.result.now
    (waits_read t c.self.invariant.1 c.args.rank c.index.result.now within c.index.ensures waits) c.index_mut-gathering.ensures.value in
    omega (arith, few, c.self.invariant.0)

pub invariant_of-self : goal.invariant_of-self
invariant_of-self c =
    let t : Tables = record { made = c.self.inside.made.items; gone = c.self.inside.gone.items; full = c.self.inside.full; results = c.self.inside.results.items; waiting = c.self.inside.waiting.items } in
    let is : t ≡ c.args.self.now = c.self.view_is in
    let within : c.args.rank < length t.made = subst (λ (u : Tables). c.args.rank < length u.made) (sym is) c.requires.member in
    let waits : place_of t c.args.rank < length t.waiting = subst (λ (u : Tables). place_of u c.args.rank < length u.waiting) (sym is) c.requires.waits in
    let last : is_last t c.args.rank ≡ false = subst (λ (u : Tables). is_last u c.args.rank ≡ false) (sym is) c.requires.not_last in (
      c.self.invariant.0 ∙ sym (length-set c.self.inside.made.items c.args.rank (c.index_mut.result.now + 1)),
      enter_whole t c.self.invariant.1 c.args.rank c.index.result.now within c.index.ensures c.index_mut.result.now c.index_mut-gathering.result.now c.come.new.self c.index_mut.ensures.value
          (waits_read t c.self.invariant.1 c.args.rank c.index.result.now within c.index.ensures waits) c.index_mut-gathering.ensures.value c.come.ensures last,
    )

pub returns : goal.returns
returns c =
    let t : Tables = record { made = c.self.inside.made.items; gone = c.self.inside.gone.items; full = c.self.inside.full; results = c.self.inside.results.items; waiting = c.self.inside.waiting.items } in
    let is : t ≡ c.args.self.now = c.self.view_is in
    let within : c.args.rank < length t.made = subst (λ (u : Tables). c.args.rank < length u.made) (sym is) c.requires.member in
    let waits : place_of t c.args.rank < length t.waiting = subst (λ (u : Tables). place_of u c.args.rank < length u.waiting) (sym is) c.requires.waits in
    enter_is t c.self.invariant.1 c.args.rank c.index.result.now within c.index.ensures c.index_mut.result.now c.index_mut-gathering.result.now c.come.new.self c.index_mut.ensures.value
    (waits_read t c.self.invariant.1 c.args.rank c.index.result.now within c.index.ensures waits) c.index_mut-gathering.ensures.value c.come.ensures
    ∙ ap (λ (u : Tables). entered u c.args.rank) is
