use Rattle.std.proofs.Common.{◌≡◌, ◌<◌, ◌-◌, length, ◌∙◌, sym, subst, ap, arith}
use Rattle.mpi_coll.specs.Rooms.{Tables, opened_at, with_place, prepared}
use Rattle.mpi_coll.proofs.Fields.{low_read, near_read, put_fits, prepare_is, prepare_whole}
use Rattle.mpi_coll.proofs.rooms.Room.prepare.Goals as goal

pub put-requires-clause-asked : goal.put-requires-clause-asked
put-requires-clause-asked c =
    let t : Tables = record { made = c.self.inside.made.items; gone = c.self.inside.gone.items; full = c.self.inside.full; results = c.self.inside.results.items; waiting = c.self.inside.waiting.items } in
    let is : t ≡ c.args.self.now = c.self.view_is in
    let within : c.args.rank < length t.made = subst (λ (u : Tables). c.args.rank < length u.made) (sym is) c.requires in
    let opened : c.open_place.new.waiting.items ≡ with_place t (c.index.result.now - t.full) c.args.coll.now =
    c.in_ok-open_place.ensures.opened ∙ ap (λ n. opened_at t.waiting (c.index.result.now - t.full) n c.args.coll.now) c.self.invariant.0 in
    let there : c.index.result.now - t.full < length c.open_place.new.waiting.items =
    c.in_ok-open_place.ensures.there (near_read t c.self.invariant.1 c.args.rank c.index.result.now within c.index.ensures) in
    let fits = put_fits t c.self.invariant.1 c.args.rank c.index.result.now within c.index.ensures c.args.coll.now c.open_place.new.waiting.items c.index_mut-gathering.result.now opened there c.index_mut-gathering.ensures.value in
    omega (arith, fits.0, within)

pub put-requires-clause-given : goal.put-requires-clause-given
put-requires-clause-given c =
    let t : Tables = record { made = c.self.inside.made.items; gone = c.self.inside.gone.items; full = c.self.inside.full; results = c.self.inside.results.items; waiting = c.self.inside.waiting.items } in
    let is : t ≡ c.args.self.now = c.self.view_is in
    let within : c.args.rank < length t.made = subst (λ (u : Tables). c.args.rank < length u.made) (sym is) c.requires in
    let opened : c.open_place.new.waiting.items ≡ with_place t (c.index.result.now - t.full) c.args.coll.now =
    c.in_ok-open_place.ensures.opened ∙ ap (λ n. opened_at t.waiting (c.index.result.now - t.full) n c.args.coll.now) c.self.invariant.0 in
    let there : c.index.result.now - t.full < length c.open_place.new.waiting.items =
    c.in_ok-open_place.ensures.there (near_read t c.self.invariant.1 c.args.rank c.index.result.now within c.index.ensures) in
    let fits = put_fits t c.self.invariant.1 c.args.rank c.index.result.now within c.index.ensures c.args.coll.now c.open_place.new.waiting.items c.index_mut-gathering.result.now opened there c.index_mut-gathering.ensures.value in
    omega (arith, fits.1, within)

pub invariant_of-self-2 : goal.invariant_of-self-2
invariant_of-self-2 c =
    let t : Tables = record { made = c.self.inside.made.items; gone = c.self.inside.gone.items; full = c.self.inside.full; results = c.self.inside.results.items; waiting = c.self.inside.waiting.items } in
    let is : t ≡ c.args.self.now = c.self.view_is in
    let within : c.args.rank < length t.made = subst (λ (u : Tables). c.args.rank < length u.made) (sym is) c.requires in
    let opened : c.open_place.new.waiting.items ≡ with_place t (c.index.result.now - t.full) c.args.coll.now =
    c.in_ok-open_place.ensures.opened ∙ ap (λ n. opened_at t.waiting (c.index.result.now - t.full) n c.args.coll.now) c.self.invariant.0 in
    let there : c.index.result.now - t.full < length c.open_place.new.waiting.items =
    c.in_ok-open_place.ensures.there (near_read t c.self.invariant.1 c.args.rank c.index.result.now within c.index.ensures) in
    (c.self.invariant.0, prepare_whole t c.self.invariant.1 c.args.rank c.index.result.now within c.index.ensures c.args.coll.now c.open_place.new.waiting.items c.index_mut-gathering.result.now opened there c.index_mut-gathering.ensures.value c.in_ok-words.words c.put.new.self c.put.ensures)

pub returns-clause-done : goal.returns-clause-done
returns-clause-done c =
    let t : Tables = record { made = c.self.inside.made.items; gone = c.self.inside.gone.items; full = c.self.inside.full; results = c.self.inside.results.items; waiting = c.self.inside.waiting.items } in
    let is : t ≡ c.args.self.now = c.self.view_is in
    let within : c.args.rank < length t.made = subst (λ (u : Tables). c.args.rank < length u.made) (sym is) c.requires in
    let opened : c.open_place.new.waiting.items ≡ with_place t (c.index.result.now - t.full) c.args.coll.now =
    c.in_ok-open_place.ensures.opened ∙ ap (λ n. opened_at t.waiting (c.index.result.now - t.full) n c.args.coll.now) c.self.invariant.0 in
    let there : c.index.result.now - t.full < length c.open_place.new.waiting.items =
    c.in_ok-open_place.ensures.there (near_read t c.self.invariant.1 c.args.rank c.index.result.now within c.index.ensures) in
    prepare_is t c.self.invariant.1 c.args.rank c.index.result.now within c.index.ensures c.args.coll.now c.open_place.new.waiting.items c.index_mut-gathering.result.now opened there c.index_mut-gathering.ensures.value c.in_ok-words.words c.put.new.self c.put.ensures
    ∙ (ap (prepared t c.args.rank c.args.coll.now) c.in_ok-words.ensures ∙ ap (λ (u : Tables). prepared u c.args.rank c.args.coll.now c.args.given.now) is)

pub overflow_sub-place : goal.overflow_sub-place
overflow_sub-place c =
    let t : Tables = record { made = c.self.inside.made.items; gone = c.self.inside.gone.items; full = c.self.inside.full; results = c.self.inside.results.items; waiting = c.self.inside.waiting.items } in
    let is : t ≡ c.args.self.now = c.self.view_is in
    let within : c.args.rank < length t.made = subst (λ (u : Tables). c.args.rank < length u.made) (sym is) c.requires in
    low_read t c.self.invariant.1 c.args.rank c.index.result.now within c.index.ensures
