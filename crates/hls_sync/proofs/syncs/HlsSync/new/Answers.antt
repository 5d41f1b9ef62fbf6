use Rattle.std.proofs.Common.{◌≡◌, ℕ, ◌<◌, ◌≤◌, ◌+◌, length, set, subst, sym, ◌∙◌, arith}
use Rattle.std.proofs.lemmas.List.{get_or_default, take_all}
use Rattle.hls_sync.specs.declared.seats.Seat.{Seat}
use Rattle.std.specs.Prelude.{List}
use Rattle.hls_sync.proofs.Made.{IsMade, made_row, made_tied, made_shows}
use Rattle.hls_sync.proofs.syncs.HlsSync.new.Goals as goal

pub loop-row-preserved : goal.loop-row-preserved
loop-row-preserved c =
    let within : c.loop-row.row-index < length c.args.rows.now = c.loop-row-test.true in
    let count : c.len.result ≡ length c.loop-row.seats.items = omega (arith, c.len.ensures, c.loop-row.seats.ok.0) in
    subst (λ (seats : List Seat). IsMade c.args.rows.now (c.loop-row.row-index + 1) seats c.insert.new.self (set c.number_of.new.instances.items c.in_ok-place.place c.add.new.self) c.number_of.new.numbers) (sym c.in_ok-push.ensures.items)
    (made_row c.args.rows.now c.loop-row.row-index c.loop-row.seats.items c.loop-row.index c.insert.new.self c.loop-row.instances.items c.number_of.new.instances.items c.loop-row.numbers c.number_of.new.numbers _ c.in_ok-place.place c.len.result c.index_mut-instance.result.now c.add.new.self
    c.requires within (get_or_default c.args.rows.now c.loop-row.row-index _ _ within) c.loop-row.invariant c.in_ok-place.ensures c.index_mut-instance.ensures.value c.in_ok-add.ensures.added count c.in_ok-insert.ensures.updates.0)

pub invariant_of-result : goal.invariant_of-result
invariant_of-result c = record {
  finds = c.loop-row.invariant.finds;
  tied = made_tied c.args.rows.now c.loop-row.row-index c.loop-row.seats.items c.loop-row.index c.loop-row.instances.items c.loop-row.numbers c.loop-row.invariant;
}

pub returns-clause-shows : goal.returns-clause-shows
returns-clause-shows c =
    let past : length c.args.rows.now ≤ c.loop-row.row-index = c.loop-row-test.false in
    let at_end : c.loop-row.row-index ≡ length c.args.rows.now = omega arith in
    made_shows c.args.rows.now c.loop-row.seats.items c.loop-row.index c.loop-row.instances.items c.loop-row.numbers
    (c.loop-row.invariant.rows ∙ take_all c.loop-row.row-index c.args.rows.now past)
    (subst (λ (n : ℕ). IsMade c.args.rows.now n c.loop-row.seats.items c.loop-row.index c.loop-row.instances.items c.loop-row.numbers) at_end c.loop-row.invariant)
