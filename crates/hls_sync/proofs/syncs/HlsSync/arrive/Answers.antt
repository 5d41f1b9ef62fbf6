use Rattle.std.proofs.Common.{◌≡◌, ◌<◌, length, get_or, subst, sym, ap, ◌∙◌, arith}
use Rattle.hls_sync.specs.declared.seats.Seat.{Seat}
use Rattle.hls_sync.specs.Turnouts.{Turnout, reached, once_more, IsFalling}
use Rattle.hls_sync.specs.Syncs.{Syncs, seat_at, turnout_of}
use Rattle.hls_sync.specs.Kept.{seen_of}
use Rattle.hls_sync.proofs.Tied.{one_there}
use Rattle.hls_sync.proofs.Opened.{read_seat, read_turnout, few_read, one_read, tied_written, finds_kept}
use Rattle.hls_sync.proofs.syncs.HlsSync.arrive.Goals as goal

pub advance-requires-clause-there : goal.advance-requires-clause-there
advance-requires-clause-there c =
    let h : c.args.k < length c.self.inside.seats.items = subst (λ (w : Syncs). c.args.k < length w.seats) (sym c.self.view_is) c.requires in
    let es : c.index-seat.result.now ≡ seat_at (seen_of c.self.inside) c.args.k = read_seat (seen_of c.self.inside) c.args.k c.index-seat.result.now h c.index-seat.ensures in
    let et : c.index_mut-instance.result.now ≡ turnout_of (seen_of c.self.inside) c.args.k = read_turnout (seen_of c.self.inside) c.self.invariant.tied c.args.k h c.index-seat.result.now c.index_mut-instance.result.now es c.index_mut-instance.ensures.value in
    few_read (seen_of c.self.inside) c.self.invariant.tied c.args.k h c.index-seat.result.now c.index_mut-instance.result.now es et

pub advance-requires-clause-one : goal.advance-requires-clause-one
advance-requires-clause-one c =
    let h : c.args.k < length c.self.inside.seats.items = subst (λ (w : Syncs). c.args.k < length w.seats) (sym c.self.view_is) c.requires in
    let es : c.index-seat.result.now ≡ seat_at (seen_of c.self.inside) c.args.k = read_seat (seen_of c.self.inside) c.args.k c.index-seat.result.now h c.index-seat.ensures in
    let et : c.index_mut-instance.result.now ≡ turnout_of (seen_of c.self.inside) c.args.k = read_turnout (seen_of c.self.inside) c.self.invariant.tied c.args.k h c.index-seat.result.now c.index_mut-instance.result.now es c.index_mut-instance.ensures.value in
    one_read (seen_of c.self.inside) c.self.invariant.tied c.args.k h c.index-seat.result.now c.index_mut-instance.result.now es et c.reached-before.ensures.falling

pub invariant_of-self : goal.invariant_of-self
invariant_of-self c =
    let h : c.args.k < length c.self.inside.seats.items = subst (λ (w : Syncs). c.args.k < length w.seats) (sym c.self.view_is) c.requires in
    let es : c.index-seat.result.now ≡ seat_at (seen_of c.self.inside) c.args.k = read_seat (seen_of c.self.inside) c.args.k c.index-seat.result.now h c.index-seat.ensures in
    let et : c.index_mut-instance.result.now ≡ turnout_of (seen_of c.self.inside) c.args.k = read_turnout (seen_of c.self.inside) c.self.invariant.tied c.args.k h c.index-seat.result.now c.index_mut-instance.result.now es c.index_mut-instance.ensures.value in
    let again : c.index_mut.result.now ≡ seat_at (seen_of c.self.inside) c.args.k = read_seat (seen_of c.self.inside) c.args.k c.index_mut.result.now h c.index_mut.ensures.value in
    let more : c.saturating_add.result ≡ once_more (seat_at (seen_of c.self.inside) c.args.k).came = c.saturating_add.ensures ∙ ap (λ (s : Seat). once_more s.came) es in
    let row_is = ap (λ (s : Seat). s.row) again in
    let place_is = ap (λ (s : Seat). s.place) again in
    record {
      finds = finds_kept c.self.inside.index c.self.inside.seats.items c.args.k (record { row = c.index_mut.result.now.row; came = c.saturating_add.result; place = c.index_mut.result.now.place }) h row_is c.self.invariant.finds;
      tied = tied_written (seen_of c.self.inside) c.self.invariant.tied c.args.k h c.index-seat.result.now (record { row = c.index_mut.result.now.row; came = c.saturating_add.result; place = c.index_mut.result.now.place }) c.index_mut-instance.result.now c.advance.new.self es et
          c.reached-before.ensures.falling (cc) c.advance.ensures;
    }

pub returns-clause-below : goal.returns-clause-below
returns-clause-below c =
    let h : c.args.k < length c.self.inside.seats.items = subst (λ (w : Syncs). c.args.k < length w.seats) (sym c.self.view_is) c.requires in
    let es : c.index-seat.result.now ≡ seat_at (seen_of c.self.inside) c.args.k = read_seat (seen_of c.self.inside) c.args.k c.index-seat.result.now h c.index-seat.ensures in
    let et : c.index_mut-instance.result.now ≡ turnout_of (seen_of c.self.inside) c.args.k = read_turnout (seen_of c.self.inside) c.self.invariant.tied c.args.k h c.index-seat.result.now c.index_mut-instance.result.now es c.index_mut-instance.ensures.value in
    let few : reached c.index_mut-instance.result.now.counts c.index-seat.result.now.came < length c.index_mut-instance.result.now.counts = few_read (seen_of c.self.inside) c.self.invariant.tied c.args.k h c.index-seat.result.now c.index_mut-instance.result.now es et in
    omega (arith, few, c.reached-before.ensures.value, c.size-size.ensures)

pub returns-clause-one : goal.returns-clause-one
returns-clause-one c =
    let h : c.args.k < length c.self.inside.seats.items = subst (λ (w : Syncs). c.args.k < length w.seats) (sym c.self.view_is) c.requires in
    let es : c.index-seat.result.now ≡ seat_at (seen_of c.self.inside) c.args.k = read_seat (seen_of c.self.inside) c.args.k c.index-seat.result.now h c.index-seat.ensures in
    let et : c.index_mut-instance.result.now ≡ turnout_of (seen_of c.self.inside) c.args.k = read_turnout (seen_of c.self.inside) c.self.invariant.tied c.args.k h c.index-seat.result.now c.index_mut-instance.result.now es c.index_mut-instance.ensures.value in
    let before : c.reached-before.result ≡ reached (turnout_of (seen_of c.self.inside) c.args.k).counts (seat_at (seen_of c.self.inside) c.args.k).came =
    c.reached-before.ensures.value ∙ (ap (λ (u : Turnout). reached u.counts c.index-seat.result.now.came) et ∙ ap (λ (s : Seat). reached (turnout_of (seen_of c.self.inside) c.args.k).counts s.came) es) in
    subst (λ (w : Syncs). get_or (turnout_of w c.args.k).counts c.reached-before.result 0 ≡ (seat_at w c.args.k).came) c.self.view_is
    (ap (λ n. get_or (turnout_of (seen_of c.self.inside) c.args.k).counts n 0) before
    ∙ one_there (seen_of c.self.inside) c.self.invariant.tied c.args.k h (subst (λ (u : Turnout). IsFalling u.counts) et c.reached-before.ensures.falling))
