use Rattle.std.proofs.Common.{◌≡◌, ◌<◌, length, subst, sym}
use Rattle.hls_sync.specs.Turnouts.{without_running}
use Rattle.hls_sync.specs.Syncs.{Syncs, seat_at}
use Rattle.hls_sync.specs.Kept.{seen_of}
use Rattle.hls_sync.proofs.Opened.{read_seat, place_within, tied_run}
use Rattle.hls_sync.proofs.syncs.HlsSync.end.Goals as goal

pub invariant_of-self : goal.invariant_of-self
invariant_of-self c =
    let h : c.args.k < length c.self.inside.seats.items = subst (λ (w : Syncs). c.args.k < length w.seats) (sym c.self.view_is) c.requires in
    let es : c.index.result.now ≡ seat_at (seen_of c.self.inside) c.args.k = read_seat (seen_of c.self.inside) c.args.k c.index.result.now h c.index.ensures in
    record {
      finds = c.self.invariant.finds;
      tied = tied_run (seen_of c.self.inside) c.self.invariant.tied c.index.result.now.place c.index_mut-instance.result.now c.leave.new.self (without_running c.index_mut-instance.result.now.running c.args.task)
          (place_within (seen_of c.self.inside) c.self.invariant.tied c.args.k h c.index.result.now es) c.index_mut-instance.ensures.value c.leave.ensures;
    }
