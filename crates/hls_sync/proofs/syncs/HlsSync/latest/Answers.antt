use Rattle.std.proofs.Common.{◌<◌, length, subst, sym}
use Rattle.hls_sync.specs.Turnouts.{reached}
use Rattle.hls_sync.specs.Syncs.{Syncs, seat_at, turnout_of}
use Rattle.hls_sync.specs.Kept.{seen_of}
use Rattle.hls_sync.proofs.Tied.{few_reached}
use Rattle.hls_sync.proofs.syncs.HlsSync.latest.Goals as goal

pub returns-then-seat-eq0-clause-few : goal.returns-then-seat-eq0-clause-few
returns-then-seat-eq0-clause-few c = subst (λ (w : Syncs). reached (turnout_of w c.args.k).counts (seat_at w c.args.k).came < length (turnout_of w c.args.k).counts) c.self.view_is
    (few_reached (seen_of c.self.inside) c.self.invariant.tied c.args.k (subst (λ (w : Syncs). c.args.k < length w.seats) (sym c.self.view_is) c.requires))

pub returns-else-seat-eq0-clause-few : goal.returns-else-seat-eq0-clause-few
returns-else-seat-eq0-clause-few c = subst (λ (w : Syncs). reached (turnout_of w c.args.k).counts (seat_at w c.args.k).came < length (turnout_of w c.args.k).counts) c.self.view_is
    (few_reached (seen_of c.self.inside) c.self.invariant.tied c.args.k (subst (λ (w : Syncs). c.args.k < length w.seats) (sym c.self.view_is) c.requires))
