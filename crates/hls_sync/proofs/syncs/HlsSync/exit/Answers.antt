use Rattle.std.proofs.Common.{subst, sym}
use Rattle.hls_sync.specs.Syncs.{Syncs}
use Rattle.hls_sync.specs.Shown.{Leaves}
use Rattle.hls_sync.proofs.Steps.{leaves}
use Rattle.hls_sync.proofs.syncs.HlsSync.exit.Goals as goal

pub returns : goal.returns
returns c = subst (λ (w : Syncs). Leaves c.args.self.now w c.args.construct c.args.task) (sym c.end.ensures)
    (leaves c.args.self.now c.find-k.ensures.tied c.find-k.result c.args.construct c.args.inst c.args.task c.find-k.ensures.seat)
