use Rattle.std.proofs.Common.{◌<◌, length, Some, subst, sym}
use Rattle.hls_sync.specs.Syncs.{Syncs}
use Rattle.hls_sync.specs.Kept.{seen_of}
use Rattle.hls_sync.proofs.Opened.{tied_run}
use Rattle.hls_sync.proofs.syncs.HlsSync.begin.Goals as goal

pub invariant_of-self : goal.invariant_of-self
invariant_of-self c = record {
  finds = c.self.invariant.finds;
  tied = tied_run (seen_of c.self.inside) c.self.invariant.tied c.args.place c.index_mut-instance.result.now c.run.new.self (Some c.args.task)
      (subst (λ (w : Syncs). c.args.place < length w.instances) (sym c.self.view_is) c.requires) c.index_mut-instance.ensures.value c.run.ensures;
}
