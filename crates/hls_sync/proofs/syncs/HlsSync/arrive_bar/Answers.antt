use Rattle.std.proofs.Common.{◌≡◌}
use Rattle.c_tree.specs.declared.program.HlsKind.TheVariants.{Single, Barrier}
use Rattle.hls_sync.proofs.Steps.{arrives_else}
use Rattle.hls_sync.proofs.syncs.HlsSync.arrive_bar.Goals as goal

pub returns : goal.returns
returns c =
    arrives_else c.args.self.now c.arrive.new.self c.find-k.ensures.tied c.find-k.result c.args.construct c.args.inst c.args.task c.arrive.result.before c.find-k.ensures.seat c.arrive.ensures.after c.arrive.ensures.before c.arrive.ensures.one Barrier
    (λ (e : Barrier ≡ Single). cc)
