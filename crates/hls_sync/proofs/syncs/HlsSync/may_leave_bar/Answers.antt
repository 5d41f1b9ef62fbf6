use Rattle.hls_sync.proofs.Steps.{may_leave_found}
use Rattle.hls_sync.proofs.syncs.HlsSync.may_leave_bar.Goals as goal

pub returns : goal.returns
returns c = may_leave_found c.args.self.now c.find-k.result c.args.construct c.args.inst c.args.task c.find-k.ensures.seat c.latest.result.whole c.latest.ensures.whole
