use Rattle.std.proofs.Common.{◌≡◌, ap, arith}
use Rattle.mpc_base.specs.FailLists.{failed_so_far}
use Rattle.mpc_base.proofs.mem_files.MemFilesFiles.read.Goals as goal

pub returns-clause-failed : goal.returns-clause-failed
returns-clause-failed c =
    let same : failed_so_far c.self.inside.fails ≡ failed_so_far c.args.self.now.fails = ap (λ f. failed_so_far f.fails) c.self.view_is in
    (λ failed. absurd (c.content.ensures.answers failed), λ rose. absurd (omega (arith, rose, c.if-next.ensures.few, c.if-next.ensures.still)))
