use Rattle.std.proofs.Common.{◌≡◌, ap, arith}
use Rattle.mpc_base.specs.FailLists.{failed_so_far}
use Rattle.mpc_base.proofs.mem_files.MemFilesFiles.write.Goals as goal

pub returns-in-Ok-clause-failed : goal.returns-in-Ok-clause-failed
returns-in-Ok-clause-failed c =
    let same : failed_so_far c.self.inside.fails ≡ failed_so_far c.args.self.now.fails = ap (λ f. failed_so_far f.fails) c.self.view_is in
    (λ failed. absurd (cc failed), λ rose. absurd (omega (arith, rose, c.if-next.ensures.few, c.if-next.ensures.still, ap failed_so_far c.in-Ok.ensures.fails)))

pub returns-in-Err-clause-failed : goal.returns-in-Err-clause-failed
returns-in-Err-clause-failed c =
    let same : failed_so_far c.self.inside.fails ≡ failed_so_far c.args.self.now.fails = ap (λ f. failed_so_far f.fails) c.self.view_is in
    (λ failed. absurd (cc failed), λ rose. absurd (omega (arith, rose, c.if-next.ensures.few, c.if-next.ensures.still, ap failed_so_far c.in-Err.ensures.fails)))
