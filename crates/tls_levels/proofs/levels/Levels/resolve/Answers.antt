use Rattle.std.proofs.Common.{length, ap, arith}
use Rattle.tls_levels.specs.Kept.{seen_of}
use Rattle.tls_levels.specs.Sharing.{Sharing}
use Rattle.tls_levels.proofs.OwnerLaws.{task_in, read_owner, read_listed}
use Rattle.tls_levels.proofs.levels.Levels.resolve.Goals as goal

pub returns-in-None-clause-owned : goal.returns-in-None-clause-owned
returns-in-None-clause-owned c = task_in c.args.self.now.machine c.args.self.now.cores c.args.task c.requires.task

pub returns-in-Some-clause-value : goal.returns-in-Some-clause-value
returns-in-Some-clause-value c =
    let shapes = ap (λ (s : Sharing). length s.shapes) c.self.view_is in
    let cores = ap (λ (s : Sharing). length s.cores) c.self.view_is in
    rw (← c.self.view_is) (read_owner (seen_of c.self.inside) c.args.task c.args.var _ _ c.in-Some.level _ (omega (arith, shapes, c.requires.var)) c.index.ensures c.in-Some.is
    (omega (arith, cores, c.requires.task)) c.index-in-Some.ensures c.instance.ensures.value)

pub returns-in-Some-clause-owned : goal.returns-in-Some-clause-owned
returns-in-Some-clause-owned c =
    let cores = ap (λ (s : Sharing). length s.cores) c.self.view_is in
    rw (← c.self.view_is) (read_listed (seen_of c.self.inside) c.args.task _ _ c.in-Some.level (omega (arith, cores, c.requires.task)) c.index-in-Some.ensures c.instance.ensures.value c.instance.ensures.small)
