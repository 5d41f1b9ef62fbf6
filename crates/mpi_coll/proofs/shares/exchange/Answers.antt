use Rattle.std.proofs.Common.{map}
use Rattle.mpi_coll.specs.Results.{part_of, joined}
use Rattle.mpi_coll.proofs.Ranks.{ranks_push}
use Rattle.mpi_coll.proofs.shares.exchange.Goals as goal

pub loop-rank-preserved : goal.loop-rank-preserved
loop-rank-preserved c =
    ranks_push (λ rank. joined (map (part_of rank c.args.count) c.args.given.now)) c.loop-rank.rank c.loop-rank.all.items c.push.new.self.items c.in_ok-parts.field-0
    c.in_ok-push.ensures.items c.loop-rank.invariant c.in_ok-parts.ensures
