use Rattle.std.proofs.Common.{◌∙◌}
use Rattle.mpi_coll.specs.Results.{part_of}
use Rattle.mpi_coll.proofs.Ranks.{ranks_push}
use Rattle.mpi_coll.proofs.shares.scatter.Goals as goal

pub loop-rank-preserved : goal.loop-rank-preserved
loop-rank-preserved c =
    ranks_push (λ rank. part_of rank c.args.count c.args.words.now) c.loop-rank.rank c.loop-rank.all.items c.push.new.self.items c.in_ok-copy.field-0
    c.in_ok-push.ensures.items c.loop-rank.invariant (c.in_ok-copy.ensures ∙ c.part.ensures)
