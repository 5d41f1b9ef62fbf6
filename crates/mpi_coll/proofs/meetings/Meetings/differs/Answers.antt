use Rattle.std.proofs.Common.{◌∙◌}
use Rattle.mpi_coll.proofs.Together.{tells-differs_at}
use Rattle.mpi_coll.proofs.meetings.Meetings.differs.Goals as goal

pub returns-clause-differs : goal.returns-clause-differs
returns-clause-differs c = λ comms arrivals all within.
    c.differs_at.ensures.value ∙ tells-differs_at c.args.self.now comms arrivals all c.args.comm c.differs_at.ensures.whole c.args.rank c.args.coll.now within
