use Rattle.std.proofs.Common.{◌∙◌}
use Rattle.mpi_coll.proofs.Together.{tells-is_due}
use Rattle.mpi_coll.proofs.meetings.Meetings.ready.Goals as goal

pub returns-clause-ready : goal.returns-clause-ready
returns-clause-ready c = λ comms arrivals all.
    c.is_due.ensures.value ∙ tells-is_due c.args.self.now comms arrivals all c.args.comm c.is_due.ensures.whole c.args.rank
