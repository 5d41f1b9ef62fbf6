use Rattle.mpi_coll.proofs.Beginning.{shows-begun}
use Rattle.mpi_coll.proofs.Leaving.{shows-leave_elsewhere, shows-elsewhere}
use Rattle.mpi_coll.proofs.Tables.{shows-prepared, shows-enters, shows-fills}
use Rattle.mpi_coll.proofs.Telling.{tells-differs, tells-ready, tells-outcome, shows-leaves}
use Rattle.mpi_coll.proofs.steps.tables_follow_the_arrivals.Goals as goal

pub returns : goal.returns
returns c = record {
  begins = shows-begun;
  prepares = λ numbers t arrivals comm rank coll words whole shows within. shows-prepared t whole rank within coll words numbers arrivals comm shows;
  enters = λ numbers t arrivals comm rank coll words whole shows within same. shows-enters t whole rank within coll words numbers arrivals comm shows same;
  fills = λ numbers t arrivals comm rank coll words g results whole shows within same last first are. shows-fills t whole rank within coll words numbers arrivals comm shows g results same last first are;
  leaves = λ numbers t arrivals comm rank whole shows due. shows-leaves numbers t whole arrivals comm shows rank due;
  arrivals_elsewhere = λ numbers t arrivals comm at by coll words shows nay. shows-elsewhere numbers t arrivals comm shows at by coll words nay;
  leaves_elsewhere = λ numbers t arrivals comm at by shows nay. shows-leave_elsewhere numbers t arrivals comm shows at by nay;
  differs = λ numbers t arrivals comm rank coll whole shows within. tells-differs numbers t whole arrivals comm shows rank within coll;
  ready = λ numbers t arrivals comm rank whole shows within. tells-ready numbers t whole arrivals comm shows rank within;
  gets = λ numbers t arrivals comm rank a whole shows due got. tells-outcome numbers t whole arrivals comm shows rank a due got;
}
