use Rattle.mpi_coll.proofs.Communicators.{members-seen}
use Rattle.mpi_coll.proofs.Conditions.{few-made, latest-own, numbers-stay}
use Rattle.mpi_coll.proofs.standing.standing_tables_meet_the_conditions.Goals as goal

pub returns : goal.returns
returns c = record {
  members = members-seen;
  same_members = λ rooms comms arrivals comm all. all.size comm;
  few = few-made;
  latest = latest-own;
  numbers_stay = numbers-stay;
}
