use Rattle.std.proofs.lemmas.List.{length-map}
use Rattle.mpi_comm.specs.Seen.{seen_of}
use Rattle.mpi_comm.proofs.Keeping.{seen_at-all, alive-of, group_seen-of, rank-group_seen, seen_all-dup, seen_all-split, seen_all-freed}
use Rattle.mpi_comm.proofs.NewNumbers.{number-dup, number-split, dup-keeps, split-keeps, free-keeps, dup-makes_no_other, split-makes_no_other, free-makes_none}
use Rattle.mpi_comm.proofs.seen_laws.communicators_step_alike.Goals as goal

pub returns : goal.returns
returns c = record {
  count = λ comms. length-map comms seen_of;
  at = seen_at-all;
  living = alive-of;
  group = group_seen-of;
  rank = rank-group_seen;
  dup = seen_all-dup;
  split = seen_all-split;
  free = seen_all-freed;
  dup_number = number-dup;
  split_number = number-split;
  dup_keeps = dup-keeps;
  split_keeps = split-keeps;
  free_keeps = free-keeps;
  dup_makes_no_other = dup-makes_no_other;
  split_makes_no_other = split-makes_no_other;
  free_makes_none = free-makes_none;
}
