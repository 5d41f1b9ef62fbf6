use Rattle.std.proofs.Common.{refl}
use Rattle.mpi_queue.proofs.Fitting.{is_fit-Fits}
use Rattle.mpi_queue.proofs.Partners.{partner-matching_of, partner_of-IsPartner, partner_of-None}
use Rattle.mpi_queue.proofs.Histories.{posted-matching_of}
use Rattle.mpi_queue.proofs.Changes.{with_posting-made, with_posting-joined, with_posting-others}
use Rattle.mpi_queue.proofs.Settled.{IsSettled-none, IsSettled-with_posting}
use Rattle.mpi_queue.proofs.laws.matching_laws.Goals as goal

pub returns : goal.returns
returns c = record {
  fits = is_fit-Fits;
  begins = refl;
  met = partner-matching_of;
  after = posted-matching_of;
  first = partner_of-IsPartner;
  none = λ all p k m is got. partner_of-None all p is k m got;
  made = with_posting-made;
  joined = with_posting-joined;
  others = with_posting-others;
  settled_first = IsSettled-none;
  settled = IsSettled-with_posting;
}
