use Rattle.mpi_request.specs.Active.{own_at}
use Rattle.mpi_request.proofs.Seen.{own_shown, made_shown, ready_shown, any_ready_shown, told_shown, places_shown, count_shown, pending_shown}
use Rattle.mpi_request.proofs.Starts.{started_shown, started_back}
use Rattle.mpi_request.proofs.Matches.{matched_shown}
use Rattle.mpi_request.proofs.Ends.{finished_shown}
use Rattle.mpi_request.proofs.Begins.{begins_shown}
use Rattle.mpi_request.proofs.Renames.{renamed_shown}
use Rattle.mpi_request.proofs.standing.kept_requests_stand_for_requests.Goals as goal

pub returns : goal.returns
returns c = record {
  begins = begins_shown;
  starts = started_shown;
  number = λ names tells posts requests t task list s got. made_shown names (own_at t task) list (own_shown names tells posts requests t task list s got);
  starts_back = started_back;
  matches = matched_shown;
  ends = finished_shown;
  renames = renamed_shown;
  readiness = ready_shown;
  any = any_ready_shown;
  outcome = told_shown;
  places = places_shown;
  count = count_shown;
  pending = pending_shown;
}
