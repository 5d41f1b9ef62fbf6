-- The answers of a task's calls about itself, of postings, of completing calls and of probes are of their kinds.
use Rattle.std.specs.Prelude.{ℕ, ℤ, true, false, ◌+◌, nat_le, if◌then◌else◌, List, length, Option, Some, None}
use Rattle.mpc_values.specs.declared.answers.Status.{Status}
use Rattle.mpc_values.specs.declared.limits.TheConstants.{MAX_OUTPUT_BYTES}
use Rattle.c_tree.specs.Asking.{AnswerKind, OfDone, OfWord, OfPosting, OfStatus, OfFlag, OfAny}
use Rattle.mpi_comm.specs.declared.communicators.View.{View}
use Rattle.mpi_request.specs.Completing.{Completion, Ends, Breaks, NotReady}
use Rattle.run_model.specs.declared.progress.Phase.{Phase}
use Rattle.run_model.specs.declared.progress.Phase.TheVariants.{Before, Inside, After}
use Rattle.run_model.specs.declared.offers.Asked.{Asked}
use Rattle.run_model.specs.declared.offers.Asked.TheVariants.{Refused, Nobody, Posts}
use Rattle.run_model.specs.World.{Core}
use Rattle.run_model.specs.Outcomes.{Outcome, Partly}
use Rattle.run_model.specs.TaskCalls as task'
use Rattle.run_model.specs.Posting as posting
use Rattle.run_model.specs.Completing as completing
use Rattle.run_model.specs.Probing as probing
use Rattle.run_model.proofs.Fitting.{Fits, FitsPart, fails_fits, fits_if}

part_if : {A : Type 0} (kind : AnswerKind) (b : _) (x y : Partly A) → FitsPart kind x → FitsPart kind y → FitsPart kind (if b then x else y)
part_if kind true x y h g = h
part_if kind false x y h g = g

pub printed_fits : (output text : List ℕ) → FitsPart OfWord (task'.printed output text)
unfolding FitsPart
printed_fits output text = part_if OfWord (nat_le (length output + length text) MAX_OUTPUT_BYTES) _ _ tt tt

pub begun_fits : (phase : Phase) → FitsPart OfDone (task'.begun phase)
unfolding FitsPart
begun_fits Before = tt
begun_fits Inside = tt
begun_fits After = tt

pub offered_fits : (core : Core) (task : ℕ) (send : _) (asked : Asked) → Fits OfPosting (posting.offered core task send asked)
unfolding Fits
offered_fits core task send (Refused fault) = tt
offered_fits core task send Nobody = tt
offered_fits core task send (Posts posting carried) = tt

pub completed_fits : (core : Core) (task : ℕ) (c : Completion) → Fits OfStatus (completing.completed core task c)
unfolding Fits
completed_fits core task (Ends index status requests) = tt
completed_fits core task (Breaks fault) = tt
completed_fits core task NotReady = tt

pub tested_fits : (core : Core) (task : ℕ) (c : Completion) → Fits OfFlag (completing.tested core task c)
unfolding Fits
tested_fits core task (Ends index status requests) = tt
tested_fits core task (Breaks fault) = tt
tested_fits core task NotReady = tt

pub any_fits : (core : Core) (task : ℕ) (c : Completion) → Fits OfAny (completing.any_completed core task c)
unfolding Fits
any_fits core task (Ends index status requests) = tt
any_fits core task (Breaks fault) = tt
any_fits core task NotReady = tt

pub probe_fits : (kind : AnswerKind) (core : Core) (task : ℕ) (peer tag : ℤ) (found : Option Status → Outcome) (view : View) → ((status : Option Status) → Fits kind (found status)) → Fits kind (probing.probe_in core task peer tag found view)
probe_fits kind core task peer tag found view h = search (fits_if, fails_fits, h)

pub waits_fits : (core : Core) (status : Option Status) → Fits OfStatus (probing.found_or_waits core status)
unfolding Fits
waits_fits core None = tt
waits_fits core (Some status) = tt
