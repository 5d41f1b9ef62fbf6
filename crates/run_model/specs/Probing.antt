-- What probe and iprobe come to (MPI 3.1, sections 3.8.1 and 3.11).
use Rattle.std.specs.Prelude.{ℕ, ℤ, not, false, true, if◌then◌else◌, List, Option, Some, None, option_and_then}
use Rattle.mpc_values.specs.declared.values.Word.{Word}
use Rattle.mpc_values.specs.declared.answers.Answer.TheVariants.{Got, Flag}
use Rattle.mpc_values.specs.declared.answers.Status.{Status}
use Rattle.mpc_values.specs.declared.faults.Fault.TheVariants.{BadRank, BadTag}
use Rattle.mpi_args.specs.Arguments.{is_proc_null, is_peer, is_tag_argument}
use Rattle.mpi_queue.specs.declared.postings.Posting.{Posting}
use Rattle.mpi_queue.specs.History.{Made, partner_of}
use Rattle.mpi_request.specs.declared.requests.Carried.{Carried}
use Rattle.mpi_request.specs.Messages.{null_status, status_of_send}
use Rattle.mpi_comm.specs.declared.communicators.View.{View}
use Rattle.mpi_comm.specs.Communicators.{view_of}
use Rattle.run_model.specs.World.{Core}
use Rattle.run_model.specs.Outcomes.{Outcome, Does, Fails, Waits, in_group}

-- the envelope of a receive with these arguments
abbrev pub pattern : ℕ → ℤ → ℤ → View → Posting
pattern task peer tag view = record { task = task; comm = view.comm; send = false; rank = view.rank; peer = peer; tag = tag }

-- the status of the message that such a receive would take, if there is one
abbrev pub probed : List Made → List Carried → ℕ → ℤ → ℤ → View → Option Status
probed postings carried task peer tag view =
    if is_proc_null peer then Some null_status
    else option_and_then (status_of_send postings carried) (partner_of postings (pattern task peer tag view))

-- BadRank and BadTag in this order, and then what comes of what the probe finds
abbrev pub probe_in : Core → ℕ → ℤ → ℤ → (Option Status → Outcome) → View → Outcome
probe_in core task peer tag outcome view =
    if not (is_peer peer view.size true) then Fails BadRank
    else if not (is_tag_argument tag true) then Fails BadTag
    else outcome (probed core.postings core.carried task peer tag view)

-- a probe that waits by what it finds
abbrev pub found_or_waits : Core → Option Status → Outcome
found_or_waits core None = Waits
found_or_waits core (Some status) = Does (Got status) core

-- MPI_Probe waits until a message fits.
unfoldable pub probe : Core → ℕ → ℤ → ℤ → Word → Outcome
probe core task peer tag comm =
    in_group core task comm (λ group. probe_in core task peer tag (found_or_waits core) (view_of group))

-- MPI_Iprobe has an unset flag where none fits.
unfoldable pub iprobe : Core → ℕ → ℤ → ℤ → Word → Outcome
iprobe core task peer tag comm =
    in_group core task comm (λ group. probe_in core task peer tag (λ status. Does (Flag status) core) (view_of group))
