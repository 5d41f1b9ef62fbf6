-- Messages: what a match of a send and a receive moves, and what the receive is told of it (MPI 3.1, sections 3.2 and 3.7).
use Rattle.std.specs.Prelude.{ℕ, zero, suc, pos, negsuc, ◌&&◌, ◌==◌, Bool, is_none, nat_le, if◌then◌else◌, List, sum_by, filter, zip, slice_get, Option, Some, None, Result, Ok, Err}
use Rattle.mpc_values.specs.declared.answers.Status.{Status}
use Rattle.mpc_values.specs.declared.faults.Fault.{Fault}
use Rattle.mpc_values.specs.declared.faults.Fault.TheVariants.{Mistyped, Truncate}
use Rattle.memory_model.specs.Memory.{Memory}
use Rattle.memory_model.specs.Ranges.{with_words_at}
use Rattle.mpi_args.specs.Datatypes.{is_same_datatype}
use Rattle.mpi_queue.specs.History.{Made}
use Rattle.mpi_request.specs.declared.requests.Carried.{Carried}

-- the posting of a number, counted from 1
abbrev pub posting_of : List Made → ℕ → Option Made
posting_of postings zero = None
posting_of postings (suc index) = slice_get postings index

-- what the posting of a number carries
abbrev pub carried_of : List Carried → ℕ → Option Carried
carried_of carried zero = None
carried_of carried (suc index) = slice_get carried index

-- the empty status: of a null request, and of a completed send (MPI 3.1, section 3.7.3)
abbrev pub empty_status : Status
empty_status = record { source = negsuc 0; tag = negsuc 0; count = 0 }

-- the status of a receive from MPI_PROC_NULL, and of a probe of it (MPI 3.1, section 3.11)
abbrev pub null_status : Status
null_status = record { source = negsuc 1; tag = negsuc 0; count = 0 }

-- The receive takes the message: the datatypes are the same, and the message is no longer than the receive.
abbrev pub is_taken : Carried → Carried → Bool
is_taken send recv = is_same_datatype send.kind recv.kind && nat_le send.count recv.count

-- how many words the match of a send and a receive moves
abbrev pub moved_words : Carried → Carried → ℕ
moved_words send recv = if is_taken send recv then send.count else 0

-- The memory after a match: the message's words are in the first places of the receive, or nothing has changed.
abbrev pub delivered : Memory → Carried → Carried → Memory
delivered m send recv = if is_taken send recv then with_words_at m recv.places send.words else m

-- the status of a message: the sender's rank, the tag and the count (MPI 3.1, section 3.2.5)
abbrev pub status_of : Made → Carried → Status
status_of send carried = record { source = pos send.posting.rank; tag = send.posting.tag; count = carried.count }

-- What a receive that was matched with this send is told: the status, or else Mistyped, where the datatypes differ, and
-- Truncate, where the message is longer than the receive (MPI 3.1, sections 3.2.4 and 3.3.1).
abbrev pub told : Made → Carried → Carried → Result Status Fault
told send sent recv =
    if is_same_datatype sent.kind recv.kind
    then (if nat_le sent.count recv.count then Ok (status_of send sent) else Err Truncate)
    else Err Mistyped

-- the same by the posting
abbrev pub status_found : Option Made → Option Carried → Option Status
status_found (Some send) (Some carried) = Some (status_of send carried)
status_found _ _ = None

-- the status of the send of a number
abbrev pub status_of_send : List Made → List Carried → ℕ → Option Status
status_of_send postings carried number = status_found (posting_of postings number) (carried_of carried number)

-- the posting is an eager send of the task, and not yet matched
abbrev pub is_held : ℕ → Made × Carried → Bool
is_held task m = m.0.posting.send && (m.0.posting.task == task && (is_none m.0.met && m.1.eager))

-- the words of a sender's eager messages that are not yet matched
abbrev pub held_words : List Made → List Carried → ℕ → ℕ
held_words postings carried task = sum_by (λ (m : Made × Carried). m.1.count) (filter (is_held task) (zip postings carried))
