-- Requests of a task (MPI 3.1, section 3.7): what a word names, when a request is ready, and what it ends with.
use Rattle.std.specs.Prelude.{ℕ, zero, suc, ◌||◌, false, is_some, if◌then◌else◌, List, slice_get, slice_set, Option, Some, None, Result, Ok}
use Rattle.mpc_values.specs.declared.values.Word.{Word}
use Rattle.mpc_values.specs.declared.values.Word.TheVariants.{Undef, Int, Null, Ptr, Comm, Req}
use Rattle.mpc_values.specs.declared.answers.Status.{Status}
use Rattle.mpc_values.specs.declared.faults.Fault.{Fault}
use Rattle.mpi_queue.specs.History.{Made}
use Rattle.mpi_request.specs.declared.requests.Awaited.{Awaited}
use Rattle.mpi_request.specs.declared.requests.Awaited.TheVariants.{Nothing, Posting}
use Rattle.mpi_request.specs.declared.requests.Request.{Request}
use Rattle.mpi_request.specs.declared.requests.Carried.{Carried}
use Rattle.mpi_request.specs.Messages.{posting_of, carried_of, empty_status, told}

-- what a word names: MPI_REQUEST_NULL, an active request of the task by its number, or neither
pub data Named : Type 0 where
  NullRequest : Named
  Active : (number : ℕ) (request : Request) → Named
  NotActive : Named

-- the same by the request of that number
abbrev pub named_in : ℕ → Option Request → Named
named_in number None = NotActive
named_in number (Some request) = if request.active then Active number request else NotActive

-- the same by number; a task's requests are counted from 1
abbrev pub named_at : List Request → ℕ → Named
named_at requests zero = NullRequest
named_at requests (suc index) = named_in (suc index) (slice_get requests index)

-- what a word names to the task that has these requests
abbrev pub named : List Request → Word → Named
named requests (Req number) = named_at requests number
named requests Undef = NotActive
named requests (Int z) = NotActive
named requests Null = NotActive
named requests (Ptr obj at) = NotActive
named requests (Comm comm) = NotActive

-- the same by the postings
abbrev pub told_by : Option Made → Option Carried → Option Carried → Option (Result Status Fault)
told_by (Some send) (Some sent) (Some recv) = Some (told send sent recv)
told_by _ _ _ = None

-- what a receive is told, once it has a partner
abbrev pub receive_told : List Made → List Carried → ℕ → Option ℕ → Option (Result Status Fault)
receive_told postings carried number None = None
receive_told postings carried number (Some send) = told_by (posting_of postings send) (carried_of carried send) (carried_of carried number)

-- a send ends with the empty status, once it is eager or has a partner
abbrev pub send_told : Option ℕ → Option Carried → Option (Result Status Fault)
send_told met None = None
send_told met (Some carried) = if carried.eager || is_some met then Some (Ok empty_status) else None

-- what the owner of a posting is told, once it is ready
abbrev pub posting_told : List Made → List Carried → ℕ → Option Made → Option (Result Status Fault)
posting_told postings carried number None = None
posting_told postings carried number (Some made) =
    if made.posting.send then send_told made.met (carried_of carried number) else receive_told postings carried number made.met

-- What a request ends with, once it is ready: a send, when it is eager or matched; a receive, when it is matched; one
-- without a posting, at once.
abbrev pub told_of : List Made → List Carried → Awaited → Option (Result Status Fault)
told_of postings carried (Nothing status) = Some (Ok status)
told_of postings carried (Posting number) = posting_told postings carried number (posting_of postings number)

-- the requests, of which that of this number is active no more
abbrev pub without_request : List Request → ℕ → Request → List Request
without_request requests zero request = requests
without_request requests (suc index) request = slice_set requests index (record request { active = false })
