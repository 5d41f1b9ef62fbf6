-- How the calls that complete requests find them (MPI 3.1, sections 3.7.3 and 3.7.5).
use Rattle.std.specs.Prelude.{ℕ, pos, negsuc, ℤ, Bool, true, false, is_some, if◌then◌else◌, List, slice_get, position, Option, Some, None, Result, Ok, Err}
use Rattle.std.specs.List.{list_any, list_all}
use Rattle.mpc_values.specs.declared.values.Word.{Word}
use Rattle.mpc_values.specs.declared.answers.Status.{Status}
use Rattle.mpc_values.specs.declared.faults.Fault.{Fault}
use Rattle.mpc_values.specs.declared.faults.Fault.TheVariants.{BadRequest}
use Rattle.mpi_queue.specs.History.{Made}
use Rattle.mpi_request.specs.declared.requests.Request.{Request}
use Rattle.mpi_request.specs.declared.requests.Carried.{Carried}
use Rattle.mpi_request.specs.Messages.{empty_status}
use Rattle.mpi_request.specs.Requests.{Named, NullRequest, Active, NotActive, named, told_of, without_request}

-- How a call finds a request: it ends with a status, and is active no more; or it has a fault; or it is not ready. Of
-- several requests, `index` is the place of the one that ends.
pub data Completion : Type 0 where
  Ends : (index : ℤ) (status : Status) (requests : List Request) → Completion
  Breaks : (fault : Fault) → Completion
  NotReady : Completion

-- how a request is found by what it ends with
abbrev pub ended : ℤ → List Request → ℕ → Request → Option (Result Status Fault) → Completion
ended index requests number request None = NotReady
ended index requests number request (Some (Ok status)) = Ends index status (without_request requests number request)
ended index requests number request (Some (Err fault)) = Breaks fault

-- The same of what a word names. A null request ends at once with the empty status; a word that names neither a null nor
-- an active request is BadRequest.
abbrev pub completion_in : List Made → List Carried → List Request → ℤ → Named → Completion
completion_in postings carried requests index NullRequest = Ends index empty_status requests
completion_in postings carried requests index (Active number request) = ended index requests number request (told_of postings carried request.awaited)
completion_in postings carried requests index NotActive = Breaks BadRequest

-- how a call finds what one word names
abbrev pub completion : List Made → List Carried → List Request → Word → Completion
completion postings carried requests word = completion_in postings carried requests (pos 0) (named requests word)

-- MPI_REQUEST_NULL
abbrev pub is_null : Named → Bool
is_null NullRequest = true
is_null (Active number request) = false
is_null NotActive = false

-- BadRequest
abbrev pub is_not_active : Named → Bool
is_not_active NullRequest = false
is_not_active (Active number request) = false
is_not_active NotActive = true

-- an active request that is ready
abbrev pub is_ready : List Made → List Carried → Named → Bool
is_ready postings carried NullRequest = false
is_ready postings carried (Active number request) = is_some (told_of postings carried request.awaited)
is_ready postings carried NotActive = false

-- how the word at an index is found
abbrev pub completion_at : List Made → List Carried → List Request → ℕ → Option Word → Completion
completion_at postings carried requests index None = NotReady
completion_at postings carried requests index (Some word) = completion_in postings carried requests (pos index) (named requests word)

-- the same by the first index that is ready
abbrev pub any_at : List Made → List Carried → List Request → List Word → Option ℕ → Completion
any_at postings carried requests words None = NotReady
any_at postings carried requests words (Some index) = completion_at postings carried requests index (slice_get words index)

-- How a call finds several requests: BadRequest, where one word names neither a null nor an active request; the index -3,
-- MPI_UNDEFINED, and the empty status, where all are null; else the first one that is ready.
abbrev pub any_completion : List Made → List Carried → List Request → List Word → Completion
any_completion postings carried requests words =
    if list_any (λ word. is_not_active (named requests word)) words then Breaks BadRequest
    else if list_all (λ word. is_null (named requests word)) words then Ends (negsuc 2) empty_status requests
    else any_at postings carried requests words (position (λ word. is_ready postings carried (named requests word)) words)
