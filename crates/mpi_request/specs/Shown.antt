-- How the requests that are kept stand for those of the definitions. A row's key stands for an object of an owner; which
-- one it is, is told by those who keep the rows.
use Rattle.std.specs.Prelude.{◌≡◌, ℕ, ◌≤◌, Bool, true, false, is_some, if◌then◌else◌, List, map, filter, filter_map, flat_map, length, Option, Some, None, Result}
use Rattle.std.specs.Option.{option_map, option_and_then}
use Rattle.std.specs.List.{enumerate_from}
use Rattle.mpc_values.specs.declared.values.Obj.{Obj}
use Rattle.mpc_values.specs.declared.owners.Owner.{Owner}
use Rattle.mpc_values.specs.declared.answers.Status.{Status}
use Rattle.mpc_values.specs.declared.faults.Fault.{Fault}
use Rattle.memory_model.specs.declared.kinds.Span.{Span}
use Rattle.block_table.specs.declared.rows.Span as row
use Rattle.mpi_request.specs.declared.requests.Awaited.{Awaited}
use Rattle.mpi_request.specs.declared.requests.Awaited.TheVariants.{Nothing, Posting}
use Rattle.mpi_request.specs.declared.requests.Request.{Request}
use Rattle.mpi_request.specs.declared.started.Started.{Started}
use Rattle.mpi_request.specs.declared.started.Started.TheVariants.{AtOnce, Send, Recv}
use Rattle.mpi_request.specs.declared.started.Open.{Open}
use Rattle.mpi_request.specs.declared.owners.RequestId.{RequestId}
use Rattle.mpi_request.specs.Requests.{Named, NullRequest, Active, NotActive}
use Rattle.mpi_request.specs.Pending.{pending_places}
use Rattle.mpi_request.specs.Started.{post_of, told}
use Rattle.mpi_request.specs.Owners.{owner_in}
use Rattle.mpi_request.specs.Active.{OwnRequests, Table, own_at, open_in}
use Rattle.mpi_request.specs.Steps.{id_of}

-- the object that the row of each key is of, with its owner
abbrev pub Names : Type 0
Names = ℕ → Owner × Obj

-- What an active request awaits, and which places it has as a send and as a receive.
pub record Seen : Type 0 where
  pub awaited : Awaited
  pub sent : Option Span
  pub received : Option Span

-- an active request of the definitions
abbrev pub seen_request : Request → Seen
seen_request r = record { awaited = r.awaited; sent = pending_places true r; received = pending_places false r }

-- the places of a span of rows
abbrev pub places_of : Names → row.Span → Span
places_of names s = record { owner = (names s.key).0; obj = (names s.key).1; at = s.at; count = s.len }

-- what a request was started for
abbrev pub seen_started : Names → Started → Seen
seen_started names (AtOnce status) = record { awaited = Nothing status; sent = None; received = None }
seen_started names (Send post span eager) = record { awaited = Posting post; sent = option_map (places_of names) span; received = None }
seen_started names (Recv post span) = record { awaited = Posting post; sent = None; received = option_map (places_of names) span }

-- the places of one side
abbrev pub side : Bool → Seen → Option Span
side send s = if send then s.sent else s.received

-- How many requests a task has started, and the active ones, each behind its number.
pub record OwnSeen : Type 0 where
  pub made : ℕ
  pub active : List (ℕ × Seen)

-- the same of several, each behind its number
abbrev pub seen_listed : List (ℕ × Request) → List (ℕ × Seen)
seen_listed es = map (λ (e : ℕ × Request). (e.0, seen_request e.1)) es

abbrev pub seen_opens : Names → List (ℕ × Open) → List (ℕ × Seen)
seen_opens names es = map (λ (e : ℕ × Open). (e.0, seen_started names e.1.what)) es

-- the requests of a task by the definitions
abbrev pub requests_seen : List Request → OwnSeen
requests_seen requests = record {
  made = length requests;
  active = seen_listed (filter (λ (e : ℕ × Request). e.1.active) (enumerate_from 1 requests));
}

-- the same as they are kept
abbrev pub own_seen : Names → OwnRequests → OwnSeen
own_seen names own = record { made = own.made; active = seen_opens names own.active }

-- the posting that an active request awaits
abbrev pub awaited_by : Table → RequestId → Option ℕ
awaited_by t id = option_and_then (λ (o : Open). post_of o.what) (open_in (own_at t id.task) id.number)

-- what a request ends with, by what it awaits, once that is told
abbrev pub Tells : Type 0
Tells = Awaited → Option (Result Status Fault)

-- The requests that are kept stand for these requests of all tasks. What a request awaits tells `tells`, and so many
-- postings were made.
pub record Shows (names : Names) (tells : Tells) (posts : ℕ) (requests : List (List Request)) (t : Table) : Type 0 where
  pub tasks : map (own_seen names) t.tasks ≡ map requests_seen requests
  pub tell : (task number : ℕ) (o : Open) → open_in (own_at t task) number ≡ Some o → told o ≡ tells (seen_started names o.what).awaited
  pub owned : (task number post : ℕ) (o : Open) → open_in (own_at t task) number ≡ Some o → post_of o.what ≡ Some post → owner_in t.owners post ≡ Some (id_of task number)
  pub posted : (task number post : ℕ) (o : Open) → open_in (own_at t task) number ≡ Some o → post_of o.what ≡ Some post → post ≤ posts
  pub named : (post : ℕ) (id : RequestId) → owner_in t.owners post ≡ Some id → awaited_by t id ≡ Some post

-- Nothing is told anew of what no posting is awaited for, nor of the postings that were made before.
pub record TellsMore (before after : Tells) (posts : ℕ) : Type 0 where
  pub nothing : (status : Status) → after (Nothing status) ≡ before (Nothing status)
  pub earlier : (post : ℕ) → post ≤ posts → after (Posting post) ≡ before (Posting post)

-- the same of all but one posting
pub record TellsOf (before after : Tells) (post : ℕ) : Type 0 where
  pub nothing : (status : Status) → after (Nothing status) ≡ before (Nothing status)
  pub others : (other : ℕ) → (other ≡ post → ⊥) → after (Posting other) ≡ before (Posting other)

-- whether what a number names is ready, where it is active
abbrev pub ready_by : Tells → Named → Option Bool
ready_by tells NullRequest = None
ready_by tells (Active number request) = Some (is_some (tells request.awaited))
ready_by tells NotActive = None

-- the places of all active requests of sends, or else of receives, as they are kept
abbrev pub kept_places : Names → Bool → Table → List Span
kept_places names send t = flat_map (λ (own : OwnRequests). filter_map (λ (e : ℕ × Open). side send (seen_started names e.1.what)) own.active) t.tasks
