-- Which places the active requests have marked (MPI 3.1, sections 3.7.2 and 3.7.3).
use Rattle.std.specs.Prelude.{ℕ, ◌+◌, ◌&&◌, not, Bool, true, false, nat_le, nat_lt, if◌then◌else◌, List, flat_map, filter_map, Option, None}
use Rattle.std.specs.List.{list_any}
use Rattle.mpc_values.specs.declared.values.Obj.{Obj}
use Rattle.mpc_values.specs.declared.owners.Owner.{Owner}
use Rattle.memory_model.specs.declared.kinds.Span.{Span}
use Rattle.memory_model.specs.Memory.{is_same_object}
use Rattle.memory_model.specs.Marks.{Marks}
use Rattle.mpi_request.specs.declared.requests.Request.{Request}

-- the request is one of a send, or else of a receive
abbrev pub is_of_side : Bool → Request → Bool
is_of_side send request = if send then request.send else not request.send

-- the places of a request that is an active one, of a send or else of a receive
abbrev pub pending_places : Bool → Request → Option Span
pending_places send request = if request.active && is_of_side send request then request.places else None

-- the places of all active requests of sends, or else of receives, whichever task's they are
abbrev pub all_pending : List (List Request) → Bool → List Span
all_pending requests send = flat_map (λ (own : List Request). filter_map (pending_places send) own) requests

-- the place is one of these
abbrev pub has_place : Owner → Obj → ℕ → Span → Bool
has_place owner obj place span =
    is_same_object owner obj span.owner span.obj && (nat_le span.at place && nat_lt place (span.at + span.count))

-- A place has a send mark for each active request of a send whose range has it, and a receive mark where the range of
-- an active request of a receive has it. The requests are those of all tasks.
abbrev pub marks_of : List (List Request) → Marks
marks_of requests = record {
  sent = λ owner obj place. list_any (has_place owner obj place) (all_pending requests true);
  received = λ owner obj place. list_any (has_place owner obj place) (all_pending requests false);
}
