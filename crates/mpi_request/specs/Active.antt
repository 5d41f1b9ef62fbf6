-- What contracts see of the requests of a run: those that are active (MPI 3.1, section 3.7).
use Rattle.std.specs.Prelude.{ℕ, ◌+◌, ◌-◌, ◌≤◌, Bool, false, not, ◌==◌, is_some, filter, List, [], ◌∷◌, ◌++◌, slice_index_or, Option, Some, None, Result, All}
use Rattle.std.specs.Option.{option_map, option_and_then}
use Rattle.std.specs.Ordering.{nat_cmp}
use Rattle.std.specs.Map.{lookup, keys_of, set_value}
use Rattle.std.specs.BTreeMap.{is_at}
use Rattle.mpc_values.specs.declared.limits.TheConstants.{MAX_GIVEN}
use Rattle.mpc_values.specs.declared.values.Word.{Word}
use Rattle.mpc_values.specs.declared.values.Word.TheVariants.{Undef, Int, Null, Ptr, Comm, Req}
use Rattle.mpc_values.specs.declared.answers.Status.{Status}
use Rattle.mpc_values.specs.declared.faults.Fault.{Fault}
use Rattle.block_table.specs.declared.rows.Span.{Span}
use Rattle.mpi_request.specs.declared.started.Started.{Started}
use Rattle.mpi_request.specs.declared.started.Open.{Open}
use Rattle.mpi_request.specs.Started.{span_of, told, opened}
use Rattle.mpi_request.specs.Owners.{PostOwners}

-- How many requests a task has started, and those that are active, each behind its number, by rising number.
pub record OwnRequests : Type 0 where
  pub made : ℕ
  pub active : List (ℕ × Open)

-- The requests of each task, and the request that each posting belongs to.
pub record Table : Type 0 where
  pub tasks : List OwnRequests
  pub owners : PostOwners

-- a task before its first request
abbrev pub no_own : OwnRequests
no_own = record { made = 0; active = [] }

-- the requests of a task
abbrev pub own_at : Table → ℕ → OwnRequests
own_at t task = slice_index_or t.tasks task no_own

-- the active request of a number
abbrev pub open_in : OwnRequests → ℕ → Option Open
open_in own number = lookup (is_at (nat_cmp number)) own.active

-- what the request of a number ends with, where it is active and ready
abbrev pub told_in : OwnRequests → ℕ → Option (Result Status Fault)
told_in own number = option_and_then told (open_in own number)

-- the places of the request of a number, where it is active and has any
abbrev pub span_in : OwnRequests → ℕ → Option Span
span_in own number = option_and_then (λ (o : Open). span_of o.what) (open_in own number)

-- whether the request of a number is ready, where it is active
abbrev pub ready_in : OwnRequests → ℕ → Option Bool
ready_in own number = option_map (λ o. is_some (told o)) (open_in own number)

-- the request is active and ready
abbrev pub is_ready_one : Option Open → Bool
is_ready_one None = false
is_ready_one (Some o) = is_some (told o)

-- the word names an active request that is ready
abbrev pub is_ready_in : OwnRequests → Word → Bool
is_ready_in own (Req number) = is_ready_one (open_in own number)
is_ready_in own Undef = false
is_ready_in own (Int z) = false
is_ready_in own Null = false
is_ready_in own (Ptr obj at) = false
is_ready_in own (Comm comm) = false

-- one request more, under the next number
abbrev pub with_start : OwnRequests → Started → OwnRequests
with_start own what = record { made = own.made + 1; active = own.active ++ (own.made + 1, opened what) ∷ [] }

-- the requests of other numbers
abbrev pub others : List (ℕ × Open) → ℕ → List (ℕ × Open)
others active number = filter (λ e. not (e.0 == number)) active

-- the request of a number is active no more
abbrev pub without : OwnRequests → ℕ → OwnRequests
without own number = record own { active = others own.active number }

-- the request that was started last is active no more, and its number is not given
abbrev pub without_last : OwnRequests → OwnRequests
without_last own = record { made = own.made - 1; active = others own.active own.made }

-- the same by the request
abbrev pub with_note : OwnRequests → ℕ → Option Open → Result Status Fault → OwnRequests
with_note own number None outcome = own
with_note own number (Some o) outcome = record own { active = set_value (is_at (nat_cmp number)) own.active (record o { outcome = Some outcome }) }

-- the match of the request of a number told this
abbrev pub with_outcome : OwnRequests → ℕ → Result Status Fault → OwnRequests
with_outcome own number outcome = with_note own number (open_in own number) outcome

-- each number was given
pub record IsCounted (own : OwnRequests) : Type 0 where
  pub few : own.made ≤ MAX_GIVEN
  pub given : All (λ number. number ≤ own.made) (keys_of own.active)
