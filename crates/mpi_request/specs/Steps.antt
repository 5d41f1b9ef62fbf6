-- What each call makes of the requests of a run.
use Rattle.std.specs.Prelude.{ℕ, ◌+◌, [], replicate, slice_set, Option, Some, None, Result}
use Rattle.mpc_values.specs.declared.answers.Status.{Status}
use Rattle.mpc_values.specs.declared.faults.Fault.{Fault}
use Rattle.mpi_request.specs.declared.started.Started.{Started}
use Rattle.mpi_request.specs.declared.started.Open.{Open}
use Rattle.mpi_request.specs.declared.owners.RequestId.{RequestId}
use Rattle.mpi_request.specs.Started.{post_of}
use Rattle.mpi_request.specs.Owners.{PostOwners, owner_in, with_owner, without_owner}
use Rattle.mpi_request.specs.Active.{Table, no_own, own_at, open_in, with_start, without, without_last, with_outcome}

-- so many tasks before their first requests
abbrev pub no_requests : ℕ → Table
no_requests tasks = record { tasks = replicate tasks no_own; owners = [] }

-- a request by its task and number
abbrev pub id_of : ℕ → ℕ → RequestId
id_of task number = record { task = task; number = number }

-- the requests after one of a task was started
unfoldable pub started : Table → ℕ → Started → Table
started t task what = record {
  tasks = slice_set t.tasks task (with_start (own_at t task) what);
  owners = with_owner t.owners (post_of what) (id_of task ((own_at t task).made + 1));
}

-- the postings after a request, where it was active, is so no more
abbrev pub released : PostOwners → Option Open → RequestId → PostOwners
released owners None id = owners
released owners (Some o) id = without_owner owners (post_of o.what) id

-- the requests after the last start of a task was taken back
unfoldable pub taken_back : Table → ℕ → Table
taken_back t task = record {
  tasks = slice_set t.tasks task (without_last (own_at t task));
  owners = released t.owners (open_in (own_at t task) (own_at t task).made) (id_of task (own_at t task).made);
}

-- the requests after one of a task has ended
unfoldable pub finished : Table → ℕ → ℕ → Table
finished t task number = record {
  tasks = slice_set t.tasks task (without (own_at t task) number);
  owners = released t.owners (open_in (own_at t task) number) (id_of task number);
}

-- the same by the request that the posting belongs to
abbrev pub matched_of : Table → Option RequestId → Result Status Fault → Table
matched_of t None outcome = t
matched_of t (Some id) outcome = record t { tasks = slice_set t.tasks id.task (with_outcome (own_at t id.task) id.number outcome) }

-- the requests after a posting was matched, and its match told this
unfoldable pub matched : Table → ℕ → Result Status Fault → Table
matched t post outcome = matched_of t (owner_in t.owners post) outcome
