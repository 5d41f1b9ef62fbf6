-- What a call comes to, and what calls have in common.
use Rattle.std.specs.Prelude.{ℕ, Bool, true, false, if◌then◌else◌, List, [], slice_get, slice_set, Option, Some, None}
use Rattle.mpc_values.specs.declared.values.Word.{Word}
use Rattle.mpc_values.specs.declared.answers.Answer.{Answer}
use Rattle.mpc_values.specs.declared.faults.Fault.{Fault}
use Rattle.mpc_values.specs.declared.faults.Fault.TheVariants.{NotInit, BadComm}
use Rattle.mpi_request.specs.declared.requests.Request.{Request}
use Rattle.mpi_comm.specs.Communicators.{Group, group_of}
use Rattle.run_model.specs.declared.progress.Phase.{Phase}
use Rattle.run_model.specs.declared.progress.Phase.TheVariants.{Before, Inside, After}
use Rattle.run_model.specs.World.{TaskState, Core}
use Rattle.run_model.specs.Start.{first_task}

-- A call of a task is answered, and the core is another one; or it has a fault; or it has to wait, and nothing changes.
pub data Outcome : Type 0 where
  Does : (answer : Answer) (core : Core) → Outcome
  Fails : (fault : Fault) → Outcome
  Waits : Outcome

-- What a call does that changes one part of the core at most: an answer and the part after it, or a fault.
pub data Partly (A : Type 0) : Type 0 where
  Gave : (answer : Answer) (part : A) → Partly A
  Broke : (fault : Fault) → Partly A

-- the outcome of such a call, by the core in which the part is this one
abbrev pub on_part : {A : Type 0} → (A → Core) → Partly A → Outcome
on_part core_with (Gave answer part) = Does answer (core_with part)
on_part core_with (Broke fault) = Fails fault

-- the same by position
abbrev pub state_at : Option TaskState → TaskState
state_at None = first_task
state_at (Some state) = state

-- what the core keeps of a task
abbrev pub state_of : Core → ℕ → TaskState
state_of core task = state_at (slice_get core.tasks task)

-- the core in which a task is in this state
abbrev pub with_state : Core → ℕ → TaskState → Core
with_state core task state = record core { tasks = slice_set core.tasks task state }

-- the same by position
abbrev pub requests_at : Option (List Request) → List Request
requests_at None = []
requests_at (Some requests) = requests

-- a task's requests
abbrev pub requests_of : Core → ℕ → List Request
requests_of core task = requests_at (slice_get core.requests task)

-- the core in which a task has these requests
abbrev pub with_requests : Core → ℕ → List Request → Core
with_requests core task requests = record core { requests = slice_set core.requests task requests }

-- after MPI_Init and before MPI_Finalize
abbrev pub is_inside : Phase → Bool
is_inside Before = false
is_inside Inside = true
is_inside After = false

-- a call between MPI_Init and MPI_Finalize, or NotInit (MPI 3.1, section 8.7)
abbrev pub inside_mpi : Core → ℕ → Outcome → Outcome
inside_mpi core task outcome = if is_inside (state_of core task).phase then outcome else Fails NotInit

-- a call by the group that was found, or BadComm
abbrev pub in_found : Option Group → (Group → Outcome) → Outcome
in_found None outcome = Fails BadComm
in_found (Some group) outcome = outcome group

-- A call on a communicator: NotInit, then BadComm, where the word names no living communicator of the task, then what
-- the call comes to for its group.
abbrev pub in_group : Core → ℕ → Word → (Group → Outcome) → Outcome
in_group core task word outcome = inside_mpi core task (in_found (group_of core.comms task word) outcome)
