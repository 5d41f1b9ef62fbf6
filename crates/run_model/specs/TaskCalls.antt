-- What the calls of a task about itself come to: print, finish, init, finalize, abort, rank and size.
use Rattle.std.specs.Prelude.{ℕ, ℤ, pos, ◌+◌, Bool, if◌then◌else◌, List, ◌++◌, length, nat_le}
use Rattle.std.specs.List.{list_any}
use Rattle.mpc_values.specs.declared.values.Word.{Word}
use Rattle.mpc_values.specs.declared.values.Word.TheVariants.{Int}
use Rattle.mpc_values.specs.declared.answers.Answer.TheVariants.{Done, Gives}
use Rattle.mpc_values.specs.declared.faults.Fault.TheVariants.{InitTwice, NoFinalize, LeakedRequest, OutputFull}
use Rattle.mpc_values.specs.declared.limits.TheConstants.{MAX_OUTPUT_BYTES}
use Rattle.mpi_request.specs.declared.requests.Request.{Request}
use Rattle.mpi_comm.specs.Communicators.{size_of}
use Rattle.run_model.specs.declared.progress.Phase.{Phase}
use Rattle.run_model.specs.declared.progress.Phase.TheVariants.{Before, Inside, After}
use Rattle.run_model.specs.World.{Core}
use Rattle.run_model.specs.Outcomes.{Outcome, Does, Fails, Partly, Gave, Broke, on_part, state_of, with_state, requests_of, is_inside, inside_mpi, in_group}

-- what a print does to a task's output
abbrev pub printed : List ℕ → List ℕ → Partly (List ℕ)
printed output text =
    if nat_le (length output + length text) MAX_OUTPUT_BYTES then Gave (Gives (Int (pos (length text)))) (output ++ text) else Broke OutputFull

-- A print puts its bytes after the task's output and gives their number, or is OutputFull.
unfoldable pub print : Core → ℕ → List ℕ → Outcome
print core task text =
    on_part (λ output. with_state core task (record (state_of core task) { output = output })) (printed (state_of core task).output text)

-- The end of main, or NoFinalize, where the task is after MPI_Init and not after MPI_Finalize.
unfoldable pub finish : Core → ℕ → ℤ → Outcome
finish core task code = if is_inside (state_of core task).phase then Fails NoFinalize else Does (Gives (Int code)) core

-- the core in which the task is so far with MPI
abbrev pub with_phase : Core → ℕ → Phase → Core
with_phase core task phase = with_state core task (record (state_of core task) { phase = phase })

-- a task's first MPI_Init, or InitTwice (MPI 3.1, section 8.7)
abbrev pub begun : Phase → Partly Phase
begun Before = Gave Done Inside
begun Inside = Broke InitTwice
begun After = Broke InitTwice

-- MPI_Init
unfoldable pub init : Core → ℕ → Outcome
init core task = on_part (with_phase core task) (begun (state_of core task).phase)

-- one of these requests is active
abbrev pub has_active : List Request → Bool
has_active requests = list_any (λ (request : Request). request.active) requests

-- MPI_Finalize (MPI 3.1, section 8.7): NotInit, then LeakedRequest, where the task has an active request.
unfoldable pub finalize : Core → ℕ → Outcome
finalize core task =
    inside_mpi core task (if has_active (requests_of core task) then Fails LeakedRequest else Does Done (with_phase core task After))

-- MPI_Abort (MPI 3.1, section 8.7). That it ends the run is in the log.
unfoldable pub abort : Core → ℕ → Word → ℤ → Outcome
abort core task comm code = in_group core task comm (λ group. Does (Gives (Int code)) core)

-- MPI_Comm_rank (MPI 3.1, section 6.4.1)
unfoldable pub rank : Core → ℕ → Word → Outcome
rank core task comm = in_group core task comm (λ group. Does (Gives (Int (pos group.rank))) core)

-- MPI_Comm_size (MPI 3.1, section 6.4.1)
unfoldable pub size : Core → ℕ → Word → Outcome
size core task comm = in_group core task comm (λ group. Does (Gives (Int (pos (size_of group)))) core)
