-- What the node's functions answer, in the words of the definitions.
use Rattle.std.specs.Prelude.{ℤ, pos, Bool, Result, Ok, Err, Option, Some, None, if◌then◌else◌}
use Rattle.mpc_values.specs.declared.answers.Answer.{Answer}
use Rattle.mpc_values.specs.declared.answers.Answer.TheVariants.{Done, Gives}
use Rattle.mpc_values.specs.declared.values.Word.TheVariants.{Int}
use Rattle.mpc_values.specs.declared.faults.Fault.{Fault}
use Rattle.mpc_values.specs.declared.faults.Fault.TheVariants.{NoFinalize, LeakedRequest, NotInit, BadComm}
use Rattle.mpi_comm.specs.declared.communicators.View.{View}
use Rattle.run_model.specs.declared.progress.Phase.{Phase}
use Rattle.run_model.specs.declared.progress.Phase.TheVariants.{After}
use Rattle.run_model.specs.Outcomes.{Partly, Gave, Broke, is_inside}

-- what a call that changes one part did, with the part that stands then
abbrev pub partly_seen : {A : Type 0} → A → Result Answer Fault → Partly A
partly_seen part (Ok answer) = Gave answer part
partly_seen part (Err fault) = Broke fault

-- the end of main
abbrev pub finished : Phase → ℤ → Result Answer Fault
finished phase code = if is_inside phase then Err NoFinalize else Ok (Gives (Int code))

-- MPI_Finalize of a task that has active requests, or none (MPI 3.1, section 8.7)
abbrev pub finalized : Phase → Bool → Partly Phase
finalized phase active = if is_inside phase then (if active then Broke LeakedRequest else Gave Done After) else Broke NotInit

-- what a call on a communicator answers a member
abbrev pub answered_in : (View → Answer) → Option View → Result Answer Fault
answered_in answer None = Err BadComm
answered_in answer (Some view) = Ok (answer view)

-- the same, or NotInit
abbrev pub answered : (View → Answer) → Phase → Option View → Result Answer Fault
answered answer phase view = if is_inside phase then answered_in answer view else Err NotInit

-- what such a call made of the view that it found, or its fault
abbrev pub answer_by : (View → Answer) → Result View Fault → Result Answer Fault
answer_by answer (Ok view) = Ok (answer view)
answer_by answer (Err fault) = Err fault

-- the answers of MPI_Comm_rank, MPI_Comm_size and MPI_Abort
abbrev pub rank_answer : View → Answer
rank_answer view = Gives (Int (pos view.rank))

abbrev pub size_answer : View → Answer
size_answer view = Gives (Int (pos view.size))

abbrev pub code_answer : ℤ → View → Answer
code_answer code view = Gives (Int code)
