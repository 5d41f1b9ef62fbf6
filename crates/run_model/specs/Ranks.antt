-- How the ranks of a run are when it has ended, and its exit status.
use Rattle.std.specs.Prelude.{ℕ, ℤ, pos, ◌+◌, ◌==◌, Bool, false, if◌then◌else◌, List, [], ◌∷◌, Option, Some, None}
use Rattle.std.specs.List.{list_all, zip}
use Rattle.std.specs.Ordering.{int_eq}
use Rattle.mpc_values.specs.CallTable.{call_number}
use Rattle.mpc_base.specs.declared.journals.End.{End}
use Rattle.mpc_base.specs.declared.journals.End.TheVariants as end
use Rattle.mpc_base.specs.declared.journals.RankState.{RankState}
use Rattle.mpc_base.specs.declared.journals.RankState.TheVariants as rank
use Rattle.mpc_base.specs.declared.journals.RankEnd.{RankEnd}
use Rattle.run_model.specs.declared.progress.Ask.{Ask}
use Rattle.run_model.specs.declared.progress.Course.{Course}
use Rattle.run_model.specs.World.{TaskState, World}

-- a rank that is blocked at its noted call
abbrev pub blocked_at : Option Ask → RankState
blocked_at None = rank.Stopped
blocked_at (Some ask) = rank.Blocked (call_number ask.call) ask.line

-- a rank that has not finished, by the end of the run
abbrev pub unfinished_state : ℕ → Option Ask → End → RankState
unfinished_state task noted (end.Fault who fault line) = if who == task then rank.Fault fault line else rank.Stopped
unfinished_state task noted (end.Abort who code line) = if who == task then rank.Aborted code line else rank.Stopped
unfinished_state task noted end.Stuck = blocked_at noted
unfinished_state task noted end.Going = rank.Stopped
unfinished_state task noted end.Finished = rank.Stopped
unfinished_state task noted end.NoThread = rank.Stopped
unfinished_state task noted end.NoMemory = rank.Stopped

-- a rank by its exit code and the end of the run
abbrev pub rank_state : ℕ → Course → Option ℤ → End → RankState
rank_state task course (Some code) e = rank.Exit code
rank_state task course None e = unfinished_state task course.noted e

-- the same of the ranks from a number on, each with all its output
abbrev pub rank_ends_from : ℕ → End → List (Course × TaskState) → List RankEnd
rank_ends_from task e [] = []
rank_ends_from task e (both ∷ more) =
    record { state = rank_state task both.0 both.0.exit e; output = both.1.output } ∷ rank_ends_from (task + 1) e more

-- each rank's state and output in a world, where the run ended so
abbrev pub rank_ends : World → End → List RankEnd
rank_ends w e = rank_ends_from 0 e (zip w.log.courses w.core.tasks)

-- the rank ended with the exit code 0
abbrev pub is_zero_exit : RankState → Bool
is_zero_exit (rank.Exit code) = int_eq code (pos 0)
is_zero_exit rank.Stopped = false
is_zero_exit (rank.Blocked call line) = false
is_zero_exit (rank.Fault fault line) = false
is_zero_exit (rank.Aborted code line) = false

-- The exit status of a run that ended so: 0 where it finished and every exit code is 0, else 1; 2 for a fault, 3 where it
-- is stuck, 4 for an abort, and 9 where a thread was not started. A run that goes on, or found no memory, has none.
abbrev pub status_of : End → List RankEnd → Option ℕ
status_of end.Finished ranks = Some (if list_all (λ (r : RankEnd). is_zero_exit r.state) ranks then 0 else 1)
status_of (end.Fault task fault line) ranks = Some 2
status_of end.Stuck ranks = Some 3
status_of (end.Abort task code line) ranks = Some 4
status_of end.NoThread ranks = Some 9
status_of end.Going ranks = None
status_of end.NoMemory ranks = None
