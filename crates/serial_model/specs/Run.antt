-- Whole runs, and how they end.
use Rattle.std.specs.Prelude.{◌≡◌, ◌≢◌, ℕ, ℤ, pos, ◌+◌, Bool, false, ◌==◌, List, [], ◌∷◌, ◌++◌, map, if◌then◌else◌, Option, Some, None}
use Rattle.std.specs.List.{list_all}
use Rattle.std.specs.Ordering.{int_eq}
use Rattle.mpc_base.specs.declared.journals.Entry.{Entry}
use Rattle.mpc_base.specs.declared.journals.Journal.{Journal}
use Rattle.mpc_base.specs.declared.journals.End.{End}
use Rattle.mpc_base.specs.declared.journals.End.TheVariants as end
use Rattle.serial_model.specs.declared.records.Setup.{Setup}
use Rattle.serial_model.specs.declared.records.RunRecord.{RunRecord}
use Rattle.mpc_base.specs.declared.journals.RankEnd.{RankEnd}
use Rattle.mpc_base.specs.declared.journals.RankState.{RankState}
use Rattle.mpc_base.specs.declared.journals.RankState.TheVariants as rank
use Rattle.serial_model.specs.declared.lasts.Last.{Last}
use Rattle.serial_model.specs.World.{World, TaskState, start, tasks_of}
use Rattle.serial_model.specs.Go.{Step, Stays, Makes, go, has_finished}

-- What a run has made so far: its entries, and its world.
pub record Ran : Type 0 where
  pub entries : List Entry
  pub world : World

abbrev pub ran_step : Ran → Step → Ran
ran_step r Stays = r
ran_step r (Makes entry world) = record { entries = r.entries ++ entry ∷ []; world = world }

-- a run that goes on by one step of each of these tasks, one after the other
unfoldable pub run_from : Setup → Ran → List ℕ → Ran
run_from setup r [] = r
run_from setup r (task ∷ order) = run_from setup (ran_step r (go setup r.world task)) order

abbrev pub at_start : Setup → Ran
at_start setup = record { entries = []; world = start setup }

-- the run of a setup in which these tasks step, one after the other
abbrev pub run : Setup → List ℕ → Ran
run setup order = run_from setup (at_start setup) order

abbrev pub order_of : List Entry → List ℕ
order_of entries = map (λ entry. entry.task) entries

-- the world of the run in which the tasks step as these entries name them
abbrev pub world_of : Setup → List Entry → World
world_of setup entries = (run setup (order_of entries)).world

-- The journal is a run of the setup: it has the setup's number of tasks, and the run in which the tasks step as its
-- entries name them makes exactly these entries.
pub record LegalRun (setup : Setup) (journal : Journal) : Type 0 where
  pub tasks : journal.tasks ≡ tasks_of setup
  pub entries : (run setup (order_of journal.entries)).entries ≡ journal.entries

abbrev pub end_of : Option Last → Bool → End
end_of None all_finished = if all_finished then end.Finished else end.Going
end_of (Some last) all_finished = end.Fault last.task last.fault last.line

-- How a run stands in this world: it ended by a fault, or all tasks have finished, or it goes on.
abbrev pub ending : World → End
ending w = end_of w.last (list_all has_finished w.tasks)

abbrev pub unfinished_state : ℕ → Option Last → RankState
unfinished_state task None = rank.Stopped
unfinished_state task (Some last) = if last.task == task then rank.Fault last.fault last.line else rank.Stopped

abbrev pub rank_state : ℕ → Option Last → Option ℤ → RankState
rank_state task last (Some code) = rank.Exit code
rank_state task last None = unfinished_state task last

-- the ends of the tasks from a number on
abbrev pub rank_ends_from : ℕ → Option Last → List TaskState → List RankEnd
rank_ends_from task last [] = []
rank_ends_from task last (state ∷ more) =
    record { state = rank_state task last state.exit; output = state.output } ∷ rank_ends_from (task + 1) last more

-- each task's state and output in this world
abbrev pub rank_ends : World → List RankEnd
rank_ends w = rank_ends_from 0 w.last w.tasks

-- The record is that of a run of its setup, which has ended: its journal is legal, and its end and its ranks are those
-- of that run's world.
pub record RecordsRun (record' : RunRecord) : Type 0 where
  pub legal : LegalRun record'.setup record'.journal
  pub ended : ending (world_of record'.setup record'.journal.entries) ≡ record'.end
  pub ends : record'.end ≢ end.Going
  pub ranks : rank_ends (world_of record'.setup record'.journal.entries) ≡ record'.ranks

-- the rank ended with the exit code 0
abbrev pub is_zero_exit : RankState → Bool
is_zero_exit (rank.Exit code) = int_eq code (pos 0)
is_zero_exit rank.Stopped = false
is_zero_exit (rank.Blocked call line) = false
is_zero_exit (rank.Fault fault line) = false
is_zero_exit (rank.Aborted code line) = false

-- The exit status of a run that has ended: 0 where it finished and every exit code is 0, else 1; 2 for a fault, 3 where it
-- is stuck, 4 for an abort, 9 where a thread could not be started, 10 where a worker found no memory. A run that goes on has
-- none, and 0 is written for it.
abbrev pub status_of : End → List RankEnd → ℕ
status_of end.Going ranks = 0
status_of end.Finished ranks = if list_all (λ rank_end. is_zero_exit rank_end.state) ranks then 0 else 1
status_of (end.Fault task fault line) ranks = 2
status_of (end.Abort task code line) ranks = 4
status_of end.Stuck ranks = 3
status_of end.NoThread ranks = 9
status_of end.NoMemory ranks = 10
