-- Whole runs, and which journals are legal.
use Rattle.std.specs.Prelude.{◌≡◌, ℕ, List, [], ◌∷◌, ◌++◌, map}
use Rattle.mpc_base.specs.declared.journals.Entry.{Entry}
use Rattle.mpc_base.specs.declared.journals.Journal.{Journal}
use Rattle.run_model.specs.Setup.{Setup, tasks_of}
use Rattle.run_model.specs.World.{World}
use Rattle.run_model.specs.Start.{start}
use Rattle.run_model.specs.Steps.{Step, Stays, Makes}
use Rattle.run_model.specs.Go.{go}

-- What a run has made so far: its entries, and its world.
pub record Ran : Type 0 where
  pub entries : List Entry
  pub world : World

-- a run with one step more
abbrev pub ran_step : Ran → Step → Ran
ran_step r Stays = r
ran_step r (Makes entry world) = record { entries = r.entries ++ entry ∷ []; world = world }

-- a run that goes on by one step of each of these tasks, one after the other
unfoldable pub run_from : Setup → Ran → List ℕ → Ran
run_from setup r [] = r
run_from setup r (task ∷ order) = run_from setup (ran_step r (go setup r.world task)) order

-- a run before its first step
abbrev pub at_start : Setup → Ran
at_start setup = record { entries = []; world = start setup }

-- the run of a setup in which these tasks step, one after the other
abbrev pub run : Setup → List ℕ → Ran
run setup order = run_from setup (at_start setup) order

-- the tasks that entries name, in order
abbrev pub order_of : List Entry → List ℕ
order_of entries = map (λ (entry : Entry). entry.task) entries

-- the world of the run in which the tasks step as these entries name them
abbrev pub world_of : Setup → List Entry → World
world_of setup entries = (run setup (order_of entries)).world

-- The journal is a run of the setup: it has the setup's number of tasks, and the run in which the tasks step as its
-- entries name them makes exactly these entries.
pub record LegalRun (setup : Setup) (journal : Journal) : Type 0 where
  pub tasks : journal.tasks ≡ tasks_of setup
  pub entries : (run setup (order_of journal.entries)).entries ≡ journal.entries
