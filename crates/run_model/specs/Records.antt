-- When what is handed back is that of a run which has ended.
use Rattle.std.specs.Prelude.{◌≡◌, ◌≢◌, ◌⊎◌, List, Option, Some, None}
use Rattle.mpc_values.specs.declared.values.Word.{Word}
use Rattle.mpc_base.specs.declared.journals.End.{End}
use Rattle.mpc_base.specs.declared.journals.End.TheVariants as end
use Rattle.mpc_base.specs.declared.journals.MapRow.{MapRow}
use Rattle.memory_model.specs.Memory.{Memory}
use Rattle.run_model.specs.declared.records.RunRecord.{RunRecord}
use Rattle.run_model.specs.Setup.{setup_of}
use Rattle.run_model.specs.World.{World}
use Rattle.run_model.specs.Run.{world_of, LegalRun}
use Rattle.run_model.specs.Ending.{ending}
use Rattle.run_model.specs.Ranks.{rank_ends}
use Rattle.run_model.specs.Orderly.{Orderly}
use Rattle.run_model.specs.Maps.{MapAgrees}

-- a run whose world ends so is handed back with this end: its own, or that a thread was not started, while it went on
abbrev pub EndsAs : End → End → Type 0
EndsAs made kept = ((kept ≡ made) × (made ≢ end.Going)) ⊎ ((kept ≡ end.NoThread) × (made ≡ end.Going))

-- the map and the words that were handed back agree with these memories
abbrev pub MapsAgree : Option (List MapRow) → Option (List Word) → Memory → Type 0
MapsAgree (Some rows) (Some words) m = MapAgrees rows words m
MapsAgree None words m = ⊥
MapsAgree (Some rows) None m = ⊥

-- the world of the run that a record tells of
abbrev pub world_in : RunRecord → World
world_in kept = world_of (setup_of kept.setup) kept.journal.entries

-- The record is that of a run of separate processes which share only the declared variables: the journal is a legal run of the
-- setup, the end and the ranks are those of its world, its messages are orderly, and where all finished the one map stands
-- for the memories of all.
pub record RecordsRun (kept : RunRecord) : Type 0 where
  pub legal : LegalRun (setup_of kept.setup) kept.journal
  pub ended : EndsAs (ending (setup_of kept.setup) (world_in kept)) kept.end
  pub ranks : rank_ends (world_in kept) kept.end ≡ kept.ranks
  pub orderly : Orderly (setup_of kept.setup) kept.journal
  pub map : kept.end ≡ end.Finished → MapsAgree kept.map kept.words (world_in kept).core.memory
