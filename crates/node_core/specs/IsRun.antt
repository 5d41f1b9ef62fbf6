-- When a node's state and entries are those of a run.
use Rattle.std.specs.Prelude.{◌≡◌, List, Option, Some, None}
use Rattle.mpc_base.specs.declared.journals.Entry.{Entry}
use Rattle.mpc_base.specs.declared.journals.End.{End}
use Rattle.mpc_base.specs.declared.journals.End.TheVariants.{Going}
use Rattle.run_model.specs.Setup.{Setup}
use Rattle.run_model.specs.Valid.{Valid}
use Rattle.run_model.specs.Ending.{ending}
use Rattle.run_model.specs.Run.{run, order_of, world_of}
use Rattle.node_core.specs.declared.parts.State.{State}
use Rattle.node_core.specs.Stands.{Stands, IsSpaceOf}
use Rattle.node_core.specs.Steps.{AllFit}
use Rattle.node_core.specs.Held.{IsStop}

-- a node was stopped only while its run went on
abbrev pub StopsGoing : Option End → End → Type 0
StopsGoing None end = Unit {0}
StopsGoing (Some stop) end = IsStop stop × (end ≡ Going)

-- the entries are a run of the setup, the state stands for its world, and the end that is kept is that of the run
pub record IsRun (setup : Setup) (entries : List Entry) (state : State) (end : End) (stop : Option End) : Type 0 where
  pub valid : Valid setup
  pub legal : (run setup (order_of entries)).entries ≡ entries
  pub stands : Stands (world_of setup entries) state
  pub set : IsSpaceOf setup state.shared.space
  pub noted : AllFit state.tasks.items
  pub ended : end ≡ ending setup (world_of setup entries)
  pub stopped : StopsGoing stop end
