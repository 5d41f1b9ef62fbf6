-- When a node's state and entries are those of a run.
use Rattle.std.specs.Prelude.{◌≡◌, List}
use Rattle.mpc_base.specs.declared.journals.Entry.{Entry}
use Rattle.serial_model.specs.declared.records.Setup.{Setup}
use Rattle.serial_model.specs.Run.{run, order_of, world_of}
use Rattle.serial_node.specs.declared.state.State.{State}
use Rattle.serial_node.specs.Worlds.{world_seen}

-- the entries are a run of the setup, and the state is its world, but for the answers, which stand in the entries
pub record IsRun (setup : Setup) (entries : List Entry) (state : State) : Type 0 where
  pub legal : (run setup (order_of entries)).entries ≡ entries
  pub world : world_of setup entries ≡ world_seen (world_of setup entries).answers state
