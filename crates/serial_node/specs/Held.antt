-- What a node is to those who call it.
use Rattle.std.specs.Prelude.{List}
use Rattle.mpc_base.specs.declared.journals.Entry.{Entry}
use Rattle.serial_model.specs.declared.records.Setup.{Setup}

-- its setup, and the entries of the run so far
pub record Held : Type 0 where
  pub setup : Setup
  pub entries : List Entry
