-- What a node is to those who call it.
use Rattle.std.specs.Prelude.{◌≡◌, ◌⊎◌, Bool, true, false, List, Option, Some, unwrap_or, if◌then◌else◌}
use Rattle.mpc_base.specs.declared.journals.Entry.{Entry}
use Rattle.mpc_base.specs.declared.journals.End.{End}
use Rattle.mpc_base.specs.declared.journals.End.TheVariants as end
use Rattle.run_model.specs.declared.records.Setup.{Setup}
use Rattle.run_model.specs.Setup.{setup_of}
use Rattle.run_model.specs.World.{World}
use Rattle.run_model.specs.Run.{world_of}
use Rattle.run_model.specs.Ending.{ending}

-- its setup, the entries of the run so far, and the end with which it was stopped, if it was
pub record Held : Type 0 where
  pub setup : Setup
  pub entries : List Entry
  pub stop : Option End

-- the world of its run
abbrev pub world_in : Held → World
world_in held = world_of (setup_of held.setup) held.entries

-- how it is: as its run is, or as it was stopped
abbrev pub end_of : Held → End
end_of held = unwrap_or held.stop (ending (setup_of held.setup) (world_in held))

-- the run goes on
abbrev pub is_going : End → Bool
is_going end.Going = true
is_going end.Finished = false
is_going (end.Fault task fault line) = false
is_going (end.Abort task code line) = false
is_going end.Stuck = false
is_going end.NoThread = false
is_going end.NoMemory = false

-- with which ends a node is stopped
abbrev pub IsStop : End → Type 0
IsStop e = (e ≡ end.NoThread) ⊎ (e ≡ end.NoMemory)

-- what a node is stopped with, after a call that stops it with an end: nothing changes where the run has ended
abbrev pub stop_after : Held → End → Option End
stop_after held e = if is_going (end_of held) then Some e else held.stop
