-- Which calls are built, and which calls may wait.
use Rattle.std.specs.Prelude.{◌≡◌, Bool, true, false, Result, Ok, Err}
use Rattle.mpc_values.specs.declared.calls.Call.{Call}
use Rattle.mpc_values.specs.declared.calls.Call.TheVariants as call
use Rattle.mpc_values.specs.declared.answers.Answer.{Answer}
use Rattle.mpc_values.specs.declared.faults.Fault.{Fault}
use Rattle.mpc_base.specs.declared.journals.Out.{Out}
use Rattle.mpc_base.specs.declared.journals.Out.TheVariants.{Waits, Did, Broke}
use Rattle.mem_space.specs.Places.{IsAsBefore}
use Rattle.node_core.specs.declared.parts.OwnPart.{OwnPart}
use Rattle.node_core.specs.declared.parts.Shared.{Shared}

-- the calls that are built
abbrev pub is_built : Call → Bool
is_built (call.Load at) = true
is_built (call.Store at word) = true
is_built (call.New len) = true
is_built (call.Drop obj) = true
is_built (call.Malloc n) = true
is_built (call.Free at) = true
is_built (call.Print text) = true
is_built (call.Broke fault) = true
is_built (call.Finish code) = true
is_built call.Init = true
is_built call.Finalize = true
is_built (call.Abort comm code) = true
is_built (call.Rank comm) = true
is_built (call.Size comm) = true
is_built other = false

-- The call is one of those that are built. Later pieces widen it, until it is gone.
abbrev pub IsBuilt : Call → Type 0
IsBuilt call = is_built call ≡ true

-- the calls that may wait
abbrev pub is_waiting : Call → Bool
is_waiting (call.Complete req) = true
is_waiting (call.AnyOf reqs) = true
is_waiting (call.Probe peer tag comm) = true
is_waiting (call.Leave comm) = true
is_waiting (call.HlsWait construct) = true
is_waiting (call.HlsBarWait construct) = true
is_waiting other = false

-- what became of a call that does not wait
abbrev pub out_of : Result Answer Fault → Out
out_of (Ok answer) = Did answer
out_of (Err fault) = Broke fault

-- a call that waits is one that may
abbrev pub OnWaits : Call → Out → Type 0
OnWaits call Waits = is_waiting call ≡ true
OnWaits call (Did answer) = Unit {0}
OnWaits call (Broke fault) = Unit {0}

-- nothing that contracts see of a task's own part has changed
pub record SameOwn (old new : OwnPart) : Type 0 where
  pub output : new.output.items ≡ old.output.items
  pub phase : new.phase ≡ old.phase

-- nothing that contracts see of what tasks share has changed
pub record SameShared (old new : Shared) : Type 0 where
  pub space : IsAsBefore old.space new.space
  pub comms : new.matching.comms ≡ old.matching.comms
