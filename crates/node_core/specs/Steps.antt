-- What a step of a task leaves.
use Rattle.std.specs.Prelude.{◌≡◌, ℕ, true, nat_le, if◌then◌else◌, List, slice_get, Option, Some, None}
use Rattle.mpc_values.specs.declared.calls.Call.{Call}
use Rattle.mpc_values.specs.declared.faults.Fault.TheVariants.{Calls}
use Rattle.mpc_base.specs.declared.journals.Out.{Out}
use Rattle.run_model.specs.declared.progress.Ask.{Ask}
use Rattle.run_model.specs.Setup.{Setup}
use Rattle.run_model.specs.World.{Core, World}
use Rattle.run_model.specs.Outcomes.{Outcome, Fails}
use Rattle.run_model.specs.Act.{act}
use Rattle.run_model.specs.Steps.{Makes, visited, entry_of}
use Rattle.node_core.specs.declared.parts.OwnPart.{OwnPart}
use Rattle.node_core.specs.declared.parts.TaskPart.{TaskPart}
use Rattle.node_core.specs.declared.parts.Shared.{Shared}
use Rattle.node_core.specs.declared.parts.State.{State}
use Rattle.node_core.specs.Built.{IsBuilt, is_waiting, SameOwn, SameShared}
use Rattle.node_core.specs.Each.{Each}
use Rattle.node_core.specs.Stands.{Serves, Follows, Stands}

-- what a call comes to of a task that has so many entries
abbrev pub tried_at : Setup → Core → ℕ → ℕ → Call → Outcome
tried_at setup core entries task call = if nat_le setup.calls entries then Fails Calls else act setup core task call

-- what a task's call leaves of the parts is what it comes to in every core that they stand for
abbrev pub Tried : Setup → ℕ → ℕ → Call → Shared → OwnPart → Shared → OwnPart → Out → Type 0
Tried setup entries task call shared own shared' own' out =
    (core : Core) → Serves core task shared own → Follows core task shared' own' out (tried_at setup core entries task call)

-- the waiting call that a visit would note
abbrev pub note_of : Call → ℕ → Option Ask
note_of call line = if is_waiting call then Some (record { call = call; line = line }) else None

-- nothing that contracts see of a task's part has changed
pub record SamePart (old new : TaskPart) : Type 0 where
  pub own : SameOwn old.own new.own
  pub course : new.course ≡ old.course

-- nothing that contracts see of a state has changed
pub record SameState (old new : State) : Type 0 where
  pub tasks : Each SamePart old.tasks.items new.tasks.items
  pub shared : SameShared old.shared new.shared
  pub last : new.last ≡ old.last

-- a visit of the task makes this entry, and the state stands for the world after it
abbrev pub Stepped : Setup → World → ℕ → Call → ℕ → Out → State → Type 0
Stepped setup w task call line out s = (after : World) × (visited setup w task call line ≡ Makes (entry_of task call line out) after) × Stands after s

-- a noted call is one that may wait, and is built
abbrev pub NotedFits : Option Ask → Type 0
NotedFits None = Unit {0}
NotedFits (Some ask) = (is_waiting ask.call ≡ true) × IsBuilt ask.call

-- the same of all tasks
abbrev pub AllFit : List TaskPart → Type 0
AllFit parts = (i : ℕ) (part : TaskPart) → slice_get parts i ≡ Some part → NotedFits part.course.noted
