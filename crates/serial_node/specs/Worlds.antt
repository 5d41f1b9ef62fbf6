-- The state of a node, as the world of the model.
use Rattle.std.specs.Prelude.{◌≡◌, ℕ, List, [], ◌∷◌, ◌++◌, slice_get, slice_set, nat_le, if◌then◌else◌, Result, Ok, Err}
use Rattle.mpc_values.specs.declared.calls.Call.{Call}
use Rattle.mpc_values.specs.declared.answers.Answer.{Answer}
use Rattle.mpc_base.specs.declared.journals.Out.{Out}
use Rattle.mpc_base.specs.declared.journals.Out.TheVariants.{Waits, Did, Broke}
use Rattle.mpc_values.specs.declared.faults.Fault.{Fault}
use Rattle.mpc_values.specs.declared.faults.Fault.TheVariants.{Calls}
use Rattle.serial_model.specs.World.{World, TaskState}
use Rattle.serial_model.specs.Go.{Act, Does, Fails, act, answers_at, calls_limit}
use Rattle.serial_node.specs.Seen.{task_seen}
use Rattle.serial_node.specs.declared.state.State.{State}

abbrev pub state_of : State → TaskState
state_of s = task_seen s.places.made s.output.items s.exit

-- the world of a state, with these answers
abbrev pub world_seen : List (List Answer) → State → World
world_seen answers s = record { memory = s.places.memory; tasks = state_of s ∷ []; counts = s.count ∷ []; answers = answers; last = s.last }

abbrev pub answers_after : List (List Answer) → Out → List (List Answer)
answers_after answers (Did answer) = slice_set answers 0 (answers_at (slice_get answers 0) ++ answer ∷ [])
answers_after answers (Broke fault) = answers
answers_after answers Waits = answers

-- what became of a call, with what stands then
abbrev pub outcome : State → Result Answer Fault → Act
outcome s (Ok answer) = Does answer s.places.memory (state_of s)
outcome s (Err fault) = Fails fault

-- what a call does of a task that has so many entries
abbrev pub tried : ℕ → State → Call → Act
tried count s call = if nat_le calls_limit count then Fails Calls else act 0 s.places.memory (state_of s) call

-- nothing that contracts see has changed
pub record SameState (old new : State) : Type 0 where
  pub places : new.places ≡ old.places
  pub output : new.output.items ≡ old.output.items
  pub exit : new.exit ≡ old.exit
  pub count : new.count ≡ old.count
  pub last : new.last ≡ old.last

-- a fault has changed nothing
abbrev pub FaultsLeave : State → State → Result Answer Fault → Type 0
FaultsLeave old new (Ok answer) = Unit {0}
FaultsLeave old new (Err fault) = SameState old new
