-- What holds while tasks and a node run a program together.
use Rattle.std.specs.Prelude.{◌≡◌, ℕ, true, false, List, [], slice_get, Option, None, Some}
use Rattle.mpc_values.specs.declared.calls.Call.{Call}
use Rattle.mpc_values.specs.declared.answers.Answer.{Answer}
use Rattle.c_tree.specs.Asking.{Asks}
use Rattle.c_tree.specs.Next.{next_of}
use Rattle.c_code.specs.FlatCode.{FlatCode}
use Rattle.c_compile.specs.Correct.{Behaves}
use Rattle.task_vm.specs.Tasks.{Tasked, HasHad, IsAsking}
use Rattle.task_vm.specs.Wanting.{IsWanting}
use Rattle.task_vm.specs.declared.states.Want.{Want}
use Rattle.task_vm.specs.declared.states.Want.TheVariants.{Ask}
use Rattle.run_model.specs.Setup.{Setup, setup_of}
use Rattle.run_model.specs.Valid.{Valid}
use Rattle.run_model.specs.Steps.{answers_of}
use Rattle.run_model.specs.Run.{run, order_of}
use Rattle.node_core.specs.Built.{IsBuilt}
use Rattle.node_core.specs.Held.{Held, world_in}
use Rattle.node_core.specs.Over.{is_over}
use Rattle.task_rounds.specs.declared.seats.Seat.{Seat}

-- the program asks only calls that are built, whatever it is answered
abbrev pub AsksBuilt : Setup → Type 0
AsksBuilt setup = (answers : List Answer) (call : Call) (line : ℕ) → next_of setup.program answers ≡ Asks call line → IsBuilt call

-- The node holds a run of a valid setup, whose program asks only calls that are built, and was not stopped.
pub record Plays (held : Held) : Type 0 where
  pub valid : Valid (setup_of held.setup)
  pub legal : (run (setup_of held.setup) (order_of held.entries)).entries ≡ held.entries
  pub running : held.stop ≡ None
  pub built : AsksBuilt (setup_of held.setup)

-- the call that the task asks, if it waits for an answer
abbrev pub AskedAs : Option Want → Tasked → Type 0
AskedAs None task = task.asked ≡ false
AskedAs (Some want) task = (task.asked ≡ true) × IsWanting task want

-- the task of the seat begins to run the code
pub record IsNew (run' : FlatCode) (seat : Seat) : Type 0 where
  pub code : seat.task.code ≡ run'
  pub begun : HasHad seat.task []
  pub still : seat.task.over ≡ false
  pub asks : AskedAs seat.want seat.task

-- The seat's task runs the node's program, and has had the answers that the run holds for it.
pub record Keeps (held : Held) (number : ℕ) (seat : Seat) : Type 0 where
  pub behaves : Behaves seat.task.code (setup_of held.setup).program
  pub had : seat.task.over ≡ false → HasHad seat.task (answers_of (world_in held) number)
  pub over : seat.task.over ≡ true → is_over (world_in held) number ≡ true
  pub asks : AskedAs seat.want seat.task

-- the same of all tasks
abbrev pub AllKeep : Held → List Seat → Type 0
AllKeep held seats = (number : ℕ) (seat : Seat) → slice_get seats number ≡ Some seat → Keeps held number seat

-- The task has run on to a call, after the same answers.
pub record Wants (old new : Tasked) (want : Want) : Type 0 where
  pub code : new.code ≡ old.code
  pub asked : new.asked ≡ true
  pub goes : new.over ≡ false
  pub asks : IsWanting new want
  pub had : (given : List Answer) → HasHad old given → HasHad new given

-- The task asks this call at this line, after the answers that the run holds for it.
pub record Asking (held : Held) (number : ℕ) (task : Tasked) (call : Call) (line : ℕ) : Type 0 where
  pub behaves : Behaves task.code (setup_of held.setup).program
  pub had : HasHad task (answers_of (world_in held) number)
  pub asked : task.asked ≡ true
  pub goes : task.over ≡ false
  pub asks : IsAsking task call line

-- the same of what the task wants
abbrev pub AskingWant : Held → ℕ → Tasked → Want → Type 0
AskingWant held number task (Ask call line) = Asking held number task call line
