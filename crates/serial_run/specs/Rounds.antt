-- What holds while a task and a node run a program together.
use Rattle.std.specs.Prelude.{◌≡◌, ◌+◌, ℕ, Bool, true, false, length}
use Rattle.mpc_values.specs.declared.calls.Call.{Call}
use Rattle.c_tree.specs.ProgramOf.{program_of}
use Rattle.c_compile.specs.Correct.{Behaves}
use Rattle.c_compile.specs.Plain.{is_plain}
use Rattle.serial_model.specs.Go.{has_ended, answers_of}
use Rattle.serial_model.specs.Run.{world_of}
use Rattle.serial_node.specs.Held.{Held}
use Rattle.task_vm.specs.Tasks.{Tasked, HasHad, IsAsking}

-- The task runs the node's program, which is plain; it has had the answers that the run holds for it, and the run goes on.
pub record Together (task : Tasked) (node : Held) : Type 0 where
  pub plain : is_plain (program_of node.setup.program) ≡ true
  pub behaves : Behaves task.code (program_of node.setup.program)
  pub had : HasHad task (answers_of (world_of node.setup node.entries) 0)
  pub goes : task.over ≡ false
  pub going : has_ended (world_of node.setup node.entries) ≡ false

-- The same, and the task has asked this call at this line.
pub record Asking (task : Tasked) (node : Held) (call : Call) (line : ℕ) : Type 0 where
  pub together : Together task node
  pub asked : task.asked ≡ true
  pub asks : IsAsking task call line

-- the run has ended, or it goes on with one entry more
abbrev pub Turned : Bool → Tasked → Held → Held → Type 0
Turned true task before after = has_ended (world_of after.setup after.entries) ≡ true
Turned false task before after = Together task after × (length after.entries ≡ length before.entries + 1)
