-- The world of a run: what separate processes, which share nothing but their declared variables, hold at one moment.
use Rattle.std.specs.Prelude.{ℕ, ℤ, zero, suc, ◌+◌, List, [], ◌∷◌, replicate, Option, None}
use Rattle.std.specs.FinMap as map
use Rattle.mpc_values.specs.declared.values.Obj.{Obj}
use Rattle.mpc_values.specs.declared.values.Obj.TheVariants.{Glob}
use Rattle.mpc_values.specs.declared.owners.Owner.{Owner}
use Rattle.mpc_values.specs.declared.owners.Owner.TheVariants.{Task}
use Rattle.mpc_values.specs.declared.owners.StaticVar.{StaticVar}
use Rattle.mpc_values.specs.declared.answers.Answer.{Answer}
use Rattle.serial_memory.specs.declared.kinds.Kind.TheVariants.{Static}
use Rattle.serial_memory.specs.Memory.{Memory, with_object}
use Rattle.serial_model.specs.declared.records.Setup.{Setup}
use Rattle.serial_model.specs.declared.lasts.Last.{Last}

-- What a run keeps of one task, beside its memory and its answers: how many objects it has made, its output so far, and the
-- exit code of its main, once that has ended.
pub record TaskState : Type 0 where
  pub made : ℕ
  pub output : List ℕ
  pub exit : Option ℤ

-- The memory of all tasks, what is kept of each task, how many entries each has in the journal, the answers that each has
-- had, and the fault that ended the run, if one did. Tasks stand by their numbers.
pub record World : Type 0 where
  pub memory : Memory
  pub tasks : List TaskState
  pub counts : List ℕ
  pub answers : List (List Answer)
  pub last : Option Last

-- how many tasks a run has
abbrev pub tasks_of : Setup → ℕ
tasks_of setup = 1

-- whose copy of an object a task touches: its own, since no variable is shared yet
abbrev pub owner_of : ℕ → Obj → Owner
owner_of task obj = Task task

-- the memory with the static variables from a number on in an owner's copy, each with its first words
abbrev pub with_variables : Owner → ℕ → List StaticVar → Memory → Memory
with_variables owner number [] m = m
with_variables owner number (variable ∷ more) m =
    with_variables owner (number + 1) more (with_object m owner (Glob number) (record { kind = Static; words = variable.first }))

-- the memory at the start, for the tasks below a number: each has a copy of each static variable
abbrev pub first_memory : List StaticVar → ℕ → Memory
first_memory variables zero = map.empty
first_memory variables (suc task) = with_variables (Task task) 0 variables (first_memory variables task)

abbrev pub first_task : TaskState
first_task = record { made = 0; output = []; exit = None }

-- the world in which a run starts
abbrev pub start : Setup → World
start setup = record {
  memory = first_memory setup.program.variables (tasks_of setup);
  tasks = replicate (tasks_of setup) first_task;
  counts = replicate (tasks_of setup) 0;
  answers = replicate (tasks_of setup) [];
  last = None;
}
