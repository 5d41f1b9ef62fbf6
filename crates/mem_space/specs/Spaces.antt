-- What contracts see of a space: the heap of all tasks, who shares which variables, and what each task has made.
use Rattle.std.specs.Prelude.{ℕ, ◌<◌, List, length, slice_index}
use Rattle.mpc_values.specs.declared.values.Obj.{Obj}
use Rattle.mpc_values.specs.declared.values.Obj.TheVariants.{Glob, Dyn}
use Rattle.mpc_values.specs.declared.owners.Owner.{Owner}
use Rattle.mpc_values.specs.declared.owners.Owner.TheVariants.{Task}
use Rattle.memory_model.specs.Memory.{Memory}
use Rattle.memory_model.specs.Access.{Objects}
use Rattle.tls_levels.specs.Sharing.{Sharing, owner_in}
use Rattle.object_heap.specs.Layout.{Layout}

-- The heap of all tasks, who shares which variables, how many words in live locals and blocks a task may have, and how
-- many objects each task has made.
pub record Space : Type 0 where
  pub heap : Layout
  pub sharing : Sharing
  pub quota : ℕ
  pub made : List ℕ

-- the task is one of the run
abbrev pub IsTask : Space → ℕ → Type 0
IsTask s task = task < length s.sharing.cores

-- how many objects a task has made
abbrev pub made_in : Space → ℕ → ℕ
made_in s task = slice_index s.made task

-- Whose copy of an object a task touches: of a variable that has a level that of the instance of the level that holds
-- the task's core, of every other object its own.
unfoldable pub owner_for : Sharing → ℕ → Obj → Owner
owner_for sharing task (Glob variable) = owner_in sharing task variable
owner_for sharing task (Dyn made) = Task task

-- what an access of a task finds, where the heap shows this memory
abbrev pub objects_in : Space → Memory → ℕ → Objects
objects_in s m task = record { memory = m; made = made_in s task }
