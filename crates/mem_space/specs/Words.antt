-- How many words a task has in live locals and blocks.
use Rattle.std.specs.Prelude.{ℕ, zero, suc, ◌+◌, Bool, false, Option, Some, None}
use Rattle.mpc_values.specs.declared.values.Obj.TheVariants.{Dyn}
use Rattle.mpc_values.specs.declared.owners.Owner.TheVariants.{Task}
use Rattle.memory_model.specs.Memory.{Object}
use Rattle.memory_model.specs.Access.{length_of, is_block}
use Rattle.object_heap.specs.Layout.{Layout}
use Rattle.object_heap.specs.Objects.{object_in}

-- how many words an object has that a task made, none where it does not live
abbrev pub words_of : Layout → ℕ → ℕ → ℕ
words_of heap task number = length_of (object_in heap (Task task) (Dyn number))

-- the words of those objects that live, of so many that a task made, from the first on
abbrev pub live_of : Layout → ℕ → ℕ → ℕ
live_of heap task zero = 0
live_of heap task (suc made) = live_of heap task made + words_of heap task (suc made)

-- a block lives
abbrev pub is_live_block : Option Object → Bool
is_live_block None = false
is_live_block (Some object) = is_block object.kind
