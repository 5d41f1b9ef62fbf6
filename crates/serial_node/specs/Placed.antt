-- The memory of a task whose objects stand in two lists: the static variables by number, and the objects that it made, where
-- they live, in the order of making.
use Rattle.std.specs.Prelude.{ℕ, ◌+◌, List, [], ◌∷◌, Option, Some, None}
use Rattle.std.specs.FinMap as map
use Rattle.mpc_values.specs.declared.values.Obj.TheVariants.{Glob, Dyn}
use Rattle.mpc_values.specs.declared.owners.Owner.TheVariants.{Task}
use Rattle.serial_memory.specs.Memory.{Memory, Object, key_of}
use Rattle.serial_memory.specs.Access.{length_of}

abbrev pub laid : Option Object → List ℕ → Memory → Memory
laid None key m = m
laid (Some object) key m = map.insert m key object

-- a memory with the objects of a list laid into it, by their keys from a number on
abbrev pub laid_from : {A : Type 0} → (A → Option Object) → (ℕ → List ℕ) → ℕ → List A → Memory → Memory
laid_from object_at key number [] m = m
laid_from object_at key number (x ∷ xs) m = laid_from object_at key (number + 1) xs (laid (object_at x) (key number) m)

abbrev pub variable_key : ℕ → List ℕ
variable_key number = key_of (Task 0) (Glob number)

-- objects are counted from 1
abbrev pub made_key : ℕ → List ℕ
made_key number = key_of (Task 0) (Dyn (number + 1))

unfoldable pub memory_of : List Object → List (Option Object) → Memory
memory_of variables made = laid_from (λ slot. slot) made_key 0 made (laid_from Some variable_key 0 variables map.empty)

-- the words of the objects that live
abbrev pub held_words : List (Option Object) → ℕ
held_words [] = 0
held_words (slot ∷ more) = length_of slot + held_words more
