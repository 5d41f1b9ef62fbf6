-- The objects of a task by their numbers.
use Rattle.std.specs.Prelude.{ℕ, ◌-◌, ◌==◌, if◌then◌else◌, List, slice_get, Option, Some, None}
use Rattle.mpc_values.specs.declared.owners.StaticVar.{StaticVar}
use Rattle.serial_memory.specs.declared.kinds.Kind.TheVariants.{Static}
use Rattle.serial_memory.specs.Memory.{Object}

-- a static variable at the start
abbrev pub first_object : StaticVar → Object
first_object variable = record { kind = Static; words = variable.first }

abbrev pub joined : Option (Option Object) → Option Object
joined None = None
joined (Some slot) = slot

-- the object that was made as the one of a number, counted from 1, where it lives
abbrev pub slot_at : List (Option Object) → ℕ → Option Object
slot_at made number = if number == 0 then None else joined (slice_get made (number - 1))
