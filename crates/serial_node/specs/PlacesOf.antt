-- What the places of a task stand for.
use Rattle.std.specs.Prelude.{◌≡◌, length}
use Rattle.serial_memory.specs.Access.{Objects}
use Rattle.serial_node.specs.Placed.{memory_of, held_words}
use Rattle.serial_node.specs.declared.places.Places.TheInside.{Inside}

abbrev pub objects_in : Inside → Objects
objects_in a = record { memory = memory_of a.variables.items a.made.items; made = length a.made.items }

-- the number of live words is kept beside the objects
abbrev pub CountsWords : Inside → Type 0
CountsWords a = a.live ≡ held_words a.made.items
