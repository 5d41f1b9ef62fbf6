-- Who has a copy of a variable.
use Rattle.std.specs.Prelude.{ℕ, Bool, ◌==◌, List, [], ◌∷◌, ◌++◌, map, filter, length, Option, Some, None}
use Rattle.std.specs.List.{list_any, flat_map, range_with_len}
use Rattle.mpc_values.specs.declared.owners.Level.{Level}
use Rattle.mpc_values.specs.declared.owners.Level.TheVariants.{Core, L1, L2, L3, Numa, Node}
use Rattle.mpc_values.specs.declared.owners.Owner.{Owner}
use Rattle.mpc_values.specs.declared.owners.Owner.TheVariants.{Task, Inst}
use Rattle.topology.specs.declared.core_numbers.CoreNumbers.{CoreNumbers}
use Rattle.topology.specs.declared.core_numbers.TheConstants.{INSTANCE_NUMBERS}
use Rattle.topology.specs.Instances.{instance_of}

-- whose copy of a variable of this level a task on this core touches
abbrev pub owner_at : List CoreNumbers → Option Level → ℕ → ℕ → Owner
owner_at machine None task core = Task task
owner_at machine (Some level) task core = Inst level (instance_of machine level core)

-- the level of an owner's image, none for a task
abbrev pub owner_level : Owner → Option Level
owner_level (Task task) = None
owner_level (Inst level id) = Some level

-- the core of some task is in the instance
abbrev pub holds_core : List CoreNumbers → List ℕ → Level → ℕ → Bool
holds_core machine cores level id = list_any (λ core. instance_of machine level core == id) cores

-- the instances of a level that hold the core of a task, by rising number
unfoldable pub instances_at : List CoreNumbers → List ℕ → Level → List Owner
instances_at machine cores level = map (Inst level) (filter (holds_core machine cores level) (range_with_len 0 INSTANCE_NUMBERS))

-- so many tasks as owners
abbrev pub tasks_of : ℕ → List Owner
tasks_of count = map Task (range_with_len 0 count)

-- the tasks by number, then the instances by level and number
abbrev pub owners_of : List CoreNumbers → List ℕ → List Owner
owners_of machine cores = tasks_of (length cores) ++ flat_map (instances_at machine cores) (Core ∷ L1 ∷ L2 ∷ L3 ∷ Numa ∷ Node ∷ [])
