-- Which core each task stands on.
use Rattle.std.specs.Prelude.{ℕ, Bool, ◌%◌, ◌/◌, ◌==◌, ◌&&◌, List, [], map, filter, length, slice_index, slice_index_or, nat_lt, if◌then◌else◌, Result, Ok, Err}
use Rattle.std.specs.List.{list_all, range_with_len}
use Rattle.mpc_values.specs.declared.owners.Level.TheVariants.{Numa}
use Rattle.topology.specs.declared.core_numbers.CoreNumbers.{CoreNumbers}
use Rattle.topology.specs.declared.core_numbers.TheConstants.{INSTANCE_NUMBERS}
use Rattle.topology.specs.declared.refusals.BadPlace.{BadPlace}
use Rattle.topology.specs.declared.placements.Placement.{Placement}
use Rattle.topology.specs.declared.placements.Placement.TheVariants.{Compact, Scatter, Listed}
use Rattle.topology.specs.Instances.{instance_of}

-- one core after another, and from the first again
abbrev pub compact_core : List CoreNumbers → ℕ → ℕ
compact_core machine task = task % length machine

-- the core is in the NUMA instance of this number
abbrev pub is_in : List CoreNumbers → ℕ → ℕ → Bool
is_in machine id core = instance_of machine Numa core == id

-- the cores of a NUMA instance, by rising number
abbrev pub cores_in : List CoreNumbers → ℕ → List ℕ
cores_in machine id = filter (is_in machine id) (range_with_len 0 (length machine))

-- the list has an item
abbrev pub has_item : List ℕ → Bool
has_item cores = nat_lt 0 (length cores)

-- the NUMA instance has a core
abbrev pub has_core : List CoreNumbers → ℕ → Bool
has_core machine id = has_item (cores_in machine id)

-- the NUMA instances that have a core, by rising number
unfoldable pub numa_instances : List CoreNumbers → List ℕ
numa_instances machine = filter (has_core machine) (range_with_len 0 INSTANCE_NUMBERS)

-- one group after another, and in each the next of its cores
abbrev pub turn_in : List (List ℕ) → ℕ → ℕ
turn_in groups task =
    let cores = slice_index_or groups (task % length groups) [] in
    slice_index cores ((task / length groups) % length cores)

-- one NUMA instance after another, and in each the next of its cores
abbrev pub scatter_core : List CoreNumbers → ℕ → ℕ
scatter_core machine task = turn_in (map (cores_in machine) (numa_instances machine)) task

-- the list itself, where it has one core for each task and each is below the number of cores
abbrev pub listed_cores : List ℕ → ℕ → ℕ → Result (List ℕ) BadPlace
listed_cores cores tasks count =
    if length cores == tasks && list_all (λ core. nat_lt core count) cores then Ok cores else Err (record {})

-- the cores of the tasks by a rule
abbrev pub placed : Placement → ℕ → List CoreNumbers → Result (List ℕ) BadPlace
placed Compact tasks machine = Ok (map (compact_core machine) (range_with_len 0 tasks))
placed Scatter tasks machine = Ok (map (scatter_core machine) (range_with_len 0 tasks))
placed (Listed cores) tasks machine = listed_cores cores tasks (length machine)
