-- A machine is the list of its cores' numbers, by rising core number.
use Rattle.std.specs.Prelude.{ℕ, Bool, ◌&&◌, List, map, nat_lt}
use Rattle.std.specs.List.{slice_get, range_with_len}
use Rattle.std.specs.Option.{option_map_or}
use Rattle.mpc_values.specs.declared.owners.Level.{Level}
use Rattle.mpc_values.specs.declared.owners.Level.TheVariants.{Core, L1, L2, L3, Numa, Node}
use Rattle.topology.specs.declared.core_numbers.CoreNumbers.{CoreNumbers}
use Rattle.topology.specs.declared.core_numbers.TheConstants.{INSTANCE_NUMBERS}

-- the number of a level for the core of this number: the core's own at the narrowest level, and 0 at
-- the widest, which has the one instance
abbrev pub number_of : Level → ℕ → CoreNumbers → ℕ
number_of Core core numbers = core
number_of L1 core numbers = numbers.l1
number_of L2 core numbers = numbers.l2
number_of L3 core numbers = numbers.l3
number_of Numa core numbers = numbers.numa
number_of Node core numbers = 0

-- the instance of a level that a core is in
abbrev pub instance_of : List CoreNumbers → Level → ℕ → ℕ
instance_of machine level core = option_map_or (number_of level core) (slice_get machine core) 0

-- the numbers of a core's instances are of 0 to 255
abbrev pub numbers_fit : CoreNumbers → Bool
numbers_fit numbers =
    ((nat_lt numbers.numa INSTANCE_NUMBERS && nat_lt numbers.l3 INSTANCE_NUMBERS) && nat_lt numbers.l2 INSTANCE_NUMBERS)
    && nat_lt numbers.l1 INSTANCE_NUMBERS

-- the numbers of a core of the flat machine: one memory and one third cache for all cores, and two
-- caches of its own for each
abbrev pub flat_core : ℕ → CoreNumbers
flat_core core = record { numa = 0; l3 = 0; l2 = core; l1 = core }

-- the machine of so many like cores
abbrev pub flat_machine : ℕ → List CoreNumbers
flat_machine cores = map flat_core (range_with_len 0 cores)
