-- What holds of each machine's cores.
use Rattle.std.proofs.Common.{◌≡◌, ℕ, zero, suc, ◌+◌, ◌<◌, ◌≤◌, ltb, true, List, [], ◌∷◌, length, map, arith, refl}
use Rattle.std.specs.List.{list_all, range_with_len}
use Rattle.std.proofs.lemmas.Bool.{and_parts}
use Rattle.std.proofs.lemmas.Bool.Decides.{nat_tests}
use Rattle.mpc_values.specs.declared.owners.Level.TheVariants.{Numa}
use Rattle.topology.specs.declared.core_numbers.CoreNumbers.{CoreNumbers}
use Rattle.topology.specs.Instances.{numbers_fit, flat_core, instance_of}
use Rattle.topology.specs.Places.{is_in, cores_in, has_core, numa_instances}
use Rattle.topology.proofs.Ranges.{filter_some}

flat_fits : (core : ℕ) → core < 256 → numbers_fit (flat_core core) ≡ true
flat_fits core below =
    let is : ltb core 256 ≡ true = grind (arith, nat_tests) in
    rw is refl

-- the numbers of the cores of a flat machine fit
pub list_all-flat : (a n : ℕ) → a + n ≤ 256 → list_all numbers_fit (map flat_core (range_with_len a n)) ≡ true
list_all-flat a zero within = refl
list_all-flat a (suc n) within = rw (flat_fits a (omega arith)) (list_all-flat (a + 1) n (omega arith))

first_fits : (machine : List CoreNumbers) → 0 < length machine → list_all numbers_fit machine ≡ true → instance_of machine Numa 0 < 256
first_fits [] some fits = absurd (omega arith)
first_fits (core ∷ machine) some fits =
    let here = (and_parts (numbers_fit core) (list_all numbers_fit machine) fits).0 in
    let three = (and_parts _ (ltb core.l1 256) here).0 in
    let two = (and_parts _ (ltb core.l2 256) three).0 in
    let one : ltb core.numa 256 ≡ true = (and_parts (ltb core.numa 256) (ltb core.l3 256) two).0 in
    grind (arith, nat_tests)

-- a machine has a NUMA instance
pub some_instance : (machine : List CoreNumbers) → 0 < length machine → list_all numbers_fit machine ≡ true → 0 < length (numa_instances machine)
unfolding numa_instances
some_instance machine some fits =
    let id = instance_of machine Numa 0 in
    let own : is_in machine id 0 ≡ true = grind (arith, nat_tests) in
    let used : 0 < length (cores_in machine id) = filter_some (is_in machine id) (length machine) 0 some own in
    let has : has_core machine id ≡ true = grind (arith, nat_tests) in
    filter_some (has_core machine) 256 id (first_fits machine some fits) has
