-- A placement gives each task a core of the machine.
use Rattle.std.proofs.Common.{◌≡◌, ℕ, zero, suc, ◌+◌, ◌%◌, ◌/◌, ◌<◌, ◌≤◌, Bool, true, false, cond, List, [], ◌∷◌, length, map, filter, get_or, All, sym, subst, ⊎_elim, arith}
use Rattle.std.specs.List.{range_with_len, AllByRecursion}
use Rattle.std.proofs.lemmas.Bool.{cases_lt}
use Rattle.std.proofs.lemmas.List.{get_or_past}
use Rattle.std.proofs.lemmas.List.Elements.{All-from_recursion, All-nil, All-map}
use Rattle.std.proofs.lemmas.List.FromFn.{length-map-range_with_len}
use Rattle.std.proofs.Math.Nat.{mod-lt}
use Rattle.topology.specs.declared.core_numbers.CoreNumbers.{CoreNumbers}
use Rattle.topology.specs.Places.{is_in, cores_in, numa_instances, turn_in, scatter_core}

kept_below : (n : ℕ) (b : Bool) (x : ℕ) (rest : List ℕ) → x < n → AllByRecursion (λ k. k < n) rest → AllByRecursion (λ k. k < n) (cond b (x ∷ rest) rest)
kept_below n true x rest here ih = (here, ih)
kept_below n false x rest here ih = ih

-- numbers below n that pass a test are below n
filter_below : (p : ℕ → Bool) (n a c : ℕ) → a + c ≤ n → AllByRecursion (λ k. k < n) (filter p (range_with_len a c))
filter_below p n a zero within = tt
filter_below p n a (suc c) within = kept_below n (p a) a (filter p (range_with_len (a + 1) c)) (omega arith) (filter_below p n (a + 1) c (omega arith))

cores_below : (machine : List CoreNumbers) (id : ℕ) → All (λ core. core < length machine) (cores_in machine id)
cores_below machine id = All-from_recursion (λ core. core < length machine) (cores_in machine id) (filter_below (is_in machine id) (length machine) 0 (length machine) (omega arith))

-- what a list has at a place, or what stands in for it
at_or : {X : Type 0} (P : X → Type 0) (xs : List X) (k : ℕ) (d : X) → P d → All P xs → P (get_or xs k d)
at_or P xs k d past each = ⊎_elim (λ (here : k < length xs). each k d here) (λ (out : length xs ≤ k). subst P (sym (get_or_past xs k d out)) past) (cases_lt k (length xs))

turn_below : (n : ℕ) (groups : List (List ℕ)) (task : ℕ) → 0 < n → All (λ cores. All (λ core. core < n) cores) groups → turn_in groups task < n
turn_below n groups task some each =
    let cores = get_or groups (task % length groups) [] in
    let below : All (λ core. core < n) cores = at_or (λ cores. All (λ core. core < n) cores) groups (task % length groups) [] (All-nil (λ core. core < n)) each in
    at_or (λ core. core < n) cores ((task / length groups) % length cores) 0 some below

scatter_below : (machine : List CoreNumbers) (task : ℕ) → 0 < length machine → scatter_core machine task < length machine
scatter_below machine task some =
    turn_below (length machine) (map (cores_in machine) (numa_instances machine)) task some
    (All-map (λ cores. All (λ core. core < length machine) cores) (cores_in machine) (numa_instances machine) (λ k d h. cores_below machine (get_or (numa_instances machine) k d)))

-- one core of the machine for each task
abbrev pub Places : ℕ → ℕ → List ℕ → Type 0
Places tasks count cores = (length cores ≡ tasks) × All (λ core. core < count) cores

places_by : (f : ℕ → ℕ) (tasks count : ℕ) → ((task : ℕ) → f task < count) → Places tasks count (map f (range_with_len 0 tasks))
places_by f tasks count below =
    (length-map-range_with_len f 0 tasks, All-map (λ core. core < count) f (range_with_len 0 tasks) (λ k d h. below (get_or (range_with_len 0 tasks) k d)))

pub compact_places : (tasks count : ℕ) (cores : List ℕ) → 0 < count → cores ≡ map (λ task. task % count) (range_with_len 0 tasks) → Places tasks count cores
compact_places tasks count cores some is =
    subst (λ (cores : List ℕ). Places tasks count cores) (sym is) (places_by (λ task. task % count) tasks count (λ task. mod-lt task some))

pub scatter_places : (machine : List CoreNumbers) (tasks : ℕ) (cores : List ℕ) → 0 < length machine → cores ≡ map (scatter_core machine) (range_with_len 0 tasks) → Places tasks (length machine) cores
scatter_places machine tasks cores some is =
    subst (λ (cores : List ℕ). Places tasks (length machine) cores) (sym is)
    (places_by (scatter_core machine) tasks (length machine) (λ task. scatter_below machine task some))
