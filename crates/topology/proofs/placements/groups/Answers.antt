use Rattle.std.proofs.Common.{◌≡◌, ◌<◌, ℕ, List, subst, sym, refl, ap, ◌∙◌, true, false, length, map, arith}
use Rattle.std.specs.List.{filter, range_with_len}
use Rattle.std.proofs.lemmas.Bool.Decides.{nat_tests}
use Rattle.std.proofs.lemmas.List.{length-map}
use Rattle.topology.specs.declared.core_numbers.CoreNumbers.{CoreNumbers}
use Rattle.topology.specs.Places.{cores_in, has_core, has_item, numa_instances}
use Rattle.topology.proofs.Ranges.{map_filter_push, map_filter_skip, list_all-map-filter}
use Rattle.topology.proofs.MachineLaws.{some_instance}
use Rattle.topology.proofs.placements.groups.Goals as goal
use Rattle.topology.proofs.placements.groups.Goals.{then-not-is_empty+in_ok-push, else-not-is_empty}

pub loop-id-preserved : goal.loop-id-preserved
loop-id-preserved c =
    let machine = c.args.machine.now in
    let p = has_core machine in
    let cores = c.in_ok-cores.ensures in
    elim c.if-not-is_empty.branch [
      | then-not-is_empty+in_ok-push w ↦
          let passes : p c.loop-id.id ≡ true = rw (← cores) (grind (arith, nat_tests)) in
          map_filter_push (cores_in machine) p c.loop-id.id _ _ c.loop-id.invariant passes (rw (w.list-is, w.in_ok-push.ensures.items, w.of.ensures, cores) refl)
      | else-not-is_empty w ↦
          let fails : p c.loop-id.id ≡ false = rw (← cores) (grind (arith, nat_tests)) in
          map_filter_skip (cores_in machine) p c.loop-id.id _ _ c.loop-id.invariant fails (rw w.list-is refl)
    ]

pub returns-clause-items : goal.returns-clause-items
unfolding numa_instances
returns-clause-items c =
    let all : c.loop-id.id ≡ 256 = omega arith in
    let machine = c.args.machine.now in
    c.loop-id.invariant ∙ ap (λ n. map (cores_in machine) (filter (has_core machine) (range_with_len 0 n))) all

-- as many groups as instances
some_groups : (machine : List CoreNumbers) (id : ℕ) (groups : List (List ℕ)) → groups ≡ map (cores_in machine) (filter (has_core machine) (range_with_len 0 id)) → id ≡ 256 → 0 < length (numa_instances machine) → 0 < length groups
unfolding numa_instances
some_groups machine id groups items all some =
    let long : length groups ≡ length (filter (has_core machine) (range_with_len 0 id)) = ap length items ∙ length-map (filter (has_core machine) (range_with_len 0 id)) (cores_in machine) in
    let whole : length (filter (has_core machine) (range_with_len 0 id)) ≡ length (filter (has_core machine) (range_with_len 0 256)) =
    ap (λ n. length (filter (has_core machine) (range_with_len 0 n))) all in
    subst (λ (n : ℕ). 0 < n) (sym (long ∙ whole)) some

pub returns-clause-some : goal.returns-clause-some
returns-clause-some c =
    let machine = c.args.machine.now in
    let there : 0 < length machine = subst (λ (n : ℕ). 0 < n) c.cores.ensures.count c.cores.ensures.some in
    some_groups machine c.loop-id.id _ c.loop-id.invariant (omega arith) (some_instance machine there c.cores.ensures.fits)

pub returns-clause-each : goal.returns-clause-each
returns-clause-each c =
    let machine = c.args.machine.now in
    rw c.loop-id.invariant (list_all-map-filter has_item (cores_in machine) (range_with_len 0 c.loop-id.id))
