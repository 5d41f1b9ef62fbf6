-- Whose copy a task touches is one of the owners that are listed.
use Rattle.std.proofs.Common.{◌≡◌, ℕ, zero, suc, ◌+◌, ◌<◌, ◌≤◌, Bool, true, false, cond, eqb, List, [], ◌∷◌, length, map, get_or, Some, refl, sym, ap, ◌∙◌, subst, ⊎_elim, arith}
use Rattle.std.specs.List.{filter, flat_map, range_with_len, Contains}
use Rattle.std.proofs.lemmas.Bool.{eq-eqb, cases_lt}
use Rattle.std.proofs.lemmas.List.{get_or_default}
use Rattle.std.proofs.lemmas.List.Elements.{Contains-append_left, Contains-append_right}
use Rattle.std.proofs.lemmas.List.Folds.{list_any_at}
use Rattle.std.proofs.lemmas.List.FromFn.{get_or-map-range_with_len, length-map-range_with_len}
use Rattle.mpc_values.specs.declared.owners.Level.{Level}
use Rattle.mpc_values.specs.declared.owners.Level.TheVariants.{Core, L1, L2, L3, Numa, Node}
use Rattle.mpc_values.specs.declared.owners.Owner.{Owner}
use Rattle.mpc_values.specs.declared.owners.Owner.TheVariants.{Task, Inst}
use Rattle.topology.specs.declared.core_numbers.CoreNumbers.{CoreNumbers}
use Rattle.topology.specs.Instances.{instance_of}
use Rattle.tls_levels.specs.declared.shapes.VarShape.{VarShape}
use Rattle.tls_levels.specs.Images.{level_at}
use Rattle.tls_levels.specs.Owners.{owner_at, holds_core, instances_at, tasks_of, owners_of}
use Rattle.tls_levels.specs.Sharing.{Sharing, owner_in, owners_in}
use Rattle.tls_levels.proofs.ImageLaws.{some_shape, level_at-get}

head_in : {X : Type 0} (f : ℕ → X) (a : ℕ) (b : Bool) (rest : List ℕ) → b ≡ true → Contains (map f (cond b (a ∷ rest) rest)) (f a)
head_in f a true rest e = (0, omega arith, refl)
head_in f a false rest e = absurd (cc)

rest_in : {X : Type 0} (f : ℕ → X) (a : ℕ) (b : Bool) (rest : List ℕ) (y : X) → Contains (map f rest) y → Contains (map f (cond b (a ∷ rest) rest)) y
rest_in f a true rest y there = Contains-append_right (f a ∷ []) (map f rest) y there
rest_in f a false rest y there = there

-- a number that passes a test is among those that do
passes_in : {X : Type 0} (f : ℕ → X) (p : ℕ → Bool) (a n k : ℕ) → a ≤ k → k < a + n → p k ≡ true → Contains (map f (filter p (range_with_len a n))) (f k)
passes_in f p a zero k from below e = absurd (omega arith)
passes_in f p a (suc n) k from below e =
    ⊎_elim (λ (later : a < k). rest_in f a (p a) (filter p (range_with_len (a + 1) n)) (f k) (passes_in f p (a + 1) n k (omega arith) (omega arith) e))
    (λ (first : k ≤ a).
    let here : a ≡ k = omega arith in
    subst (λ (j : ℕ). Contains (map f (cond (p a) (a ∷ filter p (range_with_len (a + 1) n)) (filter p (range_with_len (a + 1) n)))) (f j)) here
    (head_in f a (p a) (filter p (range_with_len (a + 1) n)) (subst (λ (j : ℕ). p j ≡ true) (sym here) e)))
    (cases_lt a k)

-- each task is an owner
pub task_in : (machine : List CoreNumbers) (cores : List ℕ) (task : ℕ) → task < length cores → Contains (owners_of machine cores) (Task task)
task_in machine cores task there =
    Contains-append_left (tasks_of (length cores)) _ (Task task)
    (task, omega (arith, length-map-range_with_len Task 0 (length cores)), get_or-map-range_with_len Task 0 (length cores) task task (Task task) there (omega arith))

-- the instance that holds a task's core is listed among those of its level
instance_in : (machine : List CoreNumbers) (cores : List ℕ) (level : Level) (task core : ℕ) → task < length cores → core ≡ get_or cores task 0 → instance_of machine level core < 256
    → Contains (instances_at machine cores level) (Inst level (instance_of machine level core))
unfolding instances_at
instance_in machine cores level task core there is small =
    let id = instance_of machine level core in
    let own : eqb (instance_of machine level (get_or cores task 0)) id ≡ true = eq-eqb _ id (ap (instance_of machine level) (sym is)) in
    let holds : holds_core machine cores level id ≡ true = list_any_at (λ c. eqb (instance_of machine level c) id) cores task 0 there own in
    passes_in (Inst level) (holds_core machine cores level) 0 256 id (omega arith) small holds

-- what is listed at a level is an owner
level_in : (at : Level → List Owner) (level : Level) (o : Owner) → Contains (at level) o → Contains (flat_map at (Core ∷ L1 ∷ L2 ∷ L3 ∷ Numa ∷ Node ∷ [])) o
level_in at Core o there = Contains-append_left (at Core) _ o there
level_in at L1 o there = Contains-append_right (at Core) _ o (Contains-append_left (at L1) _ o there)
level_in at L2 o there = Contains-append_right (at Core) _ o (Contains-append_right (at L1) _ o (Contains-append_left (at L2) _ o there))
level_in at L3 o there = Contains-append_right (at Core) _ o (Contains-append_right (at L1) _ o (Contains-append_right (at L2) _ o (Contains-append_left (at L3) _ o there)))
level_in at Numa o there = Contains-append_right (at Core) _ o (Contains-append_right (at L1) _ o (Contains-append_right (at L2) _ o (Contains-append_right (at L3) _ o (Contains-append_left (at Numa) _ o there))))
level_in at Node o there =
    Contains-append_right (at Core) _ o (Contains-append_right (at L1) _ o (Contains-append_right (at L2) _ o (Contains-append_right (at L3) _ o (Contains-append_right (at Numa) _ o (Contains-append_left (at Node) _ o there)))))

pub held_in : (machine : List CoreNumbers) (cores : List ℕ) (level : Level) (task core : ℕ) → task < length cores → core ≡ get_or cores task 0 → instance_of machine level core < 256
    → Contains (owners_of machine cores) (Inst level (instance_of machine level core))
held_in machine cores level task core there is small =
    Contains-append_right (tasks_of (length cores)) _ _ (level_in (instances_at machine cores) level _ (instance_in machine cores level task core there is small))

-- the owner that is read from the tables, at a variable that has a level
pub read_owner : (s : Sharing) (task var core id : ℕ) (level : Level) (shape : VarShape) → var < length s.shapes → shape ≡ get_or s.shapes var shape → shape.level ≡ Some level
    → task < length s.cores → core ≡ get_or s.cores task core → id ≡ instance_of s.machine level core → Inst level id ≡ owner_in s task var
read_owner s task var core id level shape below is has there at found =
    let level_is : level_at s.shapes var ≡ Some level = level_at-get s.shapes var below ∙ ap (λ (x : VarShape). x.level) (get_or_default s.shapes var some_shape shape below ∙ sym is) ∙ has in
    let core_is : core ≡ get_or s.cores task 0 = at ∙ get_or_default s.cores task core 0 there in
    ap (Inst level) (found ∙ ap (instance_of s.machine level) core_is) ∙ ap (λ o. owner_at s.machine o task (get_or s.cores task 0)) (sym level_is)

pub read_listed : (s : Sharing) (task core id : ℕ) (level : Level) → task < length s.cores → core ≡ get_or s.cores task core → id ≡ instance_of s.machine level core → id < 256
    → Contains (owners_in s) (Inst level id)
read_listed s task core id level there at found small =
    let core_is : core ≡ get_or s.cores task 0 = at ∙ get_or_default s.cores task core 0 there in
    subst (λ (j : ℕ). Contains (owners_in s) (Inst level j)) (sym found) (held_in s.machine s.cores level task core there core_is (subst (λ (j : ℕ). j < 256) found small))
