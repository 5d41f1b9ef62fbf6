-- In every run processes are separate, and numbers are never given again.
use Rattle.std.proofs.Common.{◌≡◌, ◌<◌, ◌≤◌, ◌+◌, ◌==◌, ℕ, zero, suc, Bool, true, false, if◌then◌else◌, nat_le, List, [], ◌∷◌, ◌++◌, length, replicate, slice_get, Some, None, refl, ap, sym, ◌∙◌, subst, length-append, arith, rules}
use Rattle.std.proofs.lemmas.Option.{slice_get_within}
use Rattle.mpc_values.specs.declared.values.Obj.{Obj}
use Rattle.mpc_values.specs.declared.values.Obj.TheVariants.{Glob, Dyn}
use Rattle.mpc_values.specs.declared.owners.Owner.{Owner}
use Rattle.mpc_values.specs.declared.owners.Owner.TheVariants.{Task}
use Rattle.mpc_values.specs.declared.owners.StaticVar.{StaticVar}
use Rattle.mpc_values.specs.declared.faults.Fault.TheVariants.{Calls}
use Rattle.mpc_base.specs.declared.journals.Entry.{Entry}
use Rattle.memory_model.specs.declared.kinds.Kind.TheVariants.{Static}
use Rattle.memory_model.specs.Memory.{Memory, IsOrdered, key_of, object_of, with_object}
use Rattle.memory_model.specs.Names.{NamesAreLeft}
use Rattle.memory_model.proofs.Maps.{read_with_other, ordered_with}
use Rattle.tls_levels.specs.Images.{image_number}
use Rattle.tls_levels.specs.Owners.{owner_level, owners_of}
use Rattle.run_model.specs.Setup.{Setup, tasks_of}
use Rattle.run_model.specs.World.{Core, World}
use Rattle.run_model.specs.Start.{with_copies, with_copies_of, first_memory, first_task, first_course}
use Rattle.run_model.specs.Outcomes.{Outcome, Does, Fails, Waits, state_at, state_of, requests_at}
use Rattle.run_model.specs.Act.{act}
use Rattle.run_model.specs.Steps.{tried, course_of, core_after}
use Rattle.run_model.specs.Run.{Ran, run, at_start}
use Rattle.run_model.specs.Stepping.{IsStep}
use Rattle.run_model.specs.Separate.{OwnPlaces, GivesFew, Numbered}
use Rattle.run_model.proofs.Lists.{length_set}
use Rattle.run_model.proofs.Steps.{step_is, after_is}
use Rattle.run_model.proofs.Answers.{length_replicate, courses_are}
use Rattle.run_model.proofs.Runs.{run_keeps}
use Rattle.run_model.proofs.Leaving.{Left, Leaves, fails_leave, leave_if, left_same}
use Rattle.run_model.proofs.LeavingAll.{act_leaves}

-- what holds of every run: as many states and courses as tasks, places of postings that are their tasks' own, and no object
-- under a name that is not given yet
pub record Separate (setup : Setup) (r : Ran) : Type 0 where
  pub tasks : length r.world.core.tasks ≡ tasks_of setup
  pub lists : length r.world.core.requests ≡ tasks_of setup
  pub courses : length r.world.log.courses ≡ tasks_of setup
  pub own : OwnPlaces setup r.world.core
  pub order : IsOrdered r.world.core.memory
  pub few : Numbered r.world.core (length r.entries)
  pub names : (task : ℕ) → NamesAreLeft task (state_of r.world.core task).made r.world.core.memory

core_left : (setup : Setup) (core : Core) (task : ℕ) (o : Outcome) → Leaves setup core task o → Left setup core (core_after core o) task
unfolding Leaves
core_left setup core task (Does answer after) h = h
core_left setup core task (Fails fault) h = left_same setup core task
core_left setup core task Waits h = left_same setup core task

module _ {setup : Setup} {w : World} {task : ℕ} {entry : Entry} {after : World} (s : IsStep setup w task entry after) where
  step_left : task < length w.core.tasks → Left setup w.core after.core task
  step_left there =
      subst (λ (x : World). Left setup w.core x.core task) (after_is s)
      (core_left setup w.core task (tried setup w task s.call)
      (leave_if setup w.core task (nat_le setup.calls (course_of w.log task).entries) (Fails Calls) (act setup w.core task s.call) (fails_leave setup w.core task Calls) (act_leaves setup w.core task there s.call)))

obj_is : (owner other : Owner) (obj another : Obj) → key_of owner obj ≡ key_of other another → obj ≡ another
obj_is owner other obj another e = search rules

-- the memory at the start has static variables alone
copies_dead : (owner : Owner) (number : ℕ) (variables : List StaticVar) (m : Memory) (task made : ℕ) → object_of m (Task task) (Dyn made) ≡ None → object_of (with_copies owner number variables m) (Task task) (Dyn made) ≡ None
copies_dead owner number [] m task made none = none
copies_dead owner number (variable ∷ more) m task made none = by (image_number variable.level == image_number (owner_level owner))
    (copies_dead owner (number + 1) more m task made none)
  where
    never : key_of (Task task) (Dyn made) ≡ key_of owner (Glob number) → ⊥
    never e = differs (obj_is (Task task) owner (Dyn made) (Glob number) e)
      where
        differs : Dyn made ≡ Glob number → ⊥
        differs h = cc

    by : (b : Bool) → object_of (with_copies owner (number + 1) more m) (Task task) (Dyn made) ≡ None
        → object_of (if b then with_object (with_copies owner (number + 1) more m) owner (Glob number) (record { kind = Static; words = variable.first }) else with_copies owner (number + 1) more m) (Task task) (Dyn made) ≡ None
    by true rest = read_with_other (with_copies owner (number + 1) more m) owner (Task task) (Glob number) (Dyn made) _ never ∙ rest
    by false rest = rest

all_copies_dead : (variables : List StaticVar) (owners : List Owner) (task made : ℕ) → object_of (with_copies_of variables owners) (Task task) (Dyn made) ≡ None
all_copies_dead variables [] task made = refl
all_copies_dead variables (owner ∷ more) task made = copies_dead owner 0 variables (with_copies_of variables more) task made (all_copies_dead variables more task made)

copies_ordered : (owner : Owner) (number : ℕ) (variables : List StaticVar) (m : Memory) → IsOrdered m → IsOrdered (with_copies owner number variables m)
copies_ordered owner number [] m h = h
copies_ordered owner number (variable ∷ more) m h = by (image_number variable.level == image_number (owner_level owner)) (copies_ordered owner (number + 1) more m h)
  where
    by : (b : Bool) → IsOrdered (with_copies owner (number + 1) more m)
        → IsOrdered (if b then with_object (with_copies owner (number + 1) more m) owner (Glob number) (record { kind = Static; words = variable.first }) else with_copies owner (number + 1) more m)
    by true rest = ordered_with (with_copies owner (number + 1) more m) owner (Glob number) _ rest
    by false rest = rest

all_ordered : (variables : List StaticVar) (owners : List Owner) → IsOrdered (with_copies_of variables owners)
all_ordered variables [] = tt
all_ordered variables (owner ∷ more) = copies_ordered owner 0 variables (with_copies_of variables more) (all_ordered variables more)

none_asked : (count task : ℕ) → length (requests_at (slice_get (replicate count []) task)) ≡ 0
none_asked zero task = refl
none_asked (suc count) zero = refl
none_asked (suc count) (suc task) = none_asked count task

none_made : (count task : ℕ) → (state_at (slice_get (replicate count first_task) task)).made ≡ 0
none_made zero task = refl
none_made (suc count) zero = refl
none_made (suc count) (suc task) = none_made count task

more_numbers : (core after : Core) (entries : List Entry) (entry : Entry) → Numbered core (length entries) → GivesFew core after → Numbered after (length (entries ++ entry ∷ []))
more_numbers core after entries entry h g =
    let longer : length (entries ++ entry ∷ []) ≡ length entries + 1 = length-append entries (entry ∷ []) in
    record {
      postings = omega (arith, longer, h.postings, g.postings);
      requests = λ task. omega (arith, longer, h.requests task, g.requests task);
      made = λ task. omega (arith, longer, h.made task, g.made task);
      arrivals = omega (arith, longer, h.arrivals, g.arrivals);
      visits = omega (arith, longer, h.visits, g.visits);
      exits = omega (arith, longer, h.exits, g.exits);
    }

separate_start : (setup : Setup) → Separate setup (at_start setup)
unfolding first_memory
separate_start setup = record {
  tasks = length_replicate (tasks_of setup) first_task;
  lists = length_replicate (tasks_of setup) [];
  courses = length_replicate (tasks_of setup) first_course;
  order = all_ordered setup.program.variables (owners_of setup.machine setup.cores);
  few = record {
    postings = omega arith;
    requests = λ task. subst (λ n. n ≤ 0) (sym (none_asked (tasks_of setup) task)) (omega arith);
    made = λ task. subst (λ n. n ≤ 0) (sym (none_made (tasks_of setup) task)) (omega arith);
    arrivals = omega arith;
    visits = omega arith;
    exits = omega arith;
  };
  own = record { even = refl; own = λ index made carried span at has named. nothing index made at };
  names = λ task number past. all_copies_dead setup.program.variables (owners_of setup.machine setup.cores) task number;
}
  where
    nothing : {A X : Type 0} (index : ℕ) (x : X) → slice_get {X = X} [] index ≡ Some x → A
    nothing index x e = cc

separate_step : (setup : Setup) (r : Ran) (task : ℕ) (entry : Entry) (after : World) → Separate setup r → IsStep setup r.world task entry after → Separate setup (record { entries = r.entries ++ entry ∷ []; world = after })
separate_step setup r task entry after h s =
    let left = step_left s (there s h) in
    record {
      tasks = left.tasks ∙ h.tasks;
      lists = left.lists ∙ h.lists;
      courses = ap length (sym (courses_are s)) ∙ length_set r.world.log.courses task _ ∙ h.courses;
      order = left.order h.order;
      few = more_numbers r.world.core after.core r.entries entry h.few left.few;
      own = left.own h.own;
      names = λ other. left.keeps.names other (h.names other);
    }
  where
    there : (s : IsStep setup r.world task entry after) → Separate setup r → task < length r.world.core.tasks
    there s' h' = subst (λ n. task < n) (h'.courses ∙ sym h'.tasks) (slice_get_within r.world.log.courses task s'.course s'.there)

pub separate : (setup : Setup) (order : List ℕ) → Separate setup (run setup order)
separate setup order =
    run_keeps setup (Separate setup) (separate_start setup)
    (λ r task entry after h went. separate_step setup r task entry after h (step_is setup r.world task entry after went)) order

-- a step of a run
pub run_left : (setup : Setup) (order : List ℕ) (task : ℕ) (entry : Entry) (after : World) → IsStep setup (run setup order).world task entry after → Left setup (run setup order).world.core after.core task
run_left setup order task entry after s =
    let h = separate setup order in
    step_left s (subst (λ n. task < n) (h.courses ∙ sym h.tasks) (slice_get_within (run setup order).world.log.courses task s.course s.there))
