-- What each call leaves: nothing that has a number is taken out, the places of postings stay their tasks' own, and another
-- task's objects stay, unless its receive was met.
use Rattle.std.proofs.Common.{◌≡◌, ◌+◌, ◌≢◌, ◌⊎◌, inl, inr, ◌<◌, ◌≤◌, ◌==◌, ℕ, zero, suc, Bool, true, false, if◌then◌else◌, List, [], ◌∷◌, length, slice_get, slice_set, Option, Some, None, refl, ap, sym, ◌∙◌, subst, arith}
use Rattle.std.proofs.lemmas.Bool.Decides.{eqb_tells}
use Rattle.mpc_values.specs.declared.values.Word.{Word}
use Rattle.mpc_values.specs.declared.values.Obj.{Obj}
use Rattle.mpc_values.specs.declared.values.Obj.TheVariants.{Dyn}
use Rattle.mpc_values.specs.declared.owners.Owner.{Owner}
use Rattle.mpc_values.specs.declared.owners.Owner.TheVariants.{Task}
use Rattle.mpc_values.specs.declared.answers.Answer.{Answer}
use Rattle.mpc_values.specs.declared.faults.Fault.{Fault}
use Rattle.memory_model.specs.Memory.{IsOrdered, object_of}
use Rattle.memory_model.specs.Access.{Objects, Access, Answers, Breaks}
use Rattle.memory_model.specs.Names.{NamesAreLeft, EveryAccess, GivesOneName, LeavesObject, LeavesOrder}
use Rattle.memory_model.proofs.Accesses.{every_access, names_last, others_stay, order_stays}
use Rattle.mpi_request.specs.declared.requests.Request.{Request}
use Rattle.run_model.specs.Setup.{Setup}
use Rattle.run_model.specs.World.{TaskState, Core}
use Rattle.run_model.specs.Owners.{owner_of}
use Rattle.run_model.specs.Outcomes.{Outcome, Does, Fails, Waits, state_at, state_of, with_state, requests_at, requests_of, with_requests, inside_mpi, in_found, in_group}
use Rattle.run_model.specs.MemoryCalls.{objects_of, accessed}
use Rattle.run_model.specs.Separate.{OwnPlaces, Keeps, GivesFew, LeavesOthers}
use Rattle.run_model.proofs.Lists.{get_set_same, get_set_other, length_set}
use Rattle.run_model.proofs.Places.{owner_apart, own_name}
use Rattle.mpi_comm.specs.Communicators.{Group, group_of}

-- what a call of a task leaves of the core
pub record Left (setup : Setup) (core after : Core) (task : ℕ) : Type 0 where
  pub keeps : Keeps core after
  pub few : GivesFew core after
  pub order : IsOrdered core.memory → IsOrdered after.memory
  pub tasks : length after.tasks ≡ length core.tasks
  pub lists : length after.requests ≡ length core.requests
  pub own : OwnPlaces setup core → OwnPlaces setup after
  pub others : OwnPlaces setup core → LeavesOthers core after task

-- the same by the outcome
unfoldable pub Leaves : Setup → Core → ℕ → Outcome → Type 0
Leaves setup core task (Does answer after) = Left setup core after task
Leaves setup core task (Fails fault) = Unit {0}
Leaves setup core task Waits = Unit {0}

pub does_leave : (setup : Setup) (core after : Core) (task : ℕ) (answer : Answer) → Left setup core after task → Leaves setup core task (Does answer after)
unfolding Leaves
does_leave setup core after task answer h = h

pub fails_leave : (setup : Setup) (core : Core) (task : ℕ) (fault : Fault) → Leaves setup core task (Fails fault)
unfolding Leaves
fails_leave setup core task fault = tt

pub waits_leave : (setup : Setup) (core : Core) (task : ℕ) → Leaves setup core task Waits
unfolding Leaves
waits_leave setup core task = tt

pub leave_if : (setup : Setup) (core : Core) (task : ℕ) (b : Bool) (x y : Outcome) → Leaves setup core task x → Leaves setup core task y → Leaves setup core task (if b then x else y)
leave_if setup core task true x y h g = h
leave_if setup core task false x y h g = g

pub leave_inside : (setup : Setup) (core : Core) (task : ℕ) (o : Outcome) → Leaves setup core task o → Leaves setup core task (inside_mpi core task o)
leave_inside setup core task o h = search (leave_if, fails_leave, h)

pub leave_found : (setup : Setup) (core : Core) (task : ℕ) (g : Option Group) (o : Group → Outcome) → ((group : Group) → Leaves setup core task (o group)) → Leaves setup core task (in_found g o)
leave_found setup core task None o h = fails_leave setup core task _
leave_found setup core task (Some group) o h = h group

pub leave_group : (setup : Setup) (core : Core) (task : ℕ) (word : Word) (o : Group → Outcome) → ((group : Group) → Leaves setup core task (o group)) → Leaves setup core task (in_group core task word o)
leave_group setup core task word o h = leave_inside setup core task _ (leave_found setup core task (group_of core.comms task word) o h)

-- the task's own state, and the requests, by their places
made_set : (tasks : List TaskState) (task : ℕ) (state : TaskState) → (state_at (slice_get tasks task)).made ≤ state.made → (other : ℕ) → (state_at (slice_get tasks other)).made ≤ (state_at (slice_get (slice_set tasks task state) other)).made
made_set [] task state h other = omega arith
made_set (first ∷ tasks) zero state h zero = h
made_set (first ∷ tasks) zero state h (suc other) = omega arith
made_set (first ∷ tasks) (suc task) state h zero = omega arith
made_set (first ∷ tasks) (suc task) state h (suc other) = made_set tasks task state h other

-- a state that has made as many objects leaves how many each task has made
made_same : (tasks : List TaskState) (task : ℕ) (state : TaskState) → state.made ≡ (state_at (slice_get tasks task)).made → (other : ℕ) → (state_at (slice_get (slice_set tasks task state) other)).made ≡ (state_at (slice_get tasks other)).made
made_same [] task state h other = refl
made_same (first ∷ tasks) zero state h zero = h
made_same (first ∷ tasks) zero state h (suc other) = refl
made_same (first ∷ tasks) (suc task) state h zero = refl
made_same (first ∷ tasks) (suc task) state h (suc other) = made_same tasks task state h other

pub requests_set : (all : List (List Request)) (task : ℕ) (requests : List Request) → length (requests_at (slice_get all task)) ≤ length requests → (other : ℕ) → length (requests_at (slice_get all other)) ≤ length (requests_at (slice_get (slice_set all task requests) other))
requests_set [] task requests h other = omega arith
requests_set (first ∷ all) zero requests h zero = h
requests_set (first ∷ all) zero requests h (suc other) = omega arith
requests_set (first ∷ all) (suc task) requests h zero = omega arith
requests_set (first ∷ all) (suc task) requests h (suc other) = requests_set all task requests h other

pub requests_few : (all : List (List Request)) (task : ℕ) (requests : List Request) → length requests ≤ length (requests_at (slice_get all task)) + 1 → (other : ℕ) → length (requests_at (slice_get (slice_set all task requests) other)) ≤ length (requests_at (slice_get all other)) + 1
requests_few [] task requests h other = omega arith
requests_few (first ∷ all) zero requests h zero = h
requests_few (first ∷ all) zero requests h (suc other) = omega arith
requests_few (first ∷ all) (suc task) requests h zero = omega arith
requests_few (first ∷ all) (suc task) requests h (suc other) = requests_few all task requests h other

made_few : (tasks : List TaskState) (task : ℕ) (state : TaskState) → state.made ≤ (state_at (slice_get tasks task)).made + 1 → (other : ℕ) → (state_at (slice_get (slice_set tasks task state) other)).made ≤ (state_at (slice_get tasks other)).made + 1
made_few [] task state h other = omega arith
made_few (first ∷ tasks) zero state h zero = h
made_few (first ∷ tasks) zero state h (suc other) = omega arith
made_few (first ∷ tasks) (suc task) state h zero = omega arith
made_few (first ∷ tasks) (suc task) state h (suc other) = made_few tasks task state h other

-- A call that leaves memory, postings, what they carry and how many objects each task has made.
pub record Quiet (core after : Core) : Type 0 where
  pub memory : after.memory ≡ core.memory
  pub postings : after.postings ≡ core.postings
  pub carried : after.carried ≡ core.carried
  pub comms : length core.comms ≤ length after.comms
  pub requests : (task : ℕ) → length (requests_of core task) ≤ length (requests_of after task)
  pub made : (task : ℕ) → (state_of after task).made ≡ (state_of core task).made
  pub tasks : length after.tasks ≡ length core.tasks
  pub lists : length after.requests ≡ length core.requests
  pub few : (task : ℕ) → length (requests_of after task) ≤ length (requests_of core task) + 1
  pub arrivals : length after.arrivals ≤ length core.arrivals + 1
  pub visits : length after.visits ≤ length core.visits + 1
  pub exits : length after.exits ≤ length core.exits + 1

pub same_own : (setup : Setup) (core after : Core) → after.postings ≡ core.postings → after.carried ≡ core.carried → OwnPlaces setup core → OwnPlaces setup after
same_own setup core after p c h = record {
  even = ap length c ∙ h.even ∙ ap length (sym p);
  own = λ index made carried span at has places. h.own index made carried span (ap (λ ps. slice_get ps index) (sym p) ∙ at) (ap (λ cs. slice_get cs index) (sym c) ∙ has) places;
}

pub quiet_left : (setup : Setup) (core after : Core) (task : ℕ) → Quiet core after → Left setup core after task
quiet_left setup core after task q = record {
  keeps = record {
    postings = subst (λ ps. length core.postings ≤ length ps) (sym q.postings) (omega arith);
    comms = q.comms;
    requests = q.requests;
    made = λ other. subst (λ n. (state_of core other).made ≤ n) (sym (q.made other)) (omega arith);
    names = λ other left. subst (λ n. NamesAreLeft other n after.memory) (sym (q.made other)) (subst (NamesAreLeft other (state_of core other).made) (sym q.memory) left);
  };
  few = record {
    postings = subst (λ ps. length ps ≤ length core.postings + 1) (sym q.postings) (omega arith);
    requests = q.few;
    made = λ other. subst (λ n. n ≤ (state_of core other).made + 1) (sym (q.made other)) (omega arith);
    arrivals = q.arrivals;
    visits = q.visits;
    exits = q.exits;
  };
  order = λ ordered. subst IsOrdered (sym q.memory) ordered;
  tasks = q.tasks;
  lists = q.lists;
  own = same_own setup core after q.postings q.carried;
  others = λ own other obj apart. inl (ap (λ m. object_of m (Task other) obj) q.memory);
}

pub same_quiet : (core : Core) → Quiet core core
same_quiet core = record {
  memory = refl;
  postings = refl;
  carried = refl;
  comms = omega arith;
  requests = λ task. omega arith;
  made = λ task. refl;
  tasks = refl;
  lists = refl;
  few = λ task. omega arith;
  arrivals = omega arith;
  visits = omega arith;
  exits = omega arith;
}

pub left_same : (setup : Setup) (core : Core) (task : ℕ) → Left setup core core task
left_same setup core task = quiet_left setup core core task (same_quiet core)

-- the task's state changes, but not how many objects it has made
pub left_state : (setup : Setup) (core : Core) (task : ℕ) (state : TaskState) → state.made ≡ (state_of core task).made → Left setup core (with_state core task state) task
left_state setup core task state h = quiet_left setup core (with_state core task state) task (record {
  memory = refl;
  postings = refl;
  carried = refl;
  comms = omega arith;
  requests = λ other. omega arith;
  made = made_same core.tasks task state h;
  tasks = length_set core.tasks task state;
  lists = refl;
  few = λ other. omega arith;
  arrivals = omega arith;
  visits = omega arith;
  exits = omega arith;
})

-- the task's requests change, and none is taken out
pub left_requests : (setup : Setup) (core : Core) (task : ℕ) (requests : List Request) → length (requests_of core task) ≤ length requests → length requests ≤ length (requests_of core task) + 1 → Left setup core (with_requests core task requests) task
left_requests setup core task requests h g = quiet_left setup core (with_requests core task requests) task (record {
  memory = refl;
  postings = refl;
  carried = refl;
  comms = omega arith;
  requests = requests_set core.requests task requests h;
  made = λ other. refl;
  tasks = refl;
  lists = length_set core.requests task requests;
  few = requests_few core.requests task requests g;
  arrivals = omega arith;
  visits = omega arith;
  exits = omega arith;
})

-- what is needed of an access: it takes back no name, gives one at most, and leaves other tasks' objects
unfoldable pub AccessLeaves : Core → ℕ → Access → Type 0
AccessLeaves core task (Answers answer o) =
    ((state_of core task).made ≤ o.made) × (o.made ≤ (state_of core task).made + 1) × (IsOrdered core.memory → IsOrdered o.memory)
    × (NamesAreLeft task (state_of core task).made core.memory → NamesAreLeft task o.made o.memory)
    × ((other : ℕ) (obj : Obj) → other ≢ task → object_of o.memory (Task other) obj ≡ object_of core.memory (Task other) obj)
AccessLeaves core task (Breaks fault) = Unit {0}

abbrev pub Rises : ℕ → Access → Type 0
Rises given (Answers answer o) = (given ≤ o.made) × (o.made ≤ given + 1)
Rises given (Breaks fault) = Unit {0}

rises : (owner_of : Obj → Owner) (task : ℕ) (o : Objects) → EveryAccess (Rises o.made) owner_of task o
rises owner_of task o = every_access (Rises o.made) owner_of task o (record {
  breaks = λ fault. tt;
  keeps = λ answer. (omega arith, omega arith);
  writes = λ obj was object lives. (omega arith, omega arith);
  makes = λ kind len. (omega arith, omega arith);
  ends = λ obj. (omega arith, omega arith);
})

access_leaves : (core : Core) (task : ℕ) (a : Access) → Rises (state_of core task).made a → (IsOrdered core.memory → LeavesOrder a)
    → (NamesAreLeft task (state_of core task).made core.memory → GivesOneName task (state_of core task).made a)
    → ((other : ℕ) (obj : Obj) → other ≢ task → LeavesObject (Task other) obj core.memory a) → AccessLeaves core task a
unfolding AccessLeaves
access_leaves core task (Answers answer o) up order names stay = (up.0, up.1, order, λ left. (names left).2, stay)
access_leaves core task (Breaks fault) up order names stay = tt

module _ (setup : Setup) (core : Core) (task : ℕ) (there : task < length core.tasks) (answer : Answer) (o : Objects) where
  abbrev access_core : Core
  access_core = with_state (record core { memory = o.memory }) task (record (state_of core task) { made = o.made })

  own_state : state_of access_core task ≡ record (state_of core task) { made = o.made }
  own_state = ap state_at (get_set_same core.tasks task (record (state_of core task) { made = o.made }) there)

  other_state : (other : ℕ) → other ≢ task → state_of access_core other ≡ state_of core other
  other_state other apart = ap state_at (get_set_other core.tasks task other (record (state_of core task) { made = o.made }) apart)

  module _ (rises : (state_of core task).made ≤ o.made) (few : o.made ≤ (state_of core task).made + 1) (order : IsOrdered core.memory → IsOrdered o.memory)
      (names : NamesAreLeft task (state_of core task).made core.memory → NamesAreLeft task o.made o.memory)
      (stay : (other : ℕ) (obj : Obj) → other ≢ task → object_of o.memory (Task other) obj ≡ object_of core.memory (Task other) obj) where
    names_by : (other : ℕ) → ((other == task) ≡ true) × (other ≡ task) ⊎ ((other == task) ≡ false) × (other ≢ task)
        → NamesAreLeft other (state_of core other).made core.memory → NamesAreLeft other (state_of access_core other).made o.memory
    names_by other (inl e) =
        subst (λ t. NamesAreLeft t (state_of core t).made core.memory → NamesAreLeft t (state_of access_core t).made o.memory) (sym e.1)
        (λ left. subst (λ (s : TaskState). NamesAreLeft task s.made o.memory) (sym own_state) (names left))
    names_by other (inr e) =
        λ left. subst (λ (s : TaskState). NamesAreLeft other s.made o.memory) (sym (other_state other e.1))
        (λ number past. stay other (Dyn number) e.1 ∙ left number past)

    left_accessed : Left setup core access_core task
    left_accessed = record {
      keeps = record {
        postings = omega arith;
        comms = omega arith;
        requests = λ other. omega arith;
        made = made_set core.tasks task (record (state_of core task) { made = o.made }) rises;
        names = λ other. names_by other (eqb_tells other task);
      };
      few = record {
        postings = omega arith;
        requests = λ other. omega arith;
        made = made_few core.tasks task (record (state_of core task) { made = o.made }) few;
        arrivals = omega arith;
        visits = omega arith;
        exits = omega arith;
      };
      order = order;
      tasks = length_set core.tasks task (record (state_of core task) { made = o.made });
      lists = refl;
      own = same_own setup core access_core refl refl;
      others = λ own other obj apart. inl (stay other obj apart);
    }

pub accessed_leaves : (setup : Setup) (core : Core) (task : ℕ) → task < length core.tasks → (a : Access) → AccessLeaves core task a → Leaves setup core task (accessed core task a)
unfolding AccessLeaves
accessed_leaves setup core task there (Answers answer o) h = does_leave setup core _ task answer (left_accessed setup core task there answer o h.0 h.1 h.2 h.3 h.4)
accessed_leaves setup core task there (Breaks fault) h = fails_leave setup core task fault

-- every access of a task leaves what it should
module _ (setup : Setup) (core : Core) (task : ℕ) where
  names_of : NamesAreLeft task (state_of core task).made core.memory → EveryAccess (GivesOneName task (state_of core task).made) (owner_of setup task) task (objects_of core task)
  names_of left = names_last (owner_of setup task) task (objects_of core task) left

  others_of : (other : ℕ) (obj : Obj) → other ≢ task → EveryAccess (LeavesObject (Task other) obj core.memory) (owner_of setup task) task (objects_of core task)
  others_of other obj apart = others_stay (owner_of setup task) task (objects_of core task) (Task other) obj (λ e. apart (sym (own_name task other e))) (λ touched. owner_apart setup task other touched apart)

  rises_of : EveryAccess (Rises (state_of core task).made) (owner_of setup task) task (objects_of core task)
  rises_of = rises (owner_of setup task) task (objects_of core task)

  order_of : IsOrdered core.memory → EveryAccess LeavesOrder (owner_of setup task) task (objects_of core task)
  order_of ordered = order_stays (owner_of setup task) task (objects_of core task) ordered

  pub each_access : EveryAccess (AccessLeaves core task) (owner_of setup task) task (objects_of core task)
  each_access = record {
    load = λ marks at. access_leaves core task _ (rises_of.load marks at) (λ ordered. (order_of ordered).load marks at) (λ left. (names_of left).load marks at) (λ other obj apart. (others_of other obj apart).load marks at);
    store = λ marks at word. access_leaves core task _ (rises_of.store marks at word) (λ ordered. (order_of ordered).store marks at word) (λ left. (names_of left).store marks at word) (λ other obj apart. (others_of other obj apart).store marks at word);
    new = λ quota len. access_leaves core task _ (rises_of.new quota len) (λ ordered. (order_of ordered).new quota len) (λ left. (names_of left).new quota len) (λ other obj apart. (others_of other obj apart).new quota len);
    malloc = λ quota n. access_leaves core task _ (rises_of.malloc quota n) (λ ordered. (order_of ordered).malloc quota n) (λ left. (names_of left).malloc quota n) (λ other obj apart. (others_of other obj apart).malloc quota n);
    drop = λ marks obj. access_leaves core task _ (rises_of.drop marks obj) (λ ordered. (order_of ordered).drop marks obj) (λ left. (names_of left).drop marks obj) (λ other obj' apart. (others_of other obj' apart).drop marks obj);
    free = λ marks at. access_leaves core task _ (rises_of.free marks at) (λ ordered. (order_of ordered).free marks at) (λ left. (names_of left).free marks at) (λ other obj apart. (others_of other obj apart).free marks at);
  }
