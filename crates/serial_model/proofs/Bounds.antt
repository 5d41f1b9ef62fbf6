-- How many entries a run of one task makes, and how many objects its task has made.
use Rattle.std.proofs.Common.{◌≡◌, ℕ, zero, suc, pos, ◌+◌, ◌<◌, ◌≤◌, true, false, nat_le, List, [], ◌∷◌, ◌++◌, length, slice_get, Some, None, refl, ap, sym, subst, ◌∙◌, if◌then◌else◌, slice_index, slice_set, lit≤, arith, length-append}
use Rattle.std.proofs.lemmas.Bool.Decides.{nat_tests}
use Rattle.mpc_values.specs.declared.values.Word.TheVariants.{Int}
use Rattle.mpc_values.specs.declared.values.Obj.TheVariants.{Glob, Dyn}
use Rattle.mpc_values.specs.declared.owners.Owner.TheVariants.{Task}
use Rattle.mpc_base.specs.declared.journals.Entry.{Entry}
use Rattle.mpc_values.specs.declared.answers.Answer.TheVariants.{Gives}
use Rattle.mpc_base.specs.declared.journals.Out.TheVariants.{Did, Broke}
use Rattle.mpc_values.specs.declared.calls.Call.{Call}
use Rattle.mpc_values.specs.declared.calls.Call.TheVariants as call
use Rattle.mpc_values.specs.declared.faults.Fault.{Fault}
use Rattle.mpc_values.specs.declared.faults.Fault.TheVariants.{Calls, OutputFull}
use Rattle.c_tree.specs.Asking.{Next, Asks, Over, Misfit}
use Rattle.c_tree.specs.Next.{next_of}
use Rattle.c_tree.specs.ProgramOf.{program_of}
use Rattle.std.specs.Ordering.{nat_cmp}
use Rattle.std.specs.Cmp.Lexicographic.{slice_cmp}
use Rattle.std.specs.FinMap as map
use Rattle.mpc_values.specs.declared.owners.StaticVar.{StaticVar}
use Rattle.serial_memory.specs.declared.kinds.Kind.TheVariants.{Static}
use Rattle.serial_memory.specs.Memory.{Memory, key_of, object_of, with_object}
use Rattle.serial_memory.specs.Names.{NamesAreLeft, GivesOneName}
use Rattle.serial_memory.proofs.Memories.{get-insert_other}
use Rattle.serial_memory.proofs.Names.{names_last}
use Rattle.serial_memory.specs.Access.{Access, Answers, Breaks}
use Rattle.serial_model.specs.declared.records.Setup.{Setup}
use Rattle.serial_model.specs.World.{TaskState, owner_of, with_variables, first_task}
use Rattle.serial_model.specs.Go.{Act, Does, Fails, Unbuilt, act, accessed, print, objects_of, quota, output_limit, calls_limit, Stays, acted, fails, visited, count_of, counted, entry_of, answers_of, has_finished, has_ended, go, go_next, go_task}
use Rattle.serial_model.specs.Run.{Ran, run_from, ran_step, run, at_start}
use Rattle.serial_model.specs.Bounds.{Bounded}

-- a call gives one name at most, and leaves the later ones
GivesFew : ℕ → Act → Type 0
GivesFew made (Does answer m state) = (state.made ≤ made + 1) × NamesAreLeft 0 (objects_of m state)
GivesFew made (Fails fault) = Unit {0}
GivesFew made Unbuilt = Unit {0}

few_accessed : (state : TaskState) (access : Access) → GivesOneName 0 state.made access → GivesFew state.made (accessed state access)
unfolding GivesFew
few_accessed state (Answers answer o) few = few
few_accessed state (Breaks fault) few = tt

module _ (m : Memory) (state : TaskState) (left : NamesAreLeft 0 (objects_of m state)) where
  few_print : (text : List ℕ) → GivesFew state.made (print m state text)
  unfolding GivesFew
  few_print text =
      elim (nat_le (length state.output + length text) output_limit)
      as (λ b. GivesFew state.made (if b then Does (Gives (Int (pos (length text)))) m (record state { output = state.output ++ text }) else Fails OutputFull)) [
        | true ↦ (omega arith, left)
        | false ↦ tt
      ]

  few_act : (call : Call) → GivesFew state.made (act 0 m state call)
  unfolding GivesFew
  few_act (call.Load at) = few_accessed state _ ((names_last 0 (objects_of m state) left).load (owner_of 0) at)
  few_act (call.Store at word) = few_accessed state _ ((names_last 0 (objects_of m state) left).store (owner_of 0) at word)
  few_act (call.New len) = few_accessed state _ ((names_last 0 (objects_of m state) left).new quota len)
  few_act (call.Drop obj) = few_accessed state _ ((names_last 0 (objects_of m state) left).drop obj)
  few_act (call.Malloc n) = few_accessed state _ ((names_last 0 (objects_of m state) left).malloc quota n)
  few_act (call.Free at) = few_accessed state _ ((names_last 0 (objects_of m state) left).free at)
  few_act (call.Print text) = few_print text
  few_act (call.Broke fault) = tt
  few_act (call.Finish code) = (omega arith, left)
  few_act other = tt

module _ (r : Ran) (b : Bounded r) (call : Call) (line : ℕ) where
  counted_here : (entry : Entry) → counted r.world 0 ≡ length (r.entries ++ entry ∷ []) ∷ []
  counted_here entry =
      let more : length r.entries + 1 ≡ length (r.entries ++ entry ∷ []) = omega (arith, length-append r.entries (entry ∷ [])) in
      ap (λ counts. slice_set counts 0 (slice_index counts 0 + 1)) b.counts ∙ ap (λ n. n ∷ []) more

  bounded_fails : (fault : Fault) → Bounded (ran_step r (fails r.world 0 call line fault))
  bounded_fails fault = record {
    state = b.state;
    answers = b.answers;
    tasks = b.tasks;
    counts = counted_here (entry_of 0 call line (Broke fault));
    replies = b.replies;
    made = omega (arith, b.made, length-append r.entries (entry_of 0 call line (Broke fault) ∷ []));
    names = b.names;
    few = λ none. absurd (cc none);
  }

  bounded_acted : length r.entries < calls_limit → (done : Act) → GivesFew b.state.made done → Bounded (ran_step r (acted r.world 0 call line done))
  unfolding GivesFew
  bounded_acted room (Does answer m state) few = record {
    state = state;
    answers = answers_of r.world 0 ++ answer ∷ [];
    tasks = ap (λ tasks. slice_set tasks 0 state) b.tasks;
    counts = counted_here (entry_of 0 call line (Did answer));
    replies = ap (λ answers. slice_set answers 0 (answers_of r.world 0 ++ answer ∷ [])) b.replies;
    made = omega (arith, b.made, few.0, length-append r.entries (entry_of 0 call line (Did answer) ∷ []));
    names = few.1;
    few = λ none. omega (arith, room, length-append r.entries (entry_of 0 call line (Did answer) ∷ []));
  }
  bounded_acted room (Fails fault) few = bounded_fails fault
  bounded_acted room Unbuilt few = b

  bounded_visited : Bounded (ran_step r (visited r.world 0 b.state call line))
  bounded_visited =
      let here : count_of r.world 0 ≡ length r.entries = ap (λ counts. slice_index counts 0) b.counts in
      elim (nat_le calls_limit (count_of r.world 0)) as (λ full. nat_le calls_limit (count_of r.world 0) ≡ full
      → Bounded (ran_step r (if full then fails r.world 0 call line Calls else acted r.world 0 call line (act 0 r.world.memory b.state call)))) [
        | true ↦ λ full. bounded_fails Calls
        | false ↦ λ full. bounded_acted (grind (arith, nat_tests)) (act 0 r.world.memory b.state call) (few_act r.world.memory b.state b.names call)
      ] refl

module _ (setup : Setup) (r : Ran) (b : Bounded r) where
  bounded_next : (next : Next) → Bounded (ran_step r (go_next r.world 0 b.state next))
  bounded_next (Asks call line) = bounded_visited r b call line
  bounded_next Over = b
  bounded_next Misfit = b

  bounded_first : Bounded (ran_step r (go_task setup r.world 0 (Some b.state)))
  bounded_first =
      elim (has_finished b.state)
      as (λ over. Bounded (ran_step r (if over then Stays else go_next r.world 0 b.state (next_of (program_of setup.program) (answers_of r.world 0))))) [
        | true ↦ b
        | false ↦ bounded_next (next_of (program_of setup.program) (answers_of r.world 0))
      ]

  bounded_task : (task : ℕ) → Bounded (ran_step r (go_task setup r.world task (slice_get (b.state ∷ []) task)))
  bounded_task zero = bounded_first
  bounded_task (suc task) = b

  bounded_go : (task : ℕ) → Bounded (ran_step r (go setup r.world task))
  bounded_go task =
      elim (has_ended r.world)
      as (λ ended. Bounded (ran_step r (if ended then Stays else go_task setup r.world task (slice_get r.world.tasks task)))) [
        | true ↦ b
        | false ↦ subst (λ (tasks : List TaskState). Bounded (ran_step r (go_task setup r.world task (slice_get tasks task)))) (sym b.tasks) (bounded_task task)
      ]

bounded_from : (setup : Setup) (r : Ran) (order : List ℕ) → Bounded r → Bounded (run_from setup r order)
unfolding run_from
bounded_from setup r [] b = b
bounded_from setup r (task ∷ order) b = bounded_from setup (ran_step r (go setup r.world task)) order (bounded_go setup r b task)

-- static variables have no names of made objects
fresh_first : (variables : List StaticVar) (number : ℕ) (m : Memory) (made : ℕ) → object_of m (Task 0) (Dyn made) ≡ None → object_of (with_variables (Task 0) number variables m) (Task 0) (Dyn made) ≡ None
fresh_first [] number m made none = none
fresh_first (variable ∷ more) number m made none =
    fresh_first more (number + 1) (with_object m (Task 0) (Glob number) (record { kind = Static; words = variable.first })) made
    (get-insert_other m (key_of (Task 0) (Glob number)) (key_of (Task 0) (Dyn made)) (record { kind = Static; words = variable.first }) (λ e. cc) ∙ none)

-- every run is bounded
pub bounded : (setup : Setup) (order : List ℕ) → Bounded (run setup order)
bounded setup order = bounded_from setup (at_start setup) order (record {
  state = first_task;
  answers = [];
  tasks = refl;
  counts = refl;
  replies = refl;
  made = omega arith;
  names = λ number past. fresh_first setup.program.variables 0 map.empty number (map.get-empty (slice_cmp nat_cmp) (key_of (Task 0) (Dyn number)));
  few = λ none. lit≤ tt;
})
