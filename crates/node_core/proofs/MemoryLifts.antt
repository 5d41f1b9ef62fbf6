-- The lifts of the calls on memory.
use Rattle.std.proofs.Common.{◌≡◌, ◌<◌, inl, inr, ℕ, ℤ, slice_set, Result, Ok, Err, refl, sym, ap, subst, ◌∙◌}
use Rattle.std.proofs.Math.Path.{fun_ext}
use Rattle.mpc_values.specs.declared.values.Obj.{Obj}
use Rattle.mpc_values.specs.declared.values.Obj.TheVariants.{Glob, Dyn}
use Rattle.mpc_values.specs.declared.values.Word.{Word}
use Rattle.mpc_values.specs.declared.answers.Answer.{Answer}
use Rattle.mpc_values.specs.declared.faults.Fault.{Fault}
use Rattle.mpc_values.specs.declared.calls.Call.TheVariants as call
use Rattle.memory_model.specs.Memory.{Memory}
use Rattle.memory_model.specs.Access.{Objects, Access, Answers, Breaks}
use Rattle.memory_model.specs.Access as access
use Rattle.block_table.specs.Rows.{is_send, is_receive}
use Rattle.mpi_request.specs.Pending.{marks_of}
use Rattle.tls_levels.specs.Sharing.{Sharing}
use Rattle.object_heap.specs.Layout.{Layout}
use Rattle.object_heap.specs.Objects.{Shows}
use Rattle.object_heap.specs.Marks.{marks_in, KeepsMarks}
use Rattle.mem_space.specs.Spaces.{Space, owner_for, objects_in, made_in}
use Rattle.mem_space.specs.Places.{AccessKeeps}
use Rattle.mem_space.specs.Accesses.{Comes}
use Rattle.run_model.specs.Setup.{Setup}
use Rattle.run_model.specs.Owners.{sharing, owner_of}
use Rattle.run_model.specs.World.{TaskState, Core}
use Rattle.run_model.specs.Outcomes.{Outcome, state_of, with_state}
use Rattle.run_model.specs.MemoryCalls.{objects_of, accessed, load, store, new, drop, malloc, free}
use Rattle.run_model.specs.Act.{act}
use Rattle.node_core.specs.declared.parts.OwnPart.{OwnPart}
use Rattle.node_core.specs.declared.parts.Shared.{Shared}
use Rattle.node_core.specs.Built.{out_of}
use Rattle.node_core.specs.Stands.{OwnStands, SpaceStands, IsSpaceOf, Serves, Leaves, Follows}
use Rattle.node_core.proofs.Places.{get_set_other, length_set, state_of-with, same_or_other, set_at}
use Rattle.node_core.proofs.Lifts.{state_there}

-- an access that changes nothing keeps all
pub same_access : (space : Space) (task : ℕ) → AccessKeeps space space task
same_access space task = record {
  rest = record { sharing = refl; quota = refl; spans = λ span places is lives. is };
  marks = λ owner obj p. refl;
  copies = record { kept = λ all are. are; words = λ all are k d less. refl };
  made = λ other apart. refl;
}

-- heaps that are marked alike have the same marks
pub same_marks : (old new : Layout) → KeepsMarks old new → marks_in old ≡ marks_in new
same_marks old new keeps i = record {
  sent = λ owner obj p. is_send (sym (keeps owner obj p) i);
  received = λ owner obj p. is_receive (sym (keeps owner obj p) i);
}

-- whose copies a task touches is said alike of a space and of its setup
pub same_owners : (setup : Setup) (sharers : Sharing) (task : ℕ) → sharers ≡ sharing setup → owner_for sharers task ≡ owner_of setup task
unfolding owner_for owner_of
same_owners setup sharers task is = ap (λ s. owner_for s task) is ∙ fun_ext each
  where
    each : (obj : Obj) → owner_for (sharing setup) task obj ≡ owner_of setup task obj
    each (Glob variable) = refl
    each (Dyn made) = refl

module _ (core : Core) (task : ℕ) (shared : Shared) (own : OwnPart) (s : Serves core task shared own) where
  -- what the access finds is the same in the space and in the core
  found : objects_of core task ≡ objects_in shared.space core.memory task
  found = ap (λ n. record { memory = core.memory; made = n }) (s.all.space.made task (state_of core task) (state_there core task s.there))

  module _ (space : Space) (keeps : AccessKeeps shared.space space task) (memory : Memory) (shows : Shows space.heap memory) where
    state : TaskState
    state = record (state_of core task) { made = made_in space task }

    after : Core
    after = with_state (record core { memory = memory }) task state

    space_after : SpaceStands after space
    unfolding state after
    space_after = record {
      memory = shows;
      made = λ i x at.
          elim (same_or_other i task) [
            | inl same ↦ let e : state ≡ x = set_at core.tasks task i state x same at in
                ap (λ (t : TaskState). t.made) (sym e) ∙ ap (made_in space) (sym same)
            | inr other ↦ s.all.space.made i x (sym (get_set_other core.tasks task i state other) ∙ at) ∙ sym (keeps.made i other)
          ];
      marks = s.all.space.marks ∙ same_marks shared.space.heap space.heap keeps.marks;
    }

    leaves : Leaves core after task (record { space = space; matching = shared.matching }) own
    unfolding state after
    leaves = record {
      serves = record {
        there = subst (λ n. task < n) (sym (length_set core.tasks task state)) s.there;
        mine = subst (λ (x : TaskState). OwnStands x own) (sym (state_of-with (record core { memory = memory }) task state s.there)) (record { output = s.mine.output; phase = s.mine.phase });
        all = record {
          space = space_after;
          met = record { comms = s.all.met.comms; requests = s.all.met.requests; postings = s.all.met.postings; carried = s.all.met.carried; arrivals = s.all.met.arrivals };
          visits = s.all.visits;
          exits = s.all.exits;
        };
      };
      others = ap (slice_set core.tasks task) (sym (state_of-with (record core { memory = memory }) task state s.there));
    }

  -- an access of the space is the call
  pub follows_access : (space : Space) (access : Objects → Access) (did : Result Answer Fault) (outcome : Outcome) → Comes shared.space space task access did → AccessKeeps shared.space space task
      → outcome ≡ accessed core task (access (objects_of core task))
      → Follows core task (record { space = space; matching = shared.matching }) own (out_of did) outcome
  unfolding leaves after state
  follows_access space access (Ok answer) outcome comes keeps is =
      let a = comes core.memory s.all.space.memory in
      (after space keeps a.memory a.shows, is ∙ ap (λ o. accessed core task (access o)) found ∙ ap (accessed core task) a.gives, leaves space keeps a.memory a.shows)
  follows_access space access (Err fault) outcome comes keeps is = (
    is ∙ ap (λ o. accessed core task (access o)) found ∙ ap (accessed core task) (comes.0 core.memory s.all.space.memory),
    subst (λ (x : Space). Serves core task (record { space = x; matching = shared.matching }) own) (sym comes.1) s,
  )

module _ (setup : Setup) (core : Core) (task : ℕ) (shared : Shared) (own : OwnPart) (s : Serves core task shared own) (set : IsSpaceOf setup shared.space) (did : Result Answer Fault) where
  owners : owner_of setup task ≡ owner_for shared.space.sharing task
  owners = sym (same_owners setup shared.space.sharing task set.sharing)

  pub load_lifts : (space : Space) (at : Word) → AccessKeeps shared.space space task
      → Comes shared.space space task (λ o. access.load (owner_for shared.space.sharing task) (marks_in shared.space.heap) o at) did
      → Follows core task (record { space = space; matching = shared.matching }) own (out_of did) (act setup core task (call.Load at))
  unfolding act load
  load_lifts space at keeps comes =
      follows_access core task shared own s space (λ o. access.load (owner_for shared.space.sharing task) (marks_in shared.space.heap) o at) did (load setup core task at) comes keeps
      (ap (λ f. accessed core task (access.load f (marks_of core.requests) (objects_of core task) at)) owners
      ∙ ap (λ m. accessed core task (access.load (owner_for shared.space.sharing task) m (objects_of core task) at)) s.all.space.marks)

  pub store_lifts : (space : Space) (at word : Word) → AccessKeeps shared.space space task
      → Comes shared.space space task (λ o. access.store (owner_for shared.space.sharing task) (marks_in shared.space.heap) o at word) did
      → Follows core task (record { space = space; matching = shared.matching }) own (out_of did) (act setup core task (call.Store at word))
  unfolding act store
  store_lifts space at word keeps comes =
      follows_access core task shared own s space (λ o. access.store (owner_for shared.space.sharing task) (marks_in shared.space.heap) o at word) did (store setup core task at word) comes keeps
      (ap (λ f. accessed core task (access.store f (marks_of core.requests) (objects_of core task) at word)) owners
      ∙ ap (λ m. accessed core task (access.store (owner_for shared.space.sharing task) m (objects_of core task) at word)) s.all.space.marks)

  pub new_lifts : (space : Space) (len : ℕ) → AccessKeeps shared.space space task → Comes shared.space space task (λ o. access.new shared.space.quota task o len) did
      → Follows core task (record { space = space; matching = shared.matching }) own (out_of did) (act setup core task (call.New len))
  unfolding act new
  new_lifts space len keeps comes =
      follows_access core task shared own s space (λ o. access.new shared.space.quota task o len) did (new setup core task len) comes keeps
      (ap (λ q. accessed core task (access.new q task (objects_of core task) len)) (sym set.quota))

  pub drop_lifts : (space : Space) (obj : Obj) → AccessKeeps shared.space space task → Comes shared.space space task (λ o. access.drop (marks_in shared.space.heap) task o obj) did
      → Follows core task (record { space = space; matching = shared.matching }) own (out_of did) (act setup core task (call.Drop obj))
  unfolding act drop
  drop_lifts space obj keeps comes =
      follows_access core task shared own s space (λ o. access.drop (marks_in shared.space.heap) task o obj) did (drop core task obj) comes keeps
      (ap (λ m. accessed core task (access.drop m task (objects_of core task) obj)) s.all.space.marks)

  pub malloc_lifts : (space : Space) (n : ℤ) → AccessKeeps shared.space space task → Comes shared.space space task (λ o. access.malloc shared.space.quota task o n) did
      → Follows core task (record { space = space; matching = shared.matching }) own (out_of did) (act setup core task (call.Malloc n))
  unfolding act malloc
  malloc_lifts space n keeps comes =
      follows_access core task shared own s space (λ o. access.malloc shared.space.quota task o n) did (malloc setup core task n) comes keeps
      (ap (λ q. accessed core task (access.malloc q task (objects_of core task) n)) (sym set.quota))

  pub free_lifts : (space : Space) (at : Word) → AccessKeeps shared.space space task → Comes shared.space space task (λ o. access.free (marks_in shared.space.heap) task o at) did
      → Follows core task (record { space = space; matching = shared.matching }) own (out_of did) (act setup core task (call.Free at))
  unfolding act free
  free_lifts space at keeps comes =
      follows_access core task shared own s space (λ o. access.free (marks_in shared.space.heap) task o at) did (free core task at) comes keeps
      (ap (λ m. accessed core task (access.free m task (objects_of core task) at)) s.all.space.marks)
