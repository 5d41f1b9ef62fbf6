-- The state at the start stands for the start.
use Rattle.std.proofs.Common.{◌≡◌, ℕ, zero, suc, List, [], ◌∷◌, length, replicate, slice_get, All, Some, None, refl, sym, ap, subst, ◌∙◌}
use Rattle.std.proofs.lemmas.Option.{slice_get_within, get_or_from_slice_get}
use Rattle.mpi_comm.specs.Communicators.{comm_world}
use Rattle.run_model.specs.declared.progress.Course.{Course}
use Rattle.run_model.specs.Setup.{Setup, tasks_of}
use Rattle.mpc_base.specs.declared.journals.End.{End}
use Rattle.run_model.specs.Valid.{Valid}
use Rattle.run_model.specs.World.{TaskState, World}
use Rattle.run_model.specs.Ending.{ending}
use Rattle.run_model.specs.Run.{Ran, at_start, world_of}
use Rattle.run_model.specs.Steps.{answers_of}
use Rattle.run_model.proofs.Answers.{none_yet}
use Rattle.run_model.proofs.Runs.{run_from-none}
use Rattle.node_core.specs.IsRun.{IsRun}
use Rattle.run_model.specs.Start.{start, first_core, first_task, first_course}
use Rattle.node_core.specs.declared.parts.TaskPart.{TaskPart}
use Rattle.node_core.specs.declared.parts.State.{State}
use Rattle.mpi_comm.specs.Seen.{seen_all}
use Rattle.node_core.specs.Stands.{SpaceStands, IsSpaceOf, Stands, courses_in}
use Rattle.node_core.specs.Starts.{IsFirst}
use Rattle.node_core.specs.Steps.{NotedFits, AllFit}

get_replicate : {X : Type 0} (count : ℕ) (a x : X) (i : ℕ) → slice_get (replicate count a) i ≡ Some x → a ≡ x
get_replicate zero a x i h = absurd (cc h)
get_replicate (suc count) a x zero h = cc
get_replicate (suc count) a x (suc i) h = get_replicate count a x i h

length_replicate : {X : Type 0} (count : ℕ) (a : X) → length (replicate count a) ≡ count
length_replicate zero a = refl
length_replicate (suc count) a = ap suc (length_replicate count a)

first_at : (parts : List TaskPart) (i : ℕ) (part : TaskPart) → All IsFirst parts → slice_get parts i ≡ Some part → IsFirst part
first_at parts i part h at = subst IsFirst (get_or_from_slice_get parts i part part at) (h i part (slice_get_within parts i part at))

first_courses : (parts : List TaskPart) → ((i : ℕ) (part : TaskPart) → slice_get parts i ≡ Some part → part.course ≡ first_course) → replicate (length parts) first_course ≡ courses_in parts
first_courses [] h = refl
first_courses (x ∷ parts) h = ap (λ c. c ∷ replicate (length parts) first_course) (sym (h 0 x refl)) ∙ ap (λ cs. x.course ∷ cs) (first_courses parts (λ i part at. h (suc i) part at))

pub starts : (setup : Setup) (s : State) (tasks : ℕ) → length s.tasks.items ≡ tasks → All IsFirst s.tasks.items → s.shared.matching.comms ≡ seen_all (comm_world tasks ∷ []) → s.last ≡ None → tasks_of setup ≡ tasks → SpaceStands (first_core setup) s.shared.space
    → Stands (start setup) s
starts setup s tasks count first comms last are space = record {
  core = record {
    tasks = record {
      same = length_replicate (tasks_of setup) first_task ∙ are ∙ sym count;
      at = λ i state part here there.
          let f = first_at s.tasks.items i part first there in
          let same : first_task ≡ state = get_replicate (tasks_of setup) first_task state i here in
          record { output = ap (λ (x : TaskState). x.output) (sym same) ∙ sym f.output; phase = ap (λ (x : TaskState). x.phase) (sym same) ∙ sym f.phase };
    };
    all = record {
      space = space;
      met = record {
        comms = ap (λ n. seen_all (comm_world n ∷ [])) are ∙ sym comms;
        requests = λ i own here. sym (get_replicate (tasks_of setup) [] own i here);
        postings = refl;
        carried = refl;
        arrivals = refl;
      };
      visits = refl;
      exits = refl;
    };
  };
  courses = ap (λ n. replicate n first_course) (are ∙ sym count) ∙ first_courses s.tasks.items (λ i part at. (first_at s.tasks.items i part first at).course);
  last = sym last;
}

pub all_fit_first : (parts : List TaskPart) → All IsFirst parts → AllFit parts
all_fit_first parts first i part at = subst (λ (c : Course). NotedFits c.noted) (sym (first_at parts i part first at).course) tt

-- a node begins with the run of no entry
pub begins : (setup : Setup) (s : State) (e : End) → Valid setup → Stands (start setup) s → IsSpaceOf setup s.shared.space → AllFit s.tasks.items → ((setup' : Setup) (w : World) → Stands w s → e ≡ ending setup' w) → IsRun setup [] s e None
begins setup s e valid stands set noted ends =
    let same : world_of setup [] ≡ start setup = ap (λ (r : Ran). r.world) (run_from-none setup (at_start setup)) in
    let there : Stands (world_of setup []) s = subst (λ w. Stands w s) (sym same) stands in
    record {
      valid = valid;
      legal = ap (λ (r : Ran). r.entries) (run_from-none setup (at_start setup));
      stands = there;
      set = set;
      noted = noted;
      ended = ends setup (world_of setup []) there;
      stopped = tt;
    }

-- a task has had no answer at the start
pub none_asked : (setup : Setup) (task : ℕ) → answers_of (world_of setup []) task ≡ []
none_asked setup task = ap (λ (r : Ran). answers_of r.world task) (run_from-none setup (at_start setup)) ∙ none_yet (tasks_of setup) task
