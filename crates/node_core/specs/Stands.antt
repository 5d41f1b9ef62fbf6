-- When the parts of a state stand for a world: one line a part, from the world to the state.
use Rattle.std.specs.Prelude.{◌≡◌, ◌<◌, ℕ, List, [], length, map, slice_get, slice_set, Some}
use Rattle.mpc_base.specs.declared.journals.Out.{Out}
use Rattle.mpc_base.specs.declared.journals.Out.TheVariants.{Waits, Did, Broke}
use Rattle.mpi_request.specs.declared.requests.Request.{Request}
use Rattle.run_model.specs.declared.progress.Course.{Course}
use Rattle.mpi_request.specs.Pending.{marks_of}
use Rattle.object_heap.specs.Objects.{Shows}
use Rattle.object_heap.specs.Marks.{marks_in}
use Rattle.mem_space.specs.Spaces.{Space, made_in}
use Rattle.run_model.specs.Setup.{Setup}
use Rattle.run_model.specs.Owners.{sharing}
use Rattle.run_model.specs.World.{TaskState, Core, World}
use Rattle.run_model.specs.Outcomes.{Outcome, Does, Fails, state_of}
use Rattle.run_model.specs.Outcomes.{Waits as Stays}
use Rattle.node_core.specs.declared.parts.OwnPart.{OwnPart}
use Rattle.node_core.specs.declared.parts.TaskPart.{TaskPart}
use Rattle.node_core.specs.declared.parts.Matching.{Matching}
use Rattle.node_core.specs.declared.parts.Shared.{Shared}
use Rattle.node_core.specs.declared.parts.State.{State}
use Rattle.mpi_comm.specs.Seen.{seen_all}
use Rattle.node_core.specs.Each.{Each}

-- a task's own part stands for what the core keeps of the task
pub record OwnStands (state : TaskState) (own : OwnPart) : Type 0 where
  pub output : state.output ≡ own.output.items
  pub phase : state.phase ≡ own.phase

-- no task has a request
abbrev pub NoRequests : List (List Request) → Type 0
NoRequests requests = (i : ℕ) (own : List Request) → slice_get requests i ≡ Some own → own ≡ []

-- What tasks match messages and meet by stands for a core. No call that is built posts, completes or arrives.
pub record MatchingStands (core : Core) (m : Matching) : Type 0 where
  pub comms : seen_all core.comms ≡ m.comms
  pub requests : NoRequests core.requests
  pub postings : core.postings ≡ []
  pub carried : core.carried ≡ []
  pub arrivals : core.arrivals ≡ []

-- the space of all tasks stands for a core: it holds the memories, has counted the objects that each task made, and has
-- marked the places of active requests
pub record SpaceStands (core : Core) (space : Space) : Type 0 where
  pub memory : Shows space.heap core.memory
  pub made : (i : ℕ) (state : TaskState) → slice_get core.tasks i ≡ Some state → state.made ≡ made_in space i
  pub marks : marks_of core.requests ≡ marks_in space.heap

-- a space is that of a setup
pub record IsSpaceOf (setup : Setup) (space : Space) : Type 0 where
  pub sharing : space.sharing ≡ sharing setup
  pub quota : space.quota ≡ setup.quota

-- what tasks share stands for a core
pub record SharedStands (core : Core) (shared : Shared) : Type 0 where
  pub space : SpaceStands core shared.space
  pub met : MatchingStands core shared.matching
  pub visits : core.visits ≡ []
  pub exits : core.exits ≡ []

-- the parts that a task's call touches stand for a core
pub record Serves (core : Core) (task : ℕ) (shared : Shared) (own : OwnPart) : Type 0 where
  pub there : task < length core.tasks
  pub mine : OwnStands (state_of core task) own
  pub all : SharedStands core shared

-- the same of the core after a call, which leaves the other tasks as they were
pub record Leaves (core after : Core) (task : ℕ) (shared : Shared) (own : OwnPart) : Type 0 where
  pub serves : Serves after task shared own
  pub others : after.tasks ≡ slice_set core.tasks task (state_of after task)

-- the parts after a call, with what became of it, are what the call comes to
abbrev pub Follows : Core → ℕ → Shared → OwnPart → Out → Outcome → Type 0
Follows core task shared own (Did answer) outcome = (after : Core) × (outcome ≡ Does answer after) × Leaves core after task shared own
Follows core task shared own (Broke fault) outcome = (outcome ≡ Fails fault) × Serves core task shared own
Follows core task shared own Waits outcome = (outcome ≡ Stays) × Serves core task shared own

-- a task's part stands for what the core keeps of the task
abbrev pub PartStands : TaskState → TaskPart → Type 0
PartStands state part = OwnStands state part.own

-- the parts of all tasks stand for a core
pub record CoreStands (core : Core) (shared : Shared) (parts : List TaskPart) : Type 0 where
  pub tasks : Each PartStands core.tasks parts
  pub all : SharedStands core shared

-- how far a task has come
abbrev pub course_in : TaskPart → Course
course_in part = part.course

-- the same of all tasks
abbrev pub courses_in : List TaskPart → List Course
courses_in parts = map course_in parts

-- the state stands for the world
pub record Stands (w : World) (s : State) : Type 0 where
  pub core : CoreStands w.core s.shared s.tasks.items
  pub courses : w.log.courses ≡ courses_in s.tasks.items
  pub last : w.log.last ≡ s.last
