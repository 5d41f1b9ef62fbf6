-- The world in which a run starts.
use Rattle.std.specs.Prelude.{ℕ, ◌+◌, ◌==◌, List, [], ◌∷◌, replicate, None, if◌then◌else◌}
use Rattle.mpc_values.specs.declared.values.Obj.TheVariants.{Glob}
use Rattle.mpc_values.specs.declared.owners.Owner.{Owner}
use Rattle.mpc_values.specs.declared.owners.StaticVar.{StaticVar}
use Rattle.memory_model.specs.declared.kinds.Kind.TheVariants.{Static}
use Rattle.memory_model.specs.Memory.{Memory, with_object}
use Rattle.tls_levels.specs.Images.{image_number}
use Rattle.tls_levels.specs.Owners.{owner_level, owners_of}
use Rattle.mpi_comm.specs.Communicators.{comm_world}
use Rattle.run_model.specs.declared.progress.Phase.TheVariants.{Before}
use Rattle.run_model.specs.declared.progress.Course.{Course}
use Rattle.run_model.specs.Setup.{Setup, tasks_of}
use Rattle.run_model.specs.World.{TaskState, Core, Log, World}

-- The memory with an owner's copies of the variables from a number on, each with its first words: those without a level
-- for a task, those of its level for an instance.
abbrev pub with_copies : Owner → ℕ → List StaticVar → Memory → Memory
with_copies owner number [] m = m
with_copies owner number (variable ∷ more) m =
    if image_number variable.level == image_number (owner_level owner)
    then with_object (with_copies owner (number + 1) more m) owner (Glob number) (record { kind = Static; words = variable.first })
    else with_copies owner (number + 1) more m

-- the same for each of these owners
abbrev pub with_copies_of : List StaticVar → List Owner → Memory
with_copies_of variables [] = []
with_copies_of variables (owner ∷ more) = with_copies owner 0 variables (with_copies_of variables more)

-- the memory at the start: each task's private variables, and each shared variable once for each instance of its level
-- that holds the core of a task
unfoldable pub first_memory : Setup → Memory
first_memory setup = with_copies_of setup.program.variables (owners_of setup.machine setup.cores)

-- a task at the start
abbrev pub first_task : TaskState
first_task = record { made = 0; output = []; phase = Before }

-- the course of a task at the start
abbrev pub first_course : Course
first_course = record { entries = 0; noted = None; exit = None }

-- the core at the start
abbrev pub first_core : Setup → Core
first_core setup = record {
  memory = first_memory setup;
  tasks = replicate (tasks_of setup) first_task;
  requests = replicate (tasks_of setup) [];
  postings = [];
  carried = [];
  comms = comm_world (tasks_of setup) ∷ [];
  arrivals = [];
  visits = [];
  exits = [];
}

-- the log at the start
abbrev pub first_log : Setup → Log
first_log setup = record { courses = replicate (tasks_of setup) first_course; answers = replicate (tasks_of setup) []; last = None }

-- the world in which a run starts
abbrev pub start : Setup → World
start setup = record { core = first_core setup; log = first_log setup }
