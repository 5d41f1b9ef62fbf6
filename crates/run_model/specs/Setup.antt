-- What a run is set up from.
use Rattle.std.specs.Prelude.{ℕ, List, length}
use Rattle.c_tree.specs.Programs.{Program}
use Rattle.c_tree.specs.ProgramOf.{program_of}
use Rattle.topology.specs.declared.core_numbers.CoreNumbers.{CoreNumbers}
use Rattle.run_model.specs.declared.records.Setup.{Setup as Given}

-- The typed program, the cores of the machine, the core of each task by rising task number, the most words of a
-- message that a standard send may keep for itself, the most live words of a task, and the most entries of a task.
pub record Setup : Type 0 where
  pub program : Program
  pub machine : List CoreNumbers
  pub cores : List ℕ
  pub eager : ℕ
  pub quota : ℕ
  pub calls : ℕ

-- the same of the setup that the code has
abbrev pub setup_of : Given → Setup
setup_of given = record {
  program = program_of given.program;
  machine = given.machine;
  cores = given.cores;
  eager = given.eager;
  quota = given.quota;
  calls = given.calls;
}

-- how many tasks a run has
abbrev pub tasks_of : Setup → ℕ
tasks_of setup = length setup.cores
