-- When a setup is valid.
use Rattle.std.specs.Prelude.{◌≡◌, ℕ, ◌*◌, ◌≤◌, ◌<◌, T, length, map, sum, All}
use Rattle.std.specs.List.{list_all}
use Rattle.mpc_values.specs.declared.owners.StaticVar.{StaticVar}
use Rattle.mpc_values.specs.declared.limits.TheConstants.{MAX_TASKS, MAX_CORES, MAX_EAGER, MAX_QUOTA, MAX_CALLS, MAX_STATIC_VARIABLES, MAX_STATIC_WORDS, MAX_CONSTRUCTS}
use Rattle.topology.specs.Instances.{numbers_fit}
use Rattle.run_model.specs.Setup.{Setup, tasks_of}
use Rattle.run_model.specs.Fitting.{AsksKnown}

-- A setup that a run may have. Each number is in the range of its option, program and machine keep their limits, and the
-- program is whole, as each typed program is: its main is one of its functions, and it enters only constructs that it has.
pub record Valid (setup : Setup) : Type 0 where
  pub some_task : 1 ≤ tasks_of setup
  pub few_tasks : tasks_of setup ≤ MAX_TASKS
  pub few_cores : length setup.machine ≤ MAX_CORES
  pub instances : T (list_all numbers_fit setup.machine)
  pub placed : All (λ core. core < length setup.machine) setup.cores
  pub eager : setup.eager ≤ MAX_EAGER
  pub quota : setup.quota ≤ MAX_QUOTA
  pub some_call : 1 ≤ setup.calls
  pub few_calls : setup.calls ≤ MAX_CALLS
  pub few_entries : tasks_of setup * setup.calls ≤ MAX_CALLS
  pub few_variables : length setup.program.variables ≤ MAX_STATIC_VARIABLES
  pub few_words : sum (map (λ (v : StaticVar). v.len) setup.program.variables) ≤ MAX_STATIC_WORDS
  pub few_constructs : length setup.program.constructs ≤ MAX_CONSTRUCTS
  pub first_words : All (λ (v : StaticVar). length v.first ≡ v.len) setup.program.variables
  pub main : setup.program.main < length setup.program.functions
  pub known : AsksKnown setup
