-- The bounds of a run, as the code reads them first.
use Rattle.std.specs.Prelude.{◌≡◌, ◌≤◌, ◌*◌, List, Some, codes}
use Rattle.mpc_values.specs.declared.limits.TheConstants.{MAX_TASKS, MAX_EAGER, DEFAULT_EAGER, MAX_QUOTA, DEFAULT_QUOTA, MAX_CALLS, DEFAULT_CALLS}
use Rattle.clap.specs.Words.{Row}
use Rattle.command_words.specs.declared.reading.Bounds.{Bounds}
use Rattle.command_words.specs.Words.{value_of}
use Rattle.command_words.specs.Standing.{number_or}

pub record AreBounds (found : List Row) (b : Bounds) : Type 0 where
  pub tasks : number_or 1 1 MAX_TASKS (value_of found (codes "tasks")) ≡ Some b.tasks
  pub eager : number_or DEFAULT_EAGER 0 MAX_EAGER (value_of found (codes "eager")) ≡ Some b.eager
  pub quota : number_or DEFAULT_QUOTA 0 MAX_QUOTA (value_of found (codes "quota")) ≡ Some b.quota
  pub calls : number_or DEFAULT_CALLS 1 MAX_CALLS (value_of found (codes "calls")) ≡ Some b.calls
  pub few : b.tasks * b.calls ≤ MAX_CALLS
