-- What a machine has come to behind a list of answers, and code that never sticks.
use Rattle.std.specs.Prelude.{◌≡◌, ℕ, ◌+◌, List, ◌++◌, Some, slice_get}
use Rattle.mpc_values.specs.declared.calls.Call.{Call}
use Rattle.mpc_values.specs.declared.answers.Answer.{Answer}
use Rattle.c_tree.specs.Asking.{Next}
use Rattle.c_code.specs.declared.code.Entry.{Entry}
use Rattle.c_code.specs.FlatCode.{FlatCode}
use Rattle.c_code.specs.Machine.{Mach, Asks, step}
use Rattle.c_code.specs.Demands.{exec, Reaches, begins, turn_limit}

-- The machine is what a task that runs the code has come to behind these answers: it demands behind any further answers
-- what the code demands behind all of them.
pub record Follows (code : FlatCode) (given : List Answer) (m : Mach) : Type 0 where
  pub entry : Entry
  pub main : slice_get code.entries code.main ≡ Some entry
  pub steps : ℕ
  pub same : (n : ℕ) (more : List Answer) → exec code (steps + n) (begins code entry turn_limit) (given ++ more) ≡ exec code n m more

-- the machine asks this call at this line, and waits for its answer
abbrev pub AsksNow : FlatCode → Mach → Call → ℕ → Type 0
AsksNow code m call line = step code m m.script ≡ Asks call line

-- Main is one of the functions, and behind every list of answers the code demands something: so no state that a task comes
-- to lacks an operand, and none lies outside the code.
pub record NeverSticks (code : FlatCode) : Type 0 where
  pub entry : Entry
  pub main : slice_get code.entries code.main ≡ Some entry
  pub demands : (answers : List Answer) → (o : Next) × Reaches code (begins code entry turn_limit) answers o
