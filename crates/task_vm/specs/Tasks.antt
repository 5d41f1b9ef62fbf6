-- What contracts see of a task.
use Rattle.std.specs.Prelude.{◌≡◌, ℕ, Bool, true, false, List}
use Rattle.mpc_values.specs.declared.calls.Call.{Call}
use Rattle.mpc_values.specs.declared.calls.Call.TheVariants as call
use Rattle.mpc_values.specs.declared.answers.Answer.{Answer}
use Rattle.c_tree.specs.Asking.{fits}
use Rattle.c_code.specs.FlatCode.{FlatCode}
use Rattle.c_code.specs.Machine.{Mach}
use Rattle.c_code.specs.Following.{Follows, AsksNow}

-- A task: its code, the machine that runs it, whether a call was asked and not yet answered, whether memory was wanted
-- and not found, and whether finish or abort was answered.
pub record Tasked : Type 0 where
  pub code : FlatCode
  pub mach : Mach
  pub asked : Bool
  pub short : Bool
  pub over : Bool

-- the task is where these answers have led
abbrev pub HasHad : Tasked → List Answer → Type 0
HasHad task given = Follows task.code given task.mach

-- the call that the task asks, and its line
abbrev pub IsAsking : Tasked → Call → ℕ → Type 0
IsAsking task call line = AsksNow task.code task.mach call line

-- behind the answer to finish or abort a task asks nothing
abbrev pub ends_task : Call → Bool
ends_task (call.Finish code) = true
ends_task (call.Abort comm code) = true
ends_task other = false

-- A call was asked and not yet answered, and the answer is one of its kind.
pub record Awaits (task : Tasked) (answer : Answer) : Type 0 where
  pub asked : task.asked ≡ true
  pub call : Call
  pub line : ℕ
  pub asks : IsAsking task call line
  pub fitting : fits call answer ≡ true
