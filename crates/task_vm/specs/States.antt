-- What a task keeps between its calls.
use Rattle.std.specs.Prelude.{◌≡◌, ℕ, Bool, true, false, List, Option, Some, None}
use Rattle.mpc_values.specs.declared.calls.Call.{Call}
use Rattle.mpc_values.specs.declared.answers.Answer.{Answer}
use Rattle.c_code.specs.FlatCode.{FlatCode}
use Rattle.c_code.specs.Machine.{Mach, resume}
use Rattle.c_code.specs.Following.{Follows, AsksNow}
use Rattle.task_vm.specs.Seen.{IsPlaced, gone_on}
use Rattle.task_vm.specs.Tasks.{Tasked, ends_task}
use Rattle.task_vm.specs.declared.states.State.{State}
use Rattle.task_vm.specs.declared.states.State.TheVariants.{Ready, Asked, Answered, Over, Short}

-- the answer that the machine has still to take
abbrev pub pending_of : State → Option Answer
pending_of Ready = None
pending_of (Asked ends) = None
pending_of (Answered answer) = Some answer
pending_of Over = None
pending_of Short = None

abbrev pub is_asked : State → Bool
is_asked Ready = false
is_asked (Asked ends) = true
is_asked (Answered answer) = false
is_asked Over = false
is_asked Short = false

abbrev pub is_over : State → Bool
is_over Ready = false
is_over (Asked ends) = false
is_over (Answered answer) = false
is_over Over = true
is_over Short = false

abbrev pub is_short : State → Bool
is_short Ready = false
is_short (Asked ends) = false
is_short (Answered answer) = false
is_short Over = false
is_short Short = true

-- the machine behind an answer that it has still to take
abbrev pub behind_answer : FlatCode → Mach → Option Answer → Mach
behind_answer code m None = m
behind_answer code m (Some answer) = gone_on m (resume code m answer m.script)

abbrev pub tasked : FlatCode → Mach → State → Tasked
tasked code m state = record { code = code; mach = behind_answer code m (pending_of state); asked = is_asked state; short = is_short state; over = is_over state }

-- Some answers have led a task that runs the code to the machine; and a script is taken at the place of its instruction.
pub record IsReached (code : FlatCode) (m : Mach) : Type 0 where
  pub given : List Answer
  pub follows : Follows code given m
  pub placed : IsPlaced m.script m.pc

-- whether the call that was asked is the task's last
abbrev pub KnowsEnd : FlatCode → Mach → State → Type 0
KnowsEnd code m Ready = Unit {0}
KnowsEnd code m (Asked ends) = (call : Call) (line : ℕ) → AsksNow code m call line → ends_task call ≡ ends
KnowsEnd code m (Answered answer) = Unit {0}
KnowsEnd code m Over = Unit {0}
KnowsEnd code m Short = Unit {0}

-- what is true of every task
pub record IsSound (code : FlatCode) (m : Mach) (state : State) : Type 0 where
  pub reached : is_short state ≡ false → is_over state ≡ false → IsReached code (behind_answer code m (pending_of state))
  pub ending : KnowsEnd code m state
