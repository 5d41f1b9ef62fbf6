-- What a step shows of the machine before it and behind it.
use Rattle.std.specs.Prelude.{◌≡◌, ℕ, ◌<◌, ◌^◌, Option, Some, None}
use Rattle.mpc_values.specs.declared.calls.Call.{Call}
use Rattle.c_code.specs.Machine.{Mach, Scripting, Stepped, Moves, Asks, Sticks, Behind, Goes, Ends}
use Rattle.task_vm.specs.declared.machine.Step.{Step}
use Rattle.task_vm.specs.declared.machine.Step.TheVariants.{Went, Asked, Stuck}

-- The step that was taken is the one that is due: the machine behind it, or the call that is told, where the machine
-- stays as it was.
abbrev pub Shows : Step → Call → Stepped → Mach → Mach → Type 0
Shows Went call due old new = due ≡ Moves new
Shows (Asked line) call due old new = (due ≡ Asks call line) × (new ≡ old)
Shows Stuck call due old new = due ≡ Sticks

-- a step that leads on is one of an instruction, or of the script of one, so its place is no greater than a list is long
abbrev pub IsNear : Step → ℕ → Type 0
IsNear Went pc = pc < 2 ^ 63
IsNear (Asked line) pc = Unit {0}
IsNear Stuck pc = Unit {0}

-- a script is taken at the place of its instruction
abbrev pub IsPlaced : Option Scripting → ℕ → Type 0
IsPlaced None pc = Unit {0}
IsPlaced (Some script) pc = pc < 2 ^ 63

-- the machine that goes on behind an answer; where the run ends it stays
abbrev pub gone_on : Mach → Behind → Mach
gone_on m (Goes m') = m'
gone_on m Ends = m
