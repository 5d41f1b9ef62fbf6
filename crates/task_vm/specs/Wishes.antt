-- What a step of a script wants, as code tells it.
use Rattle.std.specs.Prelude.{◌≡◌, ◌+◌, ◌∷◌, pos, Some, None}
use Rattle.mpc_values.specs.declared.values.Word.TheVariants.{Int}
use Rattle.mpc_values.specs.declared.calls.Call.{Call}
use Rattle.c_tree.specs.Scripts as scripts
use Rattle.c_code.specs.Machine.{Mach, Scripting, Stepped, Moves, Asks}
use Rattle.task_vm.specs.declared.wishes.Wish.{Wish}
use Rattle.task_vm.specs.declared.wishes.Wish.TheVariants.{Wants, Skips, Breaks}
use Rattle.task_vm.specs.declared.wishes.Taken.{Taken}
use Rattle.task_vm.specs.declared.wishes.Taken.TheVariants.{Went, Asked, Ended}

-- the call that is told beside, nothing, or that the task fails
abbrev pub Wishes : Wish → Call → scripts.Wanted → Type 0
Wishes Wants call due = due ≡ scripts.Wants call
Wishes Skips call due = due ≡ scripts.Skips
Wishes (Breaks fault) call due = due ≡ scripts.Breaks fault

-- The step of a script that was taken is the one that is due, whatever machine takes the script: the script behind it,
-- the call that is told, where the script stays as it was, or the end of the script.
abbrev pub Takes : Taken → Call → (Mach → Stepped) → Scripting → Scripting → Type 0
Takes Went call due old new = (m : Mach) → due m ≡ Moves (record m { script = Some new })
Takes (Asked line) call due old new = ((m : Mach) → due m ≡ Asks call line) × (new ≡ old)
Takes Ended call due old new = (m : Mach) → due m ≡ Moves (record m { pc = m.pc + 1; stack = Int (pos 0) ∷ m.stack; script = None })
