-- When an answer is one of its call's kind, so that the program which asked goes on.
use Rattle.std.specs.Prelude.{◌≡◌, ℕ, T, List, Option, Some, None}
use Rattle.mpc_values.specs.declared.calls.Call.{Call}
use Rattle.mpc_values.specs.declared.calls.Call.TheVariants as call
use Rattle.mpc_values.specs.declared.answers.Answer.{Answer}
use Rattle.c_tree.specs.declared.program.Construct.{Construct}
use Rattle.c_tree.specs.Asking.{Asks}
use Rattle.c_tree.specs.Next.{next_of}
use Rattle.run_model.specs.Setup.{Setup}
use Rattle.run_model.specs.Sharing.{construct_of, is_single}

-- a program has a single of this number
abbrev pub HasSingle : Option Construct → Type 0
HasSingle None = ⊥
HasSingle (Some c) = T (is_single c.kind)

-- What an enter asks of the program. An enter elsewhere is done at once, which is no answer of its kind.
abbrev pub IsKnown : Setup → Call → Type 0
IsKnown setup (call.HlsEnter construct) = HasSingle (construct_of setup construct)
IsKnown setup other = Unit {0}

-- each enter that the program asks is one of a single that it has
abbrev pub AsksKnown : Setup → Type 0
AsksKnown setup = (answers : List Answer) (call : Call) (line : ℕ) → next_of setup.program answers ≡ Asks call line → IsKnown setup call
