-- Laws of what a task asks next.
use Rattle.std.specs.Prelude.{◌≡◌, ◌⊎◌, false, List, [], ◌∷◌, ◌++◌, ℕ}
use Rattle.mpc_values.specs.declared.calls.Call.{Call}
use Rattle.mpc_values.specs.declared.answers.Answer.{Answer}
use Rattle.c_tree.specs.Programs.{Program}
use Rattle.c_tree.specs.Asking.{Asks, Over, Misfit, fits}
use Rattle.c_tree.specs.Next.{next_of}

-- An answer among these is none that the call asked before it may have, or stands behind the end.
pub record DoesNotFit (program : Program) (answers : List Answer) : Type 0 where
  pub before : List Answer
  pub answer : Answer
  pub behind : List Answer
  pub cut : answers ≡ before ++ answer ∷ behind
  pub why : ((call : Call) × (line : ℕ) × (next_of program before ≡ Asks call line) × (fits call answer ≡ false)) ⊎ (next_of program before ≡ Over)

-- A call is asked behind these answers.
pub record IsAsked (program : Program) (answers : List Answer) : Type 0 where
  pub call : Call
  pub line : ℕ
  pub is : next_of program answers ≡ Asks call line

-- Misfit comes only where some answer does not fit. Where it does not come, a call is asked behind every shorter beginning
-- of the answers.
pub record NextLaws : Type 0 where
  pub misfits : (program : Program) (answers : List Answer) → next_of program answers ≡ Misfit → DoesNotFit program answers
  pub asks_before : (program : Program) (before : List Answer) (answer : Answer) (behind : List Answer) → (next_of program (before ++ answer ∷ behind) ≡ Misfit → ⊥) → IsAsked program before
