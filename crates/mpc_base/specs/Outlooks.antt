-- What is known of the coming starts before they are made.
use Rattle.std.specs.Prelude.{◌≡◌, ◌≢◌, ℕ, zero, suc, ◌+◌, ◌-◌, ◌^◌, Bool, cond, nat_eq, if◌then◌else◌, Result, Ok, Err}
use Rattle.mpc_base.specs.FailLists.{FailsAt, fails_now, counted}
use Rattle.mpc_base.specs.declared.asks.Choice.{Choice}
use Rattle.mpc_base.specs.declared.asks.Choice.TheVariants as choice

-- a start is sure to be refused, or sure not to be, or neither is known
pub data Outlook : Type 0 where
  Refused : Outlook
  Started : Outlook
  Unknown : Outlook

-- the answer of a start is the one that was sure
abbrev pub Meets : {T E : Type 0} → Outlook → Result T E → Type 0
Meets Refused (Ok _) = ⊥
Meets Refused (Err _) = Unit {0}
Meets Started (Ok _) = Unit {0}
Meets Started (Err _) = ⊥
Meets Unknown result = Unit {0}

-- what is chosen for a start is what was sure: only a job that is kept is sure to be started
abbrev pub FitsOutlook : Outlook → Choice → Type 0
FitsOutlook Refused chosen = chosen ≡ choice.Refuse
FitsOutlook Started chosen = chosen ≡ choice.Late
FitsOutlook Unknown chosen = Unit {0}

-- what was sure of the coming starts, counted from 0, is sure still
abbrev pub StaysSure : (ℕ → Outlook) → (ℕ → Outlook) → Type 0
StaysSure before now = (k : ℕ) → before k ≢ Unknown → now k ≡ before k

-- the same after one start, which was the first of those that came
abbrev pub GoesOn : (ℕ → Outlook) → (ℕ → Outlook) → Type 0
GoesOn before now = StaysSure (λ k. before (suc k)) now

-- whether the call fails that comes after k others
abbrev pub fails_after : FailsAt → ℕ → Bool
fails_after f k = fails_now (record f { calls = f.calls + k })

-- how many of the next k calls do not fail
abbrev pub passed : FailsAt → ℕ → ℕ
passed f zero = 0
passed f (suc k) = cond (fails_now f) 0 1 + passed (counted f) k

-- the listed starts are refused, and the others are handed on to a spawner with this outlook
abbrev pub outlook_with : FailsAt → (ℕ → Outlook) → ℕ → Outlook
outlook_with f inner k = if fails_after f k then Refused else inner (passed f k)

-- of a spawner over threads it is known before only that each start is refused, where its count of faults is at its end
abbrev pub thread_outlook : ℕ → Outlook
thread_outlook faults = if nat_eq faults (2 ^ 64 - 1) then Refused else Unknown
