-- A repetition, beside a loop that counts its turns.
use Rattle.std.proofs.Common.{◌≡◌, ℕ, zero, suc, ◌+◌, ◌-◌, ◌<◌, ◌≤◌, Bool, true, false, List, refl, ap, ◌∙◌, cond, arith}
use Rattle.c_parse.specs.Symbols.{Sym}
use Rattle.c_parse.specs.Reading.{Read, Got, Fails, Reader, and_then, repeat_from}

module _ {S : Type 0} (stops : List Sym → Bool) (step : S → Reader S) where
  stopped : (n : ℕ) (s : S) (ts : List Sym) → stops ts ≡ true → repeat_from stops step n s ts ≡ Got s ts
  unfolding repeat_from
  stopped zero s ts e = refl
  stopped (suc n) s ts e = ap (λ b. cond b (Got s ts) (and_then (step s ts) (λ t rest. repeat_from stops step n t rest))) e

  over : (n : ℕ) (s : S) (ts : List Sym) → n ≡ 0 → repeat_from stops step n s ts ≡ Got s ts
  unfolding repeat_from
  over n s ts e = ap (λ m. repeat_from stops step m s ts) e

  one : (n : ℕ) (s : S) (ts : List Sym) → stops ts ≡ false → repeat_from stops step (suc n) s ts ≡ and_then (step s ts) (λ t rest. repeat_from stops step n t rest)
  unfolding repeat_from
  one n s ts e = ap (λ b. cond b (Got s ts) (and_then (step s ts) (λ t rest. repeat_from stops step n t rest))) e

  -- where the loop leaves early
  pub turn_stops : (o : Read S) (n : ℕ) (s : S) (ts : List Sym) → o ≡ repeat_from stops step n s ts → stops ts ≡ true → o ≡ Got s ts
  turn_stops o n s ts e h = e ∙ stopped n s ts h

  -- where it has counted to its end
  pub turns_over : (o : Read S) (n at : ℕ) (s : S) (ts : List Sym) → o ≡ repeat_from stops step (n - at) s ts → n ≤ at → o ≡ Got s ts
  turns_over o n at s ts e le = e ∙ over (n - at) s ts (omega arith)

  turned : (o : Read S) (n at : ℕ) (s : S) (ts : List Sym) → o ≡ repeat_from stops step (n - at) s ts → at < n → stops ts ≡ false
      → o ≡ and_then (step s ts) (λ t rest. repeat_from stops step (n - (at + 1)) t rest)
  turned o n at s ts e lt h =
      let turn : n - at ≡ suc (n - (at + 1)) = omega arith in
      e ∙ ap (λ m. repeat_from stops step m s ts) turn ∙ one (n - (at + 1)) s ts h

  -- where a step goes on
  pub turn_steps : (o : Read S) (n at : ℕ) (s t : S) (ts rest : List Sym) → o ≡ repeat_from stops step (n - at) s ts → at < n → stops ts ≡ false
      → step s ts ≡ Got t rest → o ≡ repeat_from stops step (n - (at + 1)) t rest
  turn_steps o n at s t ts rest e lt h g = turned o n at s ts e lt h ∙ ap (λ a. and_then a (λ t rest. repeat_from stops step (n - (at + 1)) t rest)) g

  -- where a step fails
  pub turn_fails : (o : Read S) (n at : ℕ) (s : S) (ts rest : List Sym) → o ≡ repeat_from stops step (n - at) s ts → at < n → stops ts ≡ false
      → step s ts ≡ Fails rest → o ≡ Fails rest
  turn_fails o n at s ts rest e lt h g = turned o n at s ts e lt h ∙ ap (λ a. and_then a (λ t rest. repeat_from stops step (n - (at + 1)) t rest)) g
