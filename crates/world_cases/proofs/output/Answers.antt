use Rattle.std.specs.Prelude.{◌≡◌, ℕ, ◌+◌, ◌<◌, ◌≤◌, ◌++◌, true, false, length, nat_le, refl}
use Rattle.std.proofs.Common.{arith, length-append}
use Rattle.std.proofs.lemmas.Bool.Decides.{nat_tests}
use Rattle.run_model.specs.Played.{computing}
use Rattle.world_cases.proofs.output.Goals as goal

fits : (a b : ℕ) → a + b ≤ 1048576 → nat_le (a + b) 1048576 ≡ true
fits a b within = grind (arith, nat_tests)

passes : (a b : ℕ) → 1048576 < a + b → nat_le (a + b) 1048576 ≡ false
passes a b past = grind (arith, nat_tests)

pub returns : goal.returns
unfolding computing
returns c = record {
  second_is_too_long = λ first second one both other. rw (fits 0 (length first) (omega arith), fits 0 (length second) (omega arith), passes (length first) (length second) both) refl;
  just_fits = λ first second all.
      let both = length-append first second in
      rw (fits 0 (length first) (omega arith), fits (length first) (length second) (omega arith), fits (length (first ++ second)) 0 (omega arith)) refl;
}
