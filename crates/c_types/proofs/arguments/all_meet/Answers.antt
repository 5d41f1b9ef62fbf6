use Rattle.std.proofs.Common.{subst, refl, ℕ, ◌<◌}
use Rattle.c_types.specs.Arguments.{all_meet, meets}
use Rattle.c_types.proofs.Pairs.{other_lengths, stops, goes}
use Rattle.c_types.proofs.arguments.all_meet.Goals as goal

pub returns-then-rows-given : goal.returns-then-rows-given
returns-then-rows-given c =
    other_lengths all_meet meets (λ _ _ _ _. refl) (λ _ _. refl) (λ _ _. refl) _ _ c.if-rows-given.true

pub returns-then-not-meets : goal.returns-then-not-meets
returns-then-not-meets c =
    stops all_meet meets (λ _ _ _ _. refl) (λ _ _. refl) (λ _ _. refl) _ _ _ _ _ _
    c.loop-i-test.true (let P : ℕ → Type 0 = λ n. c.loop-i.i < n in subst P c.if-rows-given.false c.loop-i-test.true)
    c.loop-i.invariant.1 c.meets.ensures c.if-not-meets.true

pub loop-i-preserved : goal.loop-i-preserved
loop-i-preserved c = (
  c.if-rows-given.false,
  goes all_meet meets (λ _ _ _ _. refl) (λ _ _. refl) (λ _ _. refl) _ _ _ _ _ _
      c.loop-i-test.true (let P : ℕ → Type 0 = λ n. c.loop-i.i < n in subst P c.if-rows-given.false c.loop-i-test.true)
      c.loop-i.invariant.1 c.meets.ensures c.if-not-meets.false,
)
