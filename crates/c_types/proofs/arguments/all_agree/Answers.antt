use Rattle.std.proofs.Common.{ap, subst, refl, ℕ, ◌<◌}
use Rattle.std.specs.Prelude.{not}
use Rattle.c_types.specs.Kinds.{all_agree, agree, misses}
use Rattle.c_types.proofs.Pairs.{other_lengths, stops, goes}
use Rattle.c_types.proofs.arguments.all_agree.Goals as goal

pub returns-then-dues-given : goal.returns-then-dues-given
returns-then-dues-given c =
    other_lengths all_agree (λ due given. not (misses (agree due) given)) (λ _ _ _ _. refl) (λ _ _. refl) (λ _ _. refl) _ _ c.if-dues-given.true

pub returns-then-disagrees : goal.returns-then-disagrees
returns-then-disagrees c =
    stops all_agree (λ due given. not (misses (agree due) given)) (λ _ _ _ _. refl) (λ _ _. refl) (λ _ _. refl) _ _ _ _ _ _
    c.loop-i-test.true (let P : ℕ → Type 0 = λ n. c.loop-i.i < n in subst P c.if-dues-given.false c.loop-i-test.true)
    c.loop-i.invariant.1 (ap not c.disagrees.ensures) (ap not c.if-disagrees.true)

pub loop-i-preserved : goal.loop-i-preserved
loop-i-preserved c = (
  c.if-dues-given.false,
  goes all_agree (λ due given. not (misses (agree due) given)) (λ _ _ _ _. refl) (λ _ _. refl) (λ _ _. refl) _ _ _ _ _ _
      c.loop-i-test.true (let P : ℕ → Type 0 = λ n. c.loop-i.i < n in subst P c.if-dues-given.false c.loop-i-test.true)
      c.loop-i.invariant.1 (ap not c.disagrees.ensures) (ap not c.if-disagrees.false),
)
