use Rattle.std.proofs.Common.{subst, refl, ℕ, ◌<◌}
use Rattle.std.specs.Prelude.{not}
use Rattle.c_types.specs.Kinds.{same_kind, misses}
use Rattle.c_types.specs.Formats.{are_printed, printed_kind}
use Rattle.c_types.proofs.Pairs.{other_lengths, stops, goes}
use Rattle.c_types.proofs.formats.are_printed.Goals as goal

pub returns-then-widths-given : goal.returns-then-widths-given
returns-then-widths-given c =
    other_lengths are_printed (λ width given. not (misses (same_kind (printed_kind width)) given)) (λ _ _ _ _. refl) (λ _ _. refl) (λ _ _. refl) _ _ c.if-widths-given.true

pub returns-then-not-is_printed : goal.returns-then-not-is_printed
returns-then-not-is_printed c =
    stops are_printed (λ width given. not (misses (same_kind (printed_kind width)) given)) (λ _ _ _ _. refl) (λ _ _. refl) (λ _ _. refl) _ _ _ _ _ _
    c.loop-i-test.true (let P : ℕ → Type 0 = λ n. c.loop-i.i < n in subst P c.if-widths-given.false c.loop-i-test.true)
    c.loop-i.invariant.1 c.is_printed.ensures c.if-not-is_printed.true

pub loop-i-preserved : goal.loop-i-preserved
loop-i-preserved c = (
  c.if-widths-given.false,
  goes are_printed (λ width given. not (misses (same_kind (printed_kind width)) given)) (λ _ _ _ _. refl) (λ _ _. refl) (λ _ _. refl) _ _ _ _ _ _
      c.loop-i-test.true (let P : ℕ → Type 0 = λ n. c.loop-i.i < n in subst P c.if-widths-given.false c.loop-i-test.true)
      c.loop-i.invariant.1 c.is_printed.ensures c.if-not-is_printed.false,
)
