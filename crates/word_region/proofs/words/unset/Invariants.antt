use Rattle.std.proofs.Common.{◌≡◌, ℕ, ◌-◌, ◌<◌, cond, length, get_or}
use Rattle.mpc_values.specs.declared.values.Word.TheVariants.{Undef}
use Rattle.word_region.specs.Places.{is_in}
use Rattle.word_region.proofs.words.unset.Given as goal

abbrev pub invariant-loop-p : goal.invariant-loop-p
invariant-loop-p l = record {
  same : length l.words.items ≡ length l.fn.words.items;
  set : (q : ℕ) → q < length l.words.items → get_or l.words.items q Undef ≡ cond (is_in l.base (l.p - l.base) q) Undef (get_or l.fn.words.items q Undef);
}
