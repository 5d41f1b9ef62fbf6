use Rattle.std.proofs.Common.{length, ◌-◌, ◌≡◌, ◌≤◌, drop, false}
use Rattle.c_lex.specs.Front.{close_len, more}
use Rattle.c_lex.proofs.pieces.close_len.Given as goal

abbrev pub invariant-loop-at : goal.invariant-loop-at
invariant-loop-at l = (l.from ≤ l.at) × (l.at ≤ length l.src) × (close_len false (drop l.from l.src) ≡ more (l.at - l.from) (close_len l.star (drop l.at l.src)))

abbrev pub decreases-loop-at : goal.decreases-loop-at
decreases-loop-at l = length l.src - l.at
