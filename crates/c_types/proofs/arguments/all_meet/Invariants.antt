use Rattle.std.proofs.Common.{◌≡◌, drop, length}
use Rattle.c_types.specs.Arguments.{all_meet}
use Rattle.c_types.proofs.arguments.all_meet.Given as goal

abbrev pub invariant-loop-i : goal.invariant-loop-i
invariant-loop-i l = (length l.rows ≡ length l.given) × (all_meet (drop l.i l.rows) (drop l.i l.given) ≡ all_meet l.rows l.given)
