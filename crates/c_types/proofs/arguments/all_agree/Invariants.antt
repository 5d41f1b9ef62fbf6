use Rattle.std.proofs.Common.{◌≡◌, drop, length}
use Rattle.c_types.specs.Kinds.{all_agree}
use Rattle.c_types.proofs.arguments.all_agree.Given as goal

abbrev pub invariant-loop-i : goal.invariant-loop-i
invariant-loop-i l = (length l.dues ≡ length l.given) × (all_agree (drop l.i l.dues) (drop l.i l.given) ≡ all_agree l.dues l.given)
