use Rattle.std.proofs.Common.{◌≡◌, drop, length}
use Rattle.c_types.specs.Units.{same_kinds, param_kinds}
use Rattle.c_types.proofs.signatures.have_kinds.Given as goal

abbrev pub invariant-loop-i : goal.invariant-loop-i
invariant-loop-i l = (length l.kinds ≡ length l.params) × (same_kinds (drop l.i l.kinds) (param_kinds (drop l.i l.params)) ≡ same_kinds l.kinds (param_kinds l.params))
