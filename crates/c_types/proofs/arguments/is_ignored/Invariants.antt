use Rattle.std.proofs.Common.{◌≡◌, drop}
use Rattle.c_types.specs.Arguments.{is_ignored}
use Rattle.c_types.proofs.arguments.is_ignored.Given as goal

abbrev pub invariant-loop-one : goal.invariant-loop-one
invariant-loop-one l = is_ignored (drop l.one-index l.given) ≡ is_ignored l.given
