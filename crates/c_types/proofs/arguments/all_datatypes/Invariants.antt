use Rattle.std.proofs.Common.{◌≡◌, drop}
use Rattle.c_types.specs.Arguments.{all_datatypes}
use Rattle.c_types.proofs.arguments.all_datatypes.Given as goal

abbrev pub invariant-loop-other : goal.invariant-loop-other
invariant-loop-other l = all_datatypes l.one (drop l.other-index l.given) ≡ all_datatypes l.one l.given
