use Rattle.std.proofs.Common.{◌≡◌, drop}
use Rattle.c_types.specs.Arguments.{first_datatype}
use Rattle.c_types.proofs.arguments.first_datatype.Given as goal

abbrev pub invariant-loop-one : goal.invariant-loop-one
invariant-loop-one l = first_datatype (drop l.one-index l.given) ≡ first_datatype l.given
