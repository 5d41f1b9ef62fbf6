use Rattle.std.proofs.Common.{◌≡◌, drop}
use Rattle.c_types.specs.Arguments.{last_datatype}
use Rattle.c_types.proofs.arguments.last_datatype.Given as goal

abbrev pub invariant-loop-one : goal.invariant-loop-one
invariant-loop-one l = last_datatype l.last (drop l.one-index l.given) ≡ last_datatype l.fn.other l.given
