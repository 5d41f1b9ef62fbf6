use Rattle.std.proofs.Common.{◌≡◌, drop}
use Rattle.c_types.specs.Arguments.{operation_of}
use Rattle.c_types.proofs.arguments.operation_of.Given as goal

abbrev pub invariant-loop-one : goal.invariant-loop-one
invariant-loop-one l = operation_of (drop l.one-index l.given) ≡ operation_of l.given
