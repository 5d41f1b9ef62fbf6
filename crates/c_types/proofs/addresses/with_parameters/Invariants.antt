use Rattle.std.proofs.Common.{◌≡◌, drop}
use Rattle.c_types.specs.Addresses as addresses
use Rattle.c_types.proofs.addresses.with_parameters.Given as goal

abbrev pub invariant-loop-parameter : goal.invariant-loop-parameter
invariant-loop-parameter l = addresses.with_parameters l.frame (drop l.parameter-index l.all) ≡ addresses.with_parameters l.initial.frame l.all
