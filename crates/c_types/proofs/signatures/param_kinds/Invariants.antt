use Rattle.std.proofs.Common.{◌≡◌, ◌++◌, drop}
use Rattle.c_types.specs.Units as units
use Rattle.c_types.proofs.signatures.param_kinds.Given as goal

abbrev pub invariant-loop-param : goal.invariant-loop-param
invariant-loop-param l = l.kinds.items ++ units.param_kinds (drop l.param-index l.params) ≡ units.param_kinds l.params
