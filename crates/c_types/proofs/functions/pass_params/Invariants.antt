use Rattle.std.proofs.Common.{◌≡◌, drop}
use Rattle.c_types.specs.Env.{first_some}
use Rattle.c_types.specs.Nodes.{first_of}
use Rattle.c_types.specs.Outcomes.{fault}
use Rattle.c_types.specs.Units as units
use Rattle.c_types.proofs.functions.pass_params.Given as goal

abbrev pub invariant-loop-param : goal.invariant-loop-param
invariant-loop-param l =
    (units.with_params l.is_main l.names (drop l.param-index l.all) ≡ units.with_params l.is_main l.initial.names l.all)
    × (first_some (fault l.made) (first_of (units.params_outline l.is_main l.names (drop l.param-index l.all))) ≡ first_of (units.params_outline l.is_main l.initial.names l.all))
