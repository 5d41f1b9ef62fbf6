use Rattle.std.proofs.Common.{◌≡◌, drop, map}
use Rattle.c_tree.specs.SyntaxOf.{declarator_of}
use Rattle.c_types.specs.Declarations.{with_globals, global_outlines}
use Rattle.c_types.specs.Env.{first_some}
use Rattle.c_types.specs.Nodes.{first_of}
use Rattle.c_types.specs.Outcomes.{fault}
use Rattle.c_types.proofs.declarations.pass_globals.Given as goal

abbrev pub invariant-loop-d : goal.invariant-loop-d
invariant-loop-d l =
    (with_globals l.base l.names (map declarator_of (drop l.d-index l.all)) ≡ with_globals l.base l.initial.names (map declarator_of l.all))
    × (first_some (fault l.made) (first_of (global_outlines l.base l.names (map declarator_of (drop l.d-index l.all)))) ≡ first_of (global_outlines l.base l.initial.names (map declarator_of l.all)))
