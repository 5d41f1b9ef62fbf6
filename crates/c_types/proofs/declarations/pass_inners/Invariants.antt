use Rattle.std.proofs.Common.{◌≡◌, ◌++◌, IfOk, drop, map}
use Rattle.c_tree.specs.ProgramOf.{stmt_of}
use Rattle.c_tree.specs.SyntaxOf.{declarator_of}
use Rattle.c_types.specs.Declarations.{with_inners, inner_outlines, declarators_made}
use Rattle.c_types.specs.Env.{first_some}
use Rattle.c_types.specs.Nodes.{first_of}
use Rattle.c_types.specs.Outcomes.{fault}
use Rattle.c_types.proofs.declarations.pass_inners.Given as goal

abbrev pub invariant-loop-d : goal.invariant-loop-d
invariant-loop-d l =
    (with_inners l.is_static l.base l.names (map declarator_of (drop l.d-index l.all)) ≡ with_inners l.is_static l.base l.initial.names (map declarator_of l.all))
    × (first_some (fault l.made) (first_of (inner_outlines l.is_static l.base l.names (map declarator_of (drop l.d-index l.all)))) ≡ first_of (inner_outlines l.is_static l.base l.initial.names (map declarator_of l.all)))
    × IfOk l.made (λ v. map stmt_of v.items ++ declarators_made l.line l.is_static l.base l.names (map declarator_of (drop l.d-index l.all)) ≡ declarators_made l.line l.is_static l.base l.initial.names (map declarator_of l.all))
