use Rattle.std.proofs.Common.{◌≡◌, ◌++◌, IfOk, drop, map}
use Rattle.c_tree.specs.ProgramOf.{function_of}
use Rattle.c_tree.specs.SyntaxOf.{item_of}
use Rattle.c_types.specs.Env.{first_some}
use Rattle.c_types.specs.Nodes.{first_of}
use Rattle.c_types.specs.Outcomes.{fault}
use Rattle.c_types.specs.Units as units
use Rattle.c_types.proofs.units.pass_all.Given as goal

abbrev pub invariant-loop-item : goal.invariant-loop-item
invariant-loop-item l =
    (units.after_items l.names (map item_of (drop l.item-index l.items)) ≡ units.after_items l.initial.names (map item_of l.items))
    × (first_some (fault l.made) (first_of (units.items_outline l.names (map item_of (drop l.item-index l.items)))) ≡ first_of (units.items_outline l.initial.names (map item_of l.items)))
    × IfOk l.made (λ v. map function_of v.items ++ units.functions_made l.names (map item_of (drop l.item-index l.items)) ≡ units.functions_made l.initial.names (map item_of l.items))
