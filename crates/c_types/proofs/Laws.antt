-- The laws of typing: what a pass over a tree's outline answers, and that a tree has at most one typed program or one
-- refusal, and not both.
use Rattle.std.proofs.Common.{◌≡◌, sym, ap, ◌∙◌, None, Some}
use Rattle.c_tree.specs.Programs.{Program}
use Rattle.c_tree.specs.Syntax.{Tree}
use Rattle.c_types.specs.declared.refusals.TypeRefusal.{TypeRefusal}
use Rattle.c_types.specs.Nodes.{first_of}
use Rattle.c_types.specs.Typing.{Typed, Refused}
use Rattle.c_types.specs.Units.{tree_outline, tree_nodes, program_made}
use Rattle.c_types.proofs.Order.{or, not_there, none_found, found, says}

-- nothing was found in a tree's outline: it has the typed program
pub typed_of : (tree : Tree) (program : Program) → first_of (tree_outline tree) ≡ None → program ≡ program_made tree → Typed tree program
typed_of tree program none made = record { sound = says (tree_outline tree) None (sym none); made = made }

-- this was found: it is the refusal
pub refused_of : (tree : Tree) (r : TypeRefusal) → first_of (tree_outline tree) ≡ Some r → Refused tree r
refused_of tree r e = says (tree_outline tree) (Some r) (sym e)

-- a tree has at most one typed program
pub same_program : (tree : Tree) (a b : Program) → Typed tree a → Typed tree b → a ≡ b
same_program tree a b p q = p.made ∙ sym q.made

-- and at most one refusal
pub same_refusal : (tree : Tree) (r s : TypeRefusal) → Refused tree r → Refused tree s → r ≡ s
same_refusal tree r s p q = let e : Some r ≡ Some s = sym (found (tree_nodes tree) r p) ∙ found (tree_nodes tree) s q in ap (or r) e

-- and not both
pub never_both : (tree : Tree) (program : Program) (r : TypeRefusal) → Typed tree program → Refused tree r → ⊥
never_both tree program r p q = not_there r (sym (none_found (tree_nodes tree) p.sound) ∙ found (tree_nodes tree) r q)
