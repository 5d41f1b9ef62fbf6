-- What typing a tree means: its typed program, or the first rule that it breaks.
use Rattle.std.specs.Prelude.{◌≡◌}
use Rattle.c_tree.specs.Programs.{Program}
use Rattle.c_tree.specs.Syntax.{Tree}
use Rattle.c_types.specs.declared.refusals.TypeRefusal.{TypeRefusal}
use Rattle.c_types.specs.Nodes.{NoneBreaks, IsFirst}
use Rattle.c_types.specs.Units.{tree_nodes, program_made}

-- no node of the tree breaks a rule
abbrev pub IsSound : Tree → Type 0
IsSound tree = NoneBreaks (tree_nodes tree)

-- the program is the tree with types, numbered variables and numbered constructs, and nothing is broken
pub record Typed (tree : Tree) (program : Program) : Type 0 where
  pub sound : IsSound tree
  pub made : program ≡ program_made tree

-- the refusal is the least rule of the first broken node, on that node's line
abbrev pub Refused : Tree → TypeRefusal → Type 0
Refused tree refusal = IsFirst (tree_nodes tree) refusal
