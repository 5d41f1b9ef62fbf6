-- The nodes of a tree in the order of their first tokens, an outer one before those in it, and which of them is the
-- first that breaks a rule.
use Rattle.std.specs.Prelude.{◌≡◌, ℕ, ◌≤◌, true, List, [], ◌∷◌, ◌++◌, Option, None, Some}
use Rattle.c_types.specs.declared.refusals.TypeRefusal.{TypeRefusal}
use Rattle.c_types.specs.declared.shapes.Shape.{Shape}
use Rattle.c_types.specs.Env.{first_some}
use Rattle.c_types.specs.Rules.{Rule, number, breaks, rule}

-- a node: its line, and what the rules read of it
pub record Node : Type 0 where
  pub line : ℕ
  pub shape : Shape

-- what the rules read of a tree: nodes with what stands in them, one after another
pub data Outline : Type 0 where
  Empty : Outline
  At : (line : ℕ) (shape : Shape) (inside : Outline) → Outline
  Then : (before behind : Outline) → Outline

-- the nodes in order
abbrev pub nodes_of : Outline → List Node
nodes_of Empty = []
nodes_of (At line shape inside) = record { line = line; shape = shape } ∷ nodes_of inside
nodes_of (Then before behind) = nodes_of before ++ nodes_of behind

abbrev pub Breaks : Rule → Shape → Type 0
Breaks broken shape = breaks broken shape ≡ true

-- this is the least rule that the node breaks, or it breaks none
abbrev pub Tells : Shape → Option ℕ → Type 0
Tells shape None = (other : Rule) → Breaks other shape → ⊥
Tells shape (Some least) = (broken : Rule) × (number broken ≡ least) × Breaks broken shape × ((other : Rule) → Breaks other shape → least ≤ number other)

-- none of these nodes breaks a rule
abbrev pub NoneBreaks : List Node → Type 0
NoneBreaks [] = Unit {0}
NoneBreaks (node ∷ rest) = Tells node.shape None × NoneBreaks rest

-- the refusal is the least rule of the first of these nodes that breaks one, on its line
pub record IsFirst (all : List Node) (refusal : TypeRefusal) : Type 0 where
  pub before : List Node
  pub node : Node
  pub behind : List Node
  pub cut : all ≡ before ++ node ∷ behind
  pub none_before : NoneBreaks before
  pub breaks : Tells node.shape (Some refusal.rule)
  pub stands : node.line ≡ refusal.line

-- what is answered of these nodes: nothing, where none breaks a rule, or the first refusal
abbrev pub Says : List Node → Option TypeRefusal → Type 0
Says nodes None = NoneBreaks nodes
Says nodes (Some refusal) = IsFirst nodes refusal

-- a node's own rule comes before what stands in it
abbrev pub blame : Option ℕ → ℕ → Option TypeRefusal → Option TypeRefusal
blame (Some broken) line inside = Some (record { rule = broken; line = line })
blame None line inside = inside

-- the first refusal
abbrev pub first_of : Outline → Option TypeRefusal
first_of Empty = None
first_of (At line shape inside) = blame (rule shape) line (first_of inside)
first_of (Then before behind) = first_some (first_of before) (first_of behind)
