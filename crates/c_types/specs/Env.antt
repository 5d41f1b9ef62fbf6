-- What is known at a place of a source: the names in scope, and what was declared so far.
use Rattle.std.specs.Prelude.{ℕ, Bool, false, List, [], ◌∷◌, is_some, Option, None, Some}
use Rattle.std.specs.FinMap as map
use Rattle.std.specs.Ordering.{nat_cmp}
use Rattle.std.specs.Cmp.Lexicographic.{slice_cmp}
use Rattle.mpc_values.specs.declared.owners.StaticVar.{StaticVar}
use Rattle.c_tree.specs.declared.program.Construct.{Construct}
use Rattle.c_types.specs.declared.kinds.Kind.{Kind}
use Rattle.c_types.specs.declared.kinds.Decl.{Decl}
use Rattle.c_types.specs.declared.kinds.Sig.{Sig}

abbrev pub Name : Type 0
Name = List ℕ

-- the declarations of one scope
abbrev pub Scope : Type 0
Scope = map.FinMap (slice_cmp nat_cmp) Decl

-- the first that is there
abbrev pub first_some : {A : Type 0} → Option A → Option A → Option A
first_some (Some x) other = Some x
first_some None other = other

-- what a name is declared as, by the innermost scope that has it; the innermost scope stands first
abbrev pub find : Name → List Scope → Option Decl
find name [] = None
find name (scope ∷ outer) = first_some (map.get scope name) (find name outer)

-- whether the innermost scope has the name
abbrev pub in_top : Name → List Scope → Bool
in_top name [] = false
in_top name (scope ∷ outer) = is_some (map.get scope name)

-- the name declared in the innermost scope
abbrev pub put : Name → Decl → List Scope → List Scope
put name decl [] = []
put name decl (scope ∷ outer) = map.insert scope name decl ∷ outer

abbrev pub enter : List Scope → List Scope
enter scopes = map.empty ∷ scopes

abbrev pub leave : List Scope → List Scope
leave [] = []
leave (scope ∷ outer) = outer

-- what is known at a place of a source
pub record Env : Type 0 where
  -- the functions that the unit defines, each with the number of its first definition
  pub definitions : Scope
  -- how many file-scope variables the unit has: the numbers of static locals come behind theirs
  pub file_variables : ℕ
  -- the scopes round the place, the innermost first
  pub scopes : List Scope
  -- the functions declared so far, and whether one of them is defined so far
  pub functions : List Sig
  pub has_definition : Bool
  -- the file-scope variables so far, the static locals so far, and how many words these have together
  pub globals : List StaticVar
  pub statics : List StaticVar
  pub words : ℕ
  -- the statements so far that share variables
  pub constructs : List Construct
  -- in a function: its slots so far, by slot whether its address is taken anywhere in it, and what it answers
  pub slots : ℕ
  pub taken : List Bool
  pub returns : Kind

abbrev pub enter_scope : Env → Env
enter_scope env = record env { scopes = enter env.scopes }

abbrev pub leave_scope : Env → Env
leave_scope env = record env { scopes = leave env.scopes }
