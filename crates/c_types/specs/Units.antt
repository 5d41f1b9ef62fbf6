-- Functions, directives and whole units: what they declare, what the rules read of them, and the typed program.
use Rattle.std.specs.Prelude.{ℕ, ◌+◌, Bool, true, false, cond, not, ◌&&◌, ◌||◌, List, [], ◌∷◌, ◌++◌, length, map, set, take, slice_get, Option, None, Some, is_some, unwrap_or, codes, bytes_eq}
use Rattle.std.specs.FinMap as fin
use Rattle.mpc_values.specs.declared.owners.Level.{Level}
use Rattle.mpc_values.specs.declared.owners.StaticVar.{StaticVar}
use Rattle.c_tree.specs.declared.program.Ending.{Ending}
use Rattle.c_tree.specs.declared.program.Ending.TheVariants as ending
use Rattle.c_tree.specs.declared.syntax.Base.TheVariants as base
use Rattle.c_tree.specs.declared.syntax.TypeName.{TypeName}
use Rattle.c_tree.specs.declared.syntax.Param.{Param}
use Rattle.c_tree.specs.declared.syntax.ParamType.{ParamType}
use Rattle.c_tree.specs.declared.syntax.ParamType.TheVariants as written
use Rattle.c_tree.specs.declared.syntax.Returns.{Returns}
use Rattle.c_tree.specs.declared.syntax.Returns.TheVariants as answer
use Rattle.c_tree.specs.Programs as p
use Rattle.c_tree.specs.Syntax.{Body, Function, Item, Scope, Variables, Defined, Tree}
use Rattle.c_types.specs.declared.kinds.Home.{Home}
use Rattle.c_types.specs.declared.kinds.Home.TheVariants as home
use Rattle.c_types.specs.declared.kinds.Kind.{Kind}
use Rattle.c_types.specs.declared.kinds.Kind.TheVariants.{Void, Plain, Pointer, Arguments}
use Rattle.c_types.specs.declared.kinds.Decl.{Decl}
use Rattle.c_types.specs.declared.kinds.Decl.TheVariants as decl
use Rattle.c_types.specs.declared.kinds.Variable.{Variable}
use Rattle.c_types.specs.declared.kinds.Sig.{Sig}
use Rattle.c_types.specs.declared.shapes.ItemShape.TheVariants as item
use Rattle.c_types.specs.declared.shapes.Shape.{Shape}
use Rattle.c_types.specs.declared.shapes.Shape.TheVariants as shape
use Rattle.c_types.specs.Addresses.{taken_slots}
use Rattle.c_types.specs.Declarations.{with_globals, global_outlines}
use Rattle.c_types.specs.Env as env
use Rattle.c_types.specs.Env.{Env, find, in_top, put, enter_scope, leave_scope}
use Rattle.c_types.specs.Kinds.{int, is_number, same_kind}
use Rattle.c_types.specs.KnownNames.{known}
use Rattle.c_types.specs.Nodes.{Outline, Empty, At, Then, Node, nodes_of}
use Rattle.c_types.specs.Statements.{after_all, stmts_outline, stmts_made}

-- ---- types of functions

abbrev pub type_kind : TypeName → Kind
type_kind name = cond name.pointer (Pointer name.base) (Plain name.base)

abbrev pub answer_kind : Returns → Kind
answer_kind answer.Void = Void
answer_kind (answer.Value name) = type_kind name

-- a parameter that is written as an array is a pointer
abbrev pub written_kind : ParamType → Kind
written_kind (written.Plain name) = type_kind name
written_kind (written.Array base) = Pointer base
written_kind written.Arguments = Arguments

abbrev pub is_written_array : ParamType → Bool
is_written_array (written.Array base) = true
is_written_array type = false

abbrev pub param_kind : Param → Kind
param_kind parameter = written_kind parameter.param_type

abbrev pub param_kinds : List Param → List Kind
param_kinds parameters = map param_kind parameters

abbrev pub is_plain_int : ParamType → Bool
is_plain_int (written.Plain name) = same_kind (type_kind name) int
is_plain_int type = false

abbrev pub is_written_arguments : ParamType → Bool
is_written_arguments written.Arguments = true
is_written_arguments type = false

-- the parameters are an int and a char parameter
abbrev pub are_arguments : List Param → Bool
are_arguments (first ∷ second ∷ []) = is_plain_int first.param_type && is_written_arguments second.param_type
are_arguments parameters = false

abbrev pub are_none : List Param → Bool
are_none [] = true
are_none parameters = false

abbrev pub is_called_main : Function → Bool
is_called_main f = bytes_eq f.name (codes "main") && same_kind (answer_kind f.returns) int

-- a main with argc and argv
abbrev pub is_main_with_arguments : Function → Bool
is_main_with_arguments f = is_called_main f && are_arguments f.params

-- a main as it has to be
abbrev pub is_main : Function → Bool
is_main f = is_called_main f && (are_none f.params || are_arguments f.params)

abbrev pub has_main : List Item → Bool
has_main [] = false
has_main (Scope at level names ∷ rest) = has_main rest
has_main (Variables declaration ∷ rest) = has_main rest
has_main (Defined f ∷ rest) = (is_some f.body && is_main f) || has_main rest

-- ---- functions as names

abbrev pub same_kinds : List Kind → List Kind → Bool
same_kinds [] [] = true
same_kinds (a ∷ as_) (b ∷ bs) = same_kind a b && same_kinds as_ bs
same_kinds as_ bs = false

-- the function is declared with these types before, and this is not its second definition
abbrev pub agrees_with : Option Sig → Function → Bool
agrees_with None f = false
agrees_with (Some sig) f = same_kind sig.returns (answer_kind f.returns) && same_kinds sig.params (param_kinds f.params) && not (sig.is_defined && is_some f.body)

-- the name of a function is declared otherwise
abbrev pub conflicts : Env → Option Decl → Function → Bool
conflicts env None f = false
conflicts env (Some (decl.Function place)) f = not (agrees_with (slice_get env.functions place) f)
conflicts env (Some declared) f = true

-- the number of a definition
abbrev pub numbered : Option Decl → Option ℕ
numbered (Some (decl.Function number)) = Some number
numbered declared = None

abbrev pub signature : Env → Function → Sig
signature env f = record { returns = answer_kind f.returns; params = param_kinds f.params; number = numbered (fin.get env.definitions f.name); is_defined = is_some f.body }

-- the functions with one that is defined here or before
abbrev pub defined_at : List Sig → ℕ → Option Sig → Bool → List Sig
defined_at functions place None is_defined = functions
defined_at functions place (Some sig) is_defined = set functions place (record sig { is_defined = sig.is_defined || is_defined })

-- the function among those that are declared
abbrev pub with_signature : Env → Function → Option Decl → Env
with_signature env f None = record env { functions = env.functions ++ signature env f ∷ []; scopes = put f.name (decl.Function (length env.functions)) env.scopes }
with_signature env f (Some (decl.Function place)) = record env { functions = defined_at env.functions place (slice_get env.functions place) (is_some f.body) }
with_signature env f (Some declared) = env

abbrev pub with_function : Env → Function → Env
with_function env f =
    let named = with_signature env f (find f.name env.scopes) in
    record named { has_definition = env.has_definition || is_some f.body }

-- ---- parameters

abbrev pub param_variable : ℕ → Kind → Decl
param_variable slot kind = decl.Variable (record { kind = kind; is_array = false; home = home.Local slot })

-- what a parameter is in scope: of a main with two the first is argc
abbrev pub param_decl : Bool → ℕ → Kind → Decl
param_decl is_main slot Arguments = decl.Arguments
param_decl true slot kind = decl.Count
param_decl false slot kind = param_variable slot kind

abbrev pub with_param : Bool → Env → Param → Env
with_param is_main env parameter = record env { scopes = put parameter.name (param_decl is_main env.slots (param_kind parameter)) env.scopes; slots = env.slots + 1 }

abbrev pub with_params : Bool → Env → List Param → Env
with_params is_main env [] = env
with_params is_main env (parameter ∷ rest) = with_params is_main (with_param is_main env parameter) rest

abbrev pub param_shape : Bool → Env → Param → Shape
param_shape is_main env parameter = shape.Item (item.Parameter (record {
  is_twice = in_top parameter.name env.scopes;
  is_known = is_some (known parameter.name);
  kind = param_kind parameter;
  is_array = is_written_array parameter.param_type;
  is_main = is_main;
}))

abbrev pub params_outline : Bool → Env → List Param → Outline
params_outline is_main env [] = Empty
params_outline is_main env (parameter ∷ rest) = Then (At parameter.at.line (param_shape is_main env parameter) Empty) (params_outline is_main (with_param is_main env parameter) rest)

-- ---- functions

abbrev pub body_taken : Function → Option Body → List Bool
body_taken f None = []
body_taken f (Some body) = taken_slots f.params body.items

-- inside of a function, before its parameters
abbrev pub in_function : Env → Function → Env
in_function env f = record (enter_scope env) { slots = 0; taken = body_taken f f.body; returns = answer_kind f.returns }

-- inside of a function that is declared, behind its parameters
abbrev pub behind_params : Env → Function → Env
behind_params env f = with_params (is_main_with_arguments f) (in_function (with_function env f) f) f.params

abbrev pub after_body : Env → Option Body → Env
after_body env None = env
after_body env (Some body) = after_all env body.items

abbrev pub after_function : Env → Function → Env
after_function env f = leave_scope (after_body (behind_params env f) f.body)

abbrev pub function_shape : Env → Function → Shape
function_shape env f = shape.Item (item.Function (conflicts env (find f.name env.scopes) f) (is_some (known f.name)) (answer_kind f.returns))

abbrev pub body_outline : Env → Option Body → Outline
body_outline env None = Empty
body_outline env (Some body) = stmts_outline env false body.items

abbrev pub function_outline : Env → Function → Outline
function_outline env f =
    At f.at.line (function_shape env f)
    (Then (params_outline (is_main_with_arguments f) (in_function (with_function env f) f) f.params) (body_outline (behind_params env f) f.body))

abbrev pub ending_of : Function → Kind → Ending
ending_of f Void = ending.Void
ending_of f kind = cond (is_called_main f) ending.Zero ending.Missing

-- the typed form of a definition, by what is known behind its parameters
abbrev pub function_made : Env → Function → Body → p.Function
function_made inner f body = record {
  params = take (length f.params) inner.taken;
  slots = (after_all inner body.items).slots;
  body = stmts_made inner body.items;
  ending = ending_of f (answer_kind f.returns);
  end_line = body.end_line;
}

-- a prototype leaves none
abbrev pub body_made : Env → Function → Option Body → List p.Function
body_made inner f None = []
body_made inner f (Some body) = function_made inner f body ∷ []

-- ---- directives that give variables a level

-- an int or long variable or array
abbrev pub may_be_shared : Variable → Bool
may_be_shared variable = cond variable.is_array (same_kind variable.kind (Pointer base.Int) || same_kind variable.kind (Pointer base.Long)) (is_number variable.kind)

abbrev pub unlevelled : Option StaticVar → Bool
unlevelled None = false
unlevelled (Some variable) = not (is_some variable.level)

abbrev pub home_target : List StaticVar → Home → Option ℕ
home_target globals (home.Static number) = cond (unlevelled (slice_get globals number)) (Some number) None
home_target globals (home.Local slot) = None

-- the number of the variable that a declaration stands for, where it may be given a level
abbrev pub declared_target : List StaticVar → Option Decl → Option ℕ
declared_target globals (Some (decl.Variable variable)) = cond (may_be_shared variable) (home_target globals variable.home) None
declared_target globals declared = None

abbrev pub target : Env → env.Name → Option ℕ
target env name = declared_target env.globals (find name env.scopes)

abbrev pub levelled_at : Level → List StaticVar → ℕ → Option StaticVar → List StaticVar
levelled_at level globals number None = globals
levelled_at level globals number (Some variable) = set globals number (record variable { level = Some level })

-- the variable of this number with the level
abbrev pub levelled : Level → Env → Option ℕ → Env
levelled level env None = env
levelled level env (Some number) = record env { globals = levelled_at level env.globals number (slice_get env.globals number) }

-- the level is given to these names, one after the other
abbrev pub with_level : Level → Env → List env.Name → Env
with_level level env [] = env
with_level level env (name ∷ names) = with_level level (levelled level env (target env name)) names

-- each of these names may be given the level; one that stands twice has it the second time
abbrev pub may_level : Level → Env → List env.Name → Bool
may_level level env [] = true
may_level level env (name ∷ names) = is_some (target env name) && may_level level (levelled level env (target env name)) names

abbrev pub scope_shape : Env → Level → List env.Name → Shape
scope_shape env level names = shape.Item (item.Scope (not env.has_definition && may_level level env names))

-- ---- units

abbrev pub after_item : Env → Item → Env
after_item env (Scope at level names) = with_level level env names
after_item env (Variables declaration) = with_globals declaration.base env declaration.declarators
after_item env (Defined f) = after_function env f

abbrev pub after_items : Env → List Item → Env
after_items env [] = env
after_items env (item ∷ rest) = after_items (after_item env item) rest

abbrev pub item_outline : Env → Item → Outline
item_outline env (Scope at level names) = At at.line (scope_shape env level names) Empty
item_outline env (Variables declaration) = global_outlines declaration.base env declaration.declarators
item_outline env (Defined f) = function_outline env f

abbrev pub items_outline : Env → List Item → Outline
items_outline env [] = Empty
items_outline env (item ∷ rest) = Then (item_outline env item) (items_outline (after_item env item) rest)

abbrev pub item_made : Env → Item → List p.Function
item_made env (Scope at level names) = []
item_made env (Variables declaration) = []
item_made env (Defined f) = body_made (behind_params env f) f f.body

-- the definitions in order
abbrev pub functions_made : Env → List Item → List p.Function
functions_made env [] = []
functions_made env (item ∷ rest) = item_made env item ++ functions_made (after_item env item) rest

-- how many file-scope variables there are
abbrev pub variable_count : List Item → ℕ
variable_count [] = 0
variable_count (Scope at level names ∷ rest) = variable_count rest
variable_count (Variables declaration ∷ rest) = length declaration.declarators + variable_count rest
variable_count (Defined f ∷ rest) = variable_count rest

-- one more definition, whose number counts where the name has none
abbrev pub with_definition : env.Name → ℕ → env.Scope → env.Scope
with_definition name number found = cond (is_some (fin.get found name)) found (fin.insert found name (decl.Function number))

-- the names of the functions that are defined, each with the number of its first definition
abbrev pub definitions_from : ℕ → env.Scope → List Item → env.Scope
definitions_from number found [] = found
definitions_from number found (Scope at level names ∷ rest) = definitions_from number found rest
definitions_from number found (Variables declaration ∷ rest) = definitions_from number found rest
definitions_from number found (Defined f ∷ rest) = cond (is_some f.body) (definitions_from (number + 1) (with_definition f.name number found) rest) (definitions_from number found rest)

-- before the first item of a unit
abbrev pub start : List Item → Env
start items = record {
  definitions = definitions_from 0 fin.empty items;
  file_variables = variable_count items;
  scopes = fin.empty ∷ [];
  functions = [];
  has_definition = false;
  globals = [];
  statics = [];
  words = 0;
  constructs = [];
  slots = 0;
  taken = [];
  returns = Void;
}

-- the nodes of a tree: the whole, on line 1, and then its items
abbrev pub tree_outline : Tree → Outline
tree_outline tree = At 1 (shape.Item (item.Unit (has_main tree.items))) (items_outline (start tree.items) tree.items)

abbrev pub tree_nodes : Tree → List Node
tree_nodes tree = nodes_of (tree_outline tree)

-- the typed program, where no rule is broken
abbrev pub program_made : Tree → p.Program
program_made tree =
    let end = after_items (start tree.items) tree.items in
    record {
      variables = end.globals ++ end.statics;
      functions = functions_made (start tree.items) tree.items;
      main = unwrap_or (numbered (fin.get (definitions_from 0 fin.empty tree.items) (codes "main"))) 0;
      constructs = end.constructs;
      lines = tree.last_line;
    }
