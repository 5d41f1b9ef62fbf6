-- Declarations of variables: what they declare, what the rules read of them, and their typed form.
use Rattle.std.specs.Prelude.{ℕ, ◌+◌, ◌*◌, nat_le, Bool, true, false, cond, not, ◌&&◌, ◌||◌, List, [], ◌∷◌, ◌++◌, length, Option, None, Some, option_map, is_some, unwrap_or}
use Rattle.mpc_values.specs.declared.limits.TheConstants.{MAX_STATIC_VARIABLES, MAX_STATIC_WORDS}
use Rattle.mpc_values.specs.declared.values.Word.{Word}
use Rattle.mpc_values.specs.declared.owners.StaticVar.{StaticVar}
use Rattle.c_tree.specs.declared.syntax.Base.{Base}
use Rattle.c_tree.specs.Programs as p
use Rattle.c_tree.specs.Syntax.{Expr, Initializer, Nothing, Value, Values, Declarator, Declaration}
use Rattle.c_types.specs.declared.kinds.Home.{Home}
use Rattle.c_types.specs.declared.kinds.Home.TheVariants.{Static, Local}
use Rattle.c_types.specs.declared.kinds.Kind.{Kind}
use Rattle.c_types.specs.declared.kinds.Kind.TheVariants.{Plain, Pointer}
use Rattle.c_types.specs.declared.kinds.Decl.TheVariants as decl
use Rattle.c_types.specs.declared.kinds.Variable.{Variable}
use Rattle.c_types.specs.declared.shapes.Initial.{Initial}
use Rattle.c_types.specs.declared.shapes.Initial.TheVariants as initial
use Rattle.c_types.specs.declared.shapes.ItemShape.TheVariants as item
use Rattle.c_types.specs.declared.shapes.Shape.{Shape}
use Rattle.c_types.specs.declared.shapes.Shape.TheVariants.{Item}
use Rattle.c_types.specs.Calls.{wanted_by}
use Rattle.c_types.specs.Constants.{array_length, initial_words}
use Rattle.c_types.specs.Env.{Env, put, in_top}
use Rattle.c_types.specs.Expressions.{kind_of, outline}
use Rattle.c_types.specs.Kinds.{words_of}
use Rattle.c_types.specs.KnownNames.{known}
use Rattle.c_types.specs.Nodes.{Outline, Empty, At, Then}
use Rattle.c_types.specs.Typed.{typed, is_aggregate, is_taken, variable_value, assigned_to, converted}

-- ---- what a declarator declares

abbrev pub is_array : Declarator → Bool
is_array d = is_some d.len

-- the type of one element, of which a variable that is no array has one
abbrev pub element_kind : Base → Declarator → Kind
element_kind base d = cond (d.pointer && not (is_array d)) (Pointer base) (Plain base)

-- the type of the variable's value: an array's is a pointer
abbrev pub declared_kind : Base → Declarator → Kind
declared_kind base d = cond (is_array d) (Pointer base) (element_kind base d)

abbrev pub variable_of : Base → Declarator → Home → Variable
variable_of base d home = record { kind = declared_kind base d; is_array = is_array d; home = home }

-- how many words an element of a type has
abbrev pub kind_words : Kind → ℕ
kind_words (Plain base) = words_of base
kind_words kind = 1

-- how many elements a variable has, where its length is a constant in the limits
abbrev pub elements : Option Expr → Option ℕ
elements None = Some 1
elements (Some len) = array_length len

-- how many words it has
abbrev pub object_words : Base → Declarator → Option ℕ
object_words base d = option_map (λ n. n * kind_words (element_kind base d)) (elements d.len)

-- ---- static variables

-- with one more static variable of so many words the limits are kept
abbrev pub fits_static : Env → ℕ → Bool
fits_static env words = nat_le (length env.globals + length env.statics + 1) MAX_STATIC_VARIABLES && nat_le (env.words + words) MAX_STATIC_WORDS

abbrev pub static_words_in : Env → Option ℕ → Option ℕ
static_words_in env None = None
static_words_in env (Some words) = cond (fits_static env words) (Some words) None

-- how many words a static variable has, where these and the variable are within the limits
abbrev pub static_words : Env → Base → Declarator → Option ℕ
static_words env base d = static_words_in env (object_words base d)

-- the words that it starts with, where its initializer may stand there
abbrev pub first_words : Env → Base → Declarator → Option (List Word)
first_words env base d = initial_words (element_kind base d) (is_array d) (unwrap_or (static_words env base d) 0) d.initializer

-- a variable of so many words, which starts with these; where the limits are not kept, one without words
abbrev pub static_of : Option ℕ → Option (List Word) → StaticVar
static_of None first = record { len = 0; level = None; first = [] }
static_of (Some words) first = record { len = words; level = None; first = unwrap_or first [] }

abbrev pub static_variable : Env → Base → Declarator → StaticVar
static_variable env base d = static_of (static_words env base d) (first_words env base d)

-- the next file-scope variable
abbrev pub with_global : Base → Env → Declarator → Env
with_global base env d = record env {
  scopes = put d.name (decl.Variable (variable_of base d (Static (length env.globals)))) env.scopes;
  globals = env.globals ++ static_variable env base d ∷ [];
  words = env.words + unwrap_or (static_words env base d) 0;
}

-- the next static local
abbrev pub with_static : Base → Env → Declarator → Env
with_static base env d = record env {
  scopes = put d.name (decl.Variable (variable_of base d (Static (env.file_variables + length env.statics)))) env.scopes;
  statics = env.statics ++ static_variable env base d ∷ [];
  words = env.words + unwrap_or (static_words env base d) 0;
}

-- the next slot
abbrev pub with_local : Base → Env → Declarator → Env
with_local base env d = record env {
  scopes = put d.name (decl.Variable (variable_of base d (Local env.slots))) env.scopes;
  slots = env.slots + 1;
}

-- a declarator in a function
abbrev pub with_inner : Bool → Base → Env → Declarator → Env
with_inner true base env d = with_static base env d
with_inner false base env d = with_local base env d

-- ---- what the rules read

-- of a variable that stands in the innermost scope already, or not, with a length that fits, or not
abbrev pub declared_shape : Bool → Bool → Base → Declarator → Bool → Initial → Shape
declared_shape is_twice is_static base d fits given = Item (item.Variable (record {
  is_twice = is_twice;
  is_known = is_some (known d.name);
  is_static = is_static;
  is_array = is_array d;
  base = base;
  kind = declared_kind base d;
  fits = fits;
  initial = given;
}))

-- a static variable is one node: its length and its initializer are read as constants
abbrev pub static_shape : Env → Base → Declarator → Shape
static_shape env base d = declared_shape (in_top d.name env.scopes) true base d (is_some (static_words env base d)) (initial.Constant (is_some (first_words env base d)))

-- the initializer of another variable, in which the variable stands already
abbrev pub initial_of : Env → Kind → Initializer → Initial
initial_of env kind Nothing = initial.Nothing
initial_of env kind (Value value) = initial.Value (kind_of env (wanted_by kind) value)
initial_of env kind (Values values) = initial.List

abbrev pub local_shape : Env → Base → Declarator → Shape
local_shape env base d = declared_shape (in_top d.name env.scopes) false base d (is_some (object_words base d)) (initial_of (with_local base env d) (declared_kind base d) d.initializer)

abbrev pub initial_outline : Env → Kind → Initializer → Outline
initial_outline env kind Nothing = Empty
initial_outline env kind (Value value) = outline env (wanted_by kind) value
initial_outline env kind (Values values) = Empty

abbrev pub static_outline : Env → Base → Declarator → Outline
static_outline env base d = At d.at.line (static_shape env base d) Empty

abbrev pub local_outline : Env → Base → Declarator → Outline
local_outline env base d = At d.at.line (local_shape env base d) (initial_outline (with_local base env d) (declared_kind base d) d.initializer)

abbrev pub inner_outline : Bool → Base → Env → Declarator → Outline
inner_outline true base env d = static_outline env base d
inner_outline false base env d = local_outline env base d

-- the declarators of a file-scope declaration, one after the other
abbrev pub with_globals : Base → Env → List Declarator → Env
with_globals base env [] = env
with_globals base env (d ∷ ds) = with_globals base (with_global base env d) ds

abbrev pub global_outlines : Base → Env → List Declarator → Outline
global_outlines base env [] = Empty
global_outlines base env (d ∷ ds) = Then (static_outline env base d) (global_outlines base (with_global base env d) ds)

-- and of one in a function
abbrev pub with_inners : Bool → Base → Env → List Declarator → Env
with_inners is_static base env [] = env
with_inners is_static base env (d ∷ ds) = with_inners is_static base (with_inner is_static base env d) ds

abbrev pub inner_outlines : Bool → Base → Env → List Declarator → Outline
inner_outlines is_static base env [] = Empty
inner_outlines is_static base env (d ∷ ds) = Then (inner_outline is_static base env d) (inner_outlines is_static base (with_inner is_static base env d) ds)

-- the names behind a declaration in a function, and its nodes
abbrev pub declared : Env → Declaration → Env
declared env d = with_inners d.is_static d.base env d.declarators

abbrev pub declaration_outline : Env → Declaration → Outline
declaration_outline env d = inner_outlines d.is_static d.base env d.declarators

-- ---- the typed form

-- a local's place: the task keeps it, or it is made in memory
abbrev pub local_made : Env → ℕ → Variable → ℕ → ℕ → p.Stmt
local_made env line variable slot words = cond (is_aggregate variable || is_taken env slot) (p.New line slot words) (p.Unset slot)

-- the value of an initializer, as one of the variable's type
abbrev pub initial_value : Env → Kind → Initializer → Option p.Expr
initial_value env kind Nothing = None
initial_value env kind (Value value) = Some (converted (Some kind) (kind_of env (wanted_by kind) value) (typed env (wanted_by kind) value))
initial_value env kind (Values values) = None

-- it is stored
abbrev pub initial_made : Env → ℕ → Variable → Option p.Expr → List p.Stmt
initial_made env line variable None = []
initial_made env line variable (Some value) = p.Eval line (assigned_to (variable_value env variable) value) ∷ []

-- a local with its initializer; the names are those behind the declarator
abbrev pub local_stored : Env → ℕ → Variable → ℕ → ℕ → Option p.Expr → List p.Stmt
local_stored env line variable slot words value = local_made env line variable slot words ∷ initial_made env line variable value

abbrev pub declarator_made : ℕ → Bool → Base → Env → Declarator → List p.Stmt
declarator_made line true base env d = []
declarator_made line false base env d =
    local_stored (with_local base env d) line (variable_of base d (Local env.slots)) env.slots (unwrap_or (object_words base d) 0) (initial_value (with_local base env d) (declared_kind base d) d.initializer)

abbrev pub declarators_made : ℕ → Bool → Base → Env → List Declarator → List p.Stmt
declarators_made line is_static base env [] = []
declarators_made line is_static base env (d ∷ ds) = declarator_made line is_static base env d ++ declarators_made line is_static base (with_inner is_static base env d) ds

-- the statements that a declaration in a function leaves, each with the line of the declaration
abbrev pub declaration_made : Env → Declaration → List p.Stmt
declaration_made env d = declarators_made d.at.line d.is_static d.base env d.declarators
