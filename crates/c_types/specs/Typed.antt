-- The typed form of expressions. It is spoken of only where no rule is broken.
use Rattle.std.specs.Prelude.{ℕ, pos, Bool, true, false, cond, ◌||◌, List, [], ◌∷◌, Option, None, Some, slice_get, unwrap_or, codes, bytes_eq}
use Rattle.mpc_values.specs.declared.values.Word.TheVariants as word
use Rattle.mpc_values.specs.declared.values.Obj.TheVariants.{Glob}
use Rattle.mpc_values.specs.declared.values.Datatype.{Datatype}
use Rattle.mpc_values.specs.declared.values.Datatype.TheVariants as datatype
use Rattle.c_tree.specs.declared.formats.Piece.{Piece}
use Rattle.c_tree.specs.declared.mpi.Argument.{Argument}
use Rattle.c_tree.specs.declared.mpi.Argument.TheVariants as argument
use Rattle.c_tree.specs.declared.mpi.MpiFunction.{MpiFunction}
use Rattle.c_tree.specs.declared.mpi.MpiFunction.TheVariants as function
use Rattle.c_tree.specs.declared.program.Callee.TheVariants as callee
use Rattle.c_tree.specs.declared.program.MpiCall.{MpiCall}
use Rattle.c_tree.specs.declared.program.Operation.{Operation}
use Rattle.c_tree.specs.declared.program.Operation.TheVariants as operation
use Rattle.c_tree.specs.declared.program.Comparison.{Comparison}
use Rattle.c_tree.specs.declared.program.Comparison.TheVariants as comparison
use Rattle.c_tree.specs.declared.program.Scalar.{Scalar}
use Rattle.c_tree.specs.declared.program.Scalar.TheVariants as scalar
use Rattle.c_tree.specs.declared.program.Update.{Update}
use Rattle.c_tree.specs.declared.program.Update.TheVariants as update
use Rattle.c_tree.specs.declared.program.Width.TheVariants as width
use Rattle.c_tree.specs.declared.syntax.Base.{Base}
use Rattle.c_tree.specs.declared.syntax.Base.TheVariants as base
use Rattle.c_tree.specs.declared.syntax.Binary.{Binary}
use Rattle.c_tree.specs.declared.syntax.Change.{Change}
use Rattle.c_tree.specs.declared.syntax.Change.TheVariants as change
use Rattle.c_tree.specs.declared.syntax.TypeName.{TypeName}
use Rattle.c_tree.specs.declared.syntax.Unary.{Unary}
use Rattle.c_tree.specs.declared.syntax.Unary.TheVariants as unary
use Rattle.c_tree.specs.MpiTable.{arguments_of}
use Rattle.c_tree.specs.Programs as p
use Rattle.c_tree.specs.Syntax.{Expr, Exprs, Name, Number, Text, Call, Index, Field, Postfix, Prefix, Unary', Cast, SizeOf, Binary', Choice, Assign, End, More}
use Rattle.c_types.specs.declared.kinds.Home.{Home}
use Rattle.c_types.specs.declared.kinds.Home.TheVariants as home
use Rattle.c_types.specs.declared.kinds.Kind.{Kind}
use Rattle.c_types.specs.declared.kinds.Kind.TheVariants.{Plain, Pointer}
use Rattle.c_types.specs.declared.kinds.Decl.{Decl}
use Rattle.c_types.specs.declared.kinds.Decl.TheVariants as decl
use Rattle.c_types.specs.declared.kinds.Variable.{Variable}
use Rattle.c_types.specs.declared.kinds.Known.TheVariants as a_known
use Rattle.c_types.specs.declared.kinds.Given.{Given}
use Rattle.c_types.specs.declared.kinds.Sig.{Sig}
use Rattle.c_types.specs.Arguments.{first_datatype, last_datatype, operation_of, is_ignored}
use Rattle.c_types.specs.Calls.{meaning, cast_want, special}
use Rattle.c_types.specs.declared.meanings.Meaning.{Meaning}
use Rattle.c_types.specs.declared.meanings.Meaning.TheVariants.{Operates, Compares, Conjunction, Disjunction}
use Rattle.c_types.specs.Constants.{meaning_of, operation_width, size_of}
use Rattle.c_types.specs.Env.{Env}
use Rattle.c_types.specs.Expressions.{kind_of, givens, right_want}
use Rattle.c_types.specs.Formats.{format_parts, pieces_of, Part}
use Rattle.c_types.specs.Kinds.{is_number, is_status, has, words_of, width_of}

-- ---- variables

-- a local's address is taken somewhere in its function
abbrev pub is_taken : Env → ℕ → Bool
is_taken env slot = unwrap_or (slice_get env.taken slot) false

-- a variable of several words, whose value is its first place
abbrev pub is_aggregate : Variable → Bool
is_aggregate variable = variable.is_array || is_status variable.kind

-- the slot of a local that the task keeps
abbrev pub kept_local : Env → Variable → Home → Option ℕ
kept_local env variable (home.Static number) = None
kept_local env variable (home.Local slot) = cond (is_aggregate variable || is_taken env slot) None (Some slot)

-- the first place of a variable that is static or in memory
abbrev pub home_place : Home → p.Expr
home_place (home.Static number) = p.Constant (word.Ptr (Glob number) 0)
home_place (home.Local slot) = p.Object slot

abbrev pub undefined : p.Expr
undefined = p.Constant word.Undef

-- what the word of a type is read as
abbrev pub scalar_of : Kind → Scalar
scalar_of (Plain base.Int) = scalar.Number width.Int
scalar_of (Plain base.Long) = scalar.Number width.Long
scalar_of (Plain base.Comm) = scalar.Comm
scalar_of (Plain base.Request) = scalar.Request
scalar_of kind = scalar.Pointer

-- the value of a type at a place; that of an MPI_Status is the place
abbrev pub loaded : Kind → p.Expr → p.Expr
loaded (Plain base.Status) place = place
loaded kind place = p.Load (scalar_of kind) place

abbrev pub element_loaded : Option Kind → p.Expr → p.Expr
element_loaded (Some (Pointer element)) place = loaded (Plain element) place
element_loaded kind place = place

abbrev pub local_or : Option ℕ → p.Expr → p.Expr
local_or None other = other
local_or (Some slot) other = p.Local slot

-- the value of a variable; that of an array is its first place
abbrev pub variable_value : Env → Variable → p.Expr
variable_value env variable = local_or (kept_local env variable variable.home) (cond variable.is_array (home_place variable.home) (loaded variable.kind (home_place variable.home)))

abbrev pub name_value : Env → Option Decl → p.Expr
name_value env (Some (decl.Variable variable)) = variable_value env variable
name_value env (Some decl.Count) = p.Local 0
name_value env (Some (decl.Known (a_known.Constant kind value))) = p.Constant value
name_value env declared = undefined

-- ---- conversions and operations

-- a value of a type where one of another is due: a long becomes an int
abbrev pub converted : Option Kind → Option Kind → p.Expr → p.Expr
converted (Some (Plain base.Int)) (Some (Plain base.Long)) value = p.Narrow value
converted due given value = value

-- how many words an element of a pointer has
abbrev pub element_words : Option Kind → ℕ
element_words (Some (Pointer element)) = words_of element
element_words kind = 1

abbrev pub is_back : Operation → Bool
is_back operation.Subtract = true
is_back other = false

-- a sum with a pointer moves it, and other operations are on numbers
abbrev pub operation_made : Operation → Option Kind → Option Kind → p.Expr → p.Expr → p.Expr
operation_made operation (Some (Pointer element)) b left right = p.Offset (is_back operation) (words_of element) left right
operation_made operation a b left right = p.Arithmetic (operation_width operation a b) operation left right

-- == and != of what is no number ask whether both sides are the same
abbrev pub comparison_made : Comparison → Bool → p.Expr → p.Expr → p.Expr
comparison_made comparison.Equal false left right = p.Same true left right
comparison_made comparison.NotEqual false left right = p.Same false left right
comparison_made comparison of_numbers left right = p.Compare comparison left right

abbrev pub binary_made : Meaning → Option Kind → Option Kind → p.Expr → p.Expr → p.Expr
binary_made (Operates operation) a b left right = operation_made operation a b left right
binary_made (Compares comparison) a b left right = comparison_made comparison (has is_number a) left right
binary_made Conjunction a b left right = p.And left right
binary_made Disjunction a b left right = p.Or left right

-- the operation of a computing assignment
abbrev pub computes : Meaning → Operation
computes (Operates operation) = operation
computes other = operation.Add

-- how a variable of the first type takes up a number of the second
abbrev pub update_of : Operation → Option Kind → Option Kind → Update
update_of operation (Some (Pointer element)) b = update.Pointer (is_back operation) (words_of element)
update_of operation a b = update.Number operation (operation_width operation a b) (width_of a)

abbrev pub change_operation : Change → Operation
change_operation change.Increment = operation.Add
change_operation change.Decrement = operation.Subtract

-- The left side of an assignment is typed as a value too. The assignment goes to the local that this value is, or to
-- the place that it is loaded from.
abbrev pub assigned_to : p.Expr → p.Expr → p.Expr
assigned_to (p.Local slot) value = p.SetLocal slot value
assigned_to (p.Load scalar place) value = p.Store place value
assigned_to left value = undefined

abbrev pub updated : Update → p.Expr → p.Expr → p.Expr
updated update (p.Local slot) value = p.UpdateLocal update slot value
updated update (p.Load scalar place) value = p.UpdateStore update place value
updated update left value = undefined

abbrev pub stepped : Update → Bool → p.Expr → p.Expr
stepped update before (p.Local slot) = p.StepLocal update before slot
stepped update before (p.Load scalar place) = p.StepStore update before place
stepped update before operand = undefined

-- the address of what a value is loaded from; the value of an MPI_Status is its first place
abbrev pub address_of : p.Expr → p.Expr
address_of (p.Load scalar place) = place
address_of value = value

abbrev pub assignment : Option Binary → Option Kind → Option Kind → p.Expr → p.Expr → p.Expr
assignment None a b left right = assigned_to left (converted a b right)
assignment (Some sign) a b left right = updated (update_of (computes (meaning_of sign)) a b) left right

-- the place of a field of an MPI_Status: its source is its first word, and its tag the second
abbrev pub field_place : Bool → p.Expr → p.Expr
field_place true status = p.Offset false 1 status (p.Constant (word.Int (pos 1)))
field_place false status = status

abbrev pub is_tag : List ℕ → Bool
is_tag name = bytes_eq name (codes "MPI_TAG")

-- a sign before an operand of a type
abbrev pub unary_made : Unary → Option Kind → p.Expr → p.Expr
unary_made unary.Minus kind value = p.Negate (width_of kind) value
unary_made unary.Plus kind value = value
unary_made unary.Not kind value = p.Not value
unary_made unary.Complement kind value = p.Complement value
unary_made unary.Indirection kind value = element_loaded kind value
unary_made unary.Address kind value = address_of value

-- a cast to a pointer stands over a malloc, and leaves nothing
abbrev pub cast_made : TypeName → Option Kind → p.Expr → p.Expr
cast_made to kind value = cond to.pointer value (converted (Some (Plain to.base)) kind value)

-- ---- calls

-- the size of a malloc's element in bytes
abbrev pub element_size : Option Base → ℕ
element_size None = 0
element_size (Some element) = size_of element

abbrev pub first_of_all : p.Exprs → p.Expr
first_of_all p.End = undefined
first_of_all (p.More first rest) = first

abbrev pub own_params : Option Sig → List Kind
own_params None = []
own_params (Some sig) = sig.params

abbrev pub own_number : Option Sig → ℕ
own_number None = 0
own_number (Some sig) = unwrap_or sig.number 0

abbrev pub pieces : Option (List Part) → List Piece
pieces None = []
pieces (Some parts) = pieces_of parts

-- the format that a call's first argument is
abbrev pub format_of : Exprs → List Piece
format_of (More (Text at text) rest) = pieces (format_parts text)
format_of arguments = []

-- the type that an argument of a row becomes
abbrev pub row_kind : Argument → Option Kind
row_kind argument.Number = Some (Plain base.Int)
row_kind row = None

abbrev pub datatype_or : Option Datatype → Datatype
datatype_or None = datatype.Int
datatype_or (Some datatype) = datatype

-- what a call of an MPI function has beside the arguments that are evaluated
abbrev pub mpi_call : MpiFunction → List Given → MpiCall
mpi_call function givens = record {
  function = function;
  kind = datatype_or (first_datatype givens);
  received = last_datatype (datatype_or (first_datatype givens)) givens;
  op = operation_of givens;
  ignored = is_ignored givens;
}

-- which arguments a call evaluates, and what they become
pub data Passing : Type 0 where
  -- each becomes one of its parameter's type, where one is left
  Own : (params : List Kind) → Passing
  -- all but the first, as they are
  Format : Passing
  -- those of a row that are expressions
  Row : (row : List Argument) → Passing
  Nothing : Passing

abbrev pub row_of : MpiFunction → Passing
row_of function.Init = Nothing
row_of function = Row (arguments_of function)

abbrev pub passing : Env → Option Decl → Passing
passing env (Some (decl.Function place)) = Own (own_params (slice_get env.functions place))
passing env (Some (decl.Known (a_known.Mpi function))) = row_of function
passing env (Some (decl.Known a_known.Printf)) = Format
passing env declared = Own []

-- a call of what a name stands for
abbrev pub call_made : Env → Option Base → Option Decl → Exprs → List Given → p.Exprs → p.Expr
call_made env want (Some (decl.Function place)) arguments givens made = p.Apply (callee.Function (own_number (slice_get env.functions place))) made
call_made env want (Some (decl.Known (a_known.Mpi function))) arguments givens made = p.Apply (callee.Mpi (mpi_call function givens)) made
call_made env want (Some (decl.Known a_known.Printf)) arguments givens made = p.Apply (callee.Print (format_of arguments)) made
call_made env want (Some (decl.Known a_known.Malloc)) arguments givens made = p.Malloc (element_size want) (first_of_all made)
call_made env want (Some (decl.Known a_known.Free)) arguments givens made = p.Free (first_of_all made)
call_made env want declared arguments givens made = undefined

abbrev pub unless_special : Option Given → p.Expr → p.Exprs → p.Exprs
unless_special None value rest = p.More value rest
unless_special (Some given) value rest = rest

-- the typed form of an expression
abbrev mutual
  pub typed : Env → Option Base → Expr → p.Expr
  typed env want (Name at name) = name_value env (meaning name env.scopes)
  typed env want (Number at value is_long) = p.Constant (word.Int value)
  typed env want (Text at text) = undefined
  typed env want (Call at name arguments) = call_made env want (meaning name env.scopes) arguments (givens env arguments) (passed env (passing env (meaning name env.scopes)) arguments)
  typed env want (Index at array index) = element_loaded (kind_of env None array) (p.Offset false (element_words (kind_of env None array)) (typed env None array) (typed env None index))
  typed env want (Field at value name) = p.Load (scalar.Number width.Int) (field_place (is_tag name) (typed env None value))
  typed env want (Postfix at change value) = stepped (update_of (change_operation change) (kind_of env None value) (kind_of env None value)) false (typed env None value)
  typed env want (Prefix at change value) = stepped (update_of (change_operation change) (kind_of env None value) (kind_of env None value)) true (typed env None value)
  typed env want (Unary' at sign value) = unary_made sign (kind_of env None value) (typed env None value)
  typed env want (Cast at to value) = cast_made to (kind_of env (cast_want to) value) (typed env (cast_want to) value)
  typed env want (SizeOf at base) = p.Constant (word.Int (pos (size_of base)))
  typed env want (Binary' at sign left right) = binary_made (meaning_of sign) (kind_of env None left) (kind_of env None right) (typed env None left) (typed env None right)
  typed env want (Choice at test left right) = p.Choice (typed env None test) (typed env None left) (typed env None right)
  typed env want (Assign at sign left right) =
      assignment sign (kind_of env None left) (kind_of env (right_want env sign left (kind_of env None left)) right) (typed env None left)
      (typed env (right_want env sign left (kind_of env None left)) right)

  -- the arguments that a call evaluates
  pub passed : Env → Passing → Exprs → p.Exprs
  passed env how End = p.End
  passed env (Own []) (More first rest) = p.More (typed env None first) (passed env (Own []) rest)
  passed env (Own (param ∷ params)) (More first rest) = p.More (converted (Some param) (kind_of env None first) (typed env None first)) (passed env (Own params) rest)
  passed env Format (More first rest) = passed env (Own []) rest
  passed env (Row []) (More first rest) = unless_special (special env.scopes first) (typed env None first) (passed env (Row []) rest)
  passed env (Row (row ∷ rows)) (More first rest) =
      unless_special (special env.scopes first) (converted (row_kind row) (kind_of env None first) (typed env None first)) (passed env (Row rows) rest)
  passed env Nothing (More first rest) = p.End
