-- What the rules read of names, of the left side of an assignment, and of calls, where the types of operands are known.
use Rattle.std.specs.Prelude.{Bool, true, false, cond, not, ◌&&◌, ◌||◌, List, [], ◌∷◌, Option, None, Some, option_map, slice_get, is_some, codes, bytes_eq}
use Rattle.c_tree.specs.declared.mpi.MpiFunction.{MpiFunction}
use Rattle.c_tree.specs.declared.mpi.MpiFunction.TheVariants as function
use Rattle.c_tree.specs.declared.syntax.Base.{Base}
use Rattle.c_tree.specs.declared.syntax.Base.TheVariants as base
use Rattle.c_tree.specs.declared.syntax.TypeName.{TypeName}
use Rattle.c_tree.specs.declared.syntax.Unary.{Unary}
use Rattle.c_tree.specs.declared.syntax.Unary.TheVariants as unary
use Rattle.c_tree.specs.declared.syntax.Binary.{Binary}
use Rattle.c_tree.specs.MpiTable.{arguments_of}
use Rattle.c_tree.specs.Syntax.{Expr, Exprs, Name, Text, Call, Index, Unary', End, More}
use Rattle.c_types.specs.declared.kinds.Kind.{Kind}
use Rattle.c_types.specs.declared.kinds.Kind.TheVariants.{Pointer, Null}
use Rattle.c_types.specs.declared.kinds.Decl.{Decl}
use Rattle.c_types.specs.declared.kinds.Decl.TheVariants as decl
use Rattle.c_types.specs.declared.kinds.Variable.{Variable}
use Rattle.c_types.specs.declared.kinds.Known.TheVariants as a_known
use Rattle.c_types.specs.declared.kinds.Given.{Given}
use Rattle.c_types.specs.declared.kinds.Given.TheVariants as given
use Rattle.c_types.specs.declared.kinds.Left.{Left}
use Rattle.c_types.specs.declared.kinds.Left.TheVariants as left
use Rattle.c_types.specs.declared.kinds.Sig.{Sig}
use Rattle.c_types.specs.declared.shapes.CallShape.TheVariants as call
use Rattle.c_types.specs.declared.shapes.OperandShape.TheVariants as operand
use Rattle.c_types.specs.declared.shapes.OperatorShape.TheVariants as operator
use Rattle.c_types.specs.declared.shapes.Shape.{Shape}
use Rattle.c_types.specs.declared.shapes.Shape.TheVariants as shape
use Rattle.c_types.specs.Arguments.{all_meet, datatypes_agree}
use Rattle.c_types.specs.Env as env
use Rattle.c_types.specs.Env.{Env, Scope, first_some, find}
use Rattle.c_types.specs.Formats.{format_parts, prints}
use Rattle.c_types.specs.Kinds.{is_number, points, misses, all_agree}
use Rattle.c_types.specs.KnownNames.{known}

-- what a name stands for: what it is declared as, or a known name
abbrev pub meaning : env.Name → List Scope → Option Decl
meaning name scopes = first_some (find name scopes) (option_map decl.Known (known name))

-- what a variable is as the left side of an assignment
abbrev pub variable_side : Variable → Left
variable_side variable = cond variable.is_array left.Array (left.Typed variable.kind)

-- the same of what a name stands for
abbrev pub name_side : Option Decl → Left
name_side None = left.Unknown
name_side (Some (decl.Variable variable)) = variable_side variable
name_side (Some decl.Count) = left.Count
name_side (Some decl.Arguments) = left.Arguments
name_side (Some (decl.Function number)) = left.Nothing
name_side (Some (decl.Known known)) = left.Nothing

-- the same of an element of this type
abbrev pub element_side : Option Kind → Left
element_side None = left.Unknown
element_side (Some kind) = left.Typed kind

abbrev pub pointed_side : Unary → Option Kind → Left
pointed_side unary.Indirection kind = element_side kind
pointed_side sign kind = left.Nothing

-- what an expression of a type is as the left side of an assignment: a variable by its name, *p or p[i]
abbrev pub side_of : List Scope → Expr → Option Kind → Left
side_of scopes (Name at name) kind = name_side (meaning name scopes)
side_of scopes (Index at array index) kind = element_side kind
side_of scopes (Unary' at sign operand) kind = pointed_side sign kind
side_of scopes e kind = left.Nothing

-- the element of the pointer that a malloc is for where this type is due
abbrev pub wanted_by : Kind → Option Base
wanted_by (Pointer element) = Some element
wanted_by kind = None

abbrev pub wanted : Left → Option Base
wanted (left.Typed kind) = wanted_by kind
wanted side = None

-- the same under a cast to a pointer
abbrev pub cast_want : TypeName → Option Base
cast_want to = cond to.pointer (Some to.base) None

-- the element, where a malloc can be for it: only int and long have a size
abbrev pub sized : Option Base → Option Base
sized (Some base.Int) = Some base.Int
sized (Some base.Long) = Some base.Long
sized want = None

abbrev pub names_malloc : Option Decl → Bool
names_malloc (Some (decl.Known a_known.Malloc)) = true
names_malloc declared = false

-- the expression is a call of malloc
abbrev pub is_malloc : List Scope → Expr → Bool
is_malloc scopes (Call at name arguments) = names_malloc (meaning name scopes)
is_malloc scopes e = false

-- what the rules read of a cast; one to a pointer stands over a malloc, where that is for a pointer
abbrev pub cast_shape : Option Base → TypeName → Bool → Option Kind → Shape
cast_shape want to over_malloc kind = cond to.pointer (shape.Operand (operand.Cast to.base (over_malloc && is_some want))) (shape.Operand (operand.Converted to.base kind))

abbrev pub unary_shape : Unary → Left → Option Kind → Shape
unary_shape unary.Minus side kind = shape.Operand (operand.Signed kind)
unary_shape unary.Plus side kind = shape.Operand (operand.Signed kind)
unary_shape unary.Not side kind = shape.Operand (operand.Negated kind)
unary_shape unary.Complement side kind = shape.Operand (operand.Signed kind)
unary_shape unary.Indirection side kind = shape.Operand (operand.Pointed kind)
unary_shape unary.Address side kind = shape.Operand (operand.Located side)

-- the fields of an MPI_Status (MPI 3.1, section 3.2.5)
abbrev pub is_field : env.Name → Bool
is_field name = bytes_eq name (codes "MPI_SOURCE") || bytes_eq name (codes "MPI_TAG")

-- what a name is as an argument of an MPI function, where it is no expression
abbrev pub named_given : Option Decl → Option Given
named_given (Some (decl.Known (a_known.Datatype datatype))) = Some (given.Datatype datatype)
named_given (Some (decl.Known (a_known.Operation operation))) = Some (given.Operation operation)
named_given (Some (decl.Known a_known.Ignored)) = Some given.Ignored
named_given declared = None

abbrev pub special : List Scope → Expr → Option Given
special scopes (Name at name) = named_given (meaning name scopes)
special scopes e = None

-- an argument that is no such name is an expression of a type
abbrev pub or_typed : Option Given → Option Kind → Given
or_typed (Some given) kind = given
or_typed None kind = given.Typed kind

-- the first argument is the text of a format, and the others are its numbers
abbrev pub prints_all : Exprs → List (Option Kind) → Bool
prints_all (More (Text at text) rest) (kind ∷ kinds) = prints (format_parts text) kinds
prints_all arguments kinds = false

-- there is one argument, and it is a number
abbrev pub is_one_number : List (Option Kind) → Bool
is_one_number (kind ∷ []) = not (misses is_number kind)
is_one_number kinds = false

-- there is one argument, and it is a pointer
abbrev pub is_one_pointer : List (Option Kind) → Bool
is_one_pointer (kind ∷ []) = not (misses points kind)
is_one_pointer kinds = false

abbrev pub are_two : Exprs → Bool
are_two (More first (More second End)) = true
are_two arguments = false

abbrev pub stands_for_null : Option Decl → Bool
stands_for_null (Some (decl.Known (a_known.Constant Null word))) = true
stands_for_null declared = false

abbrev pub stands_for_count : Option Decl → Bool
stands_for_count (Some decl.Count) = true
stands_for_count declared = false

abbrev pub stands_for_arguments : Option Decl → Bool
stands_for_arguments (Some decl.Arguments) = true
stands_for_arguments declared = false

-- the expression is a name that passes the test
abbrev pub is_name_of : (Option Decl → Bool) → List Scope → Expr → Bool
is_name_of test scopes (Name at name) = test (meaning name scopes)
is_name_of test scopes e = false

-- the expression is the address of a name that passes the test
abbrev pub is_address_of : (Option Decl → Bool) → List Scope → Expr → Bool
is_address_of test scopes (Unary' at unary.Address operand) = is_name_of test scopes operand
is_address_of test scopes e = false

-- MPI_Init's arguments are NULL, NULL or main's own &argc, &argv
abbrev pub may_start : List Scope → Exprs → Bool
may_start scopes (More first (More second End)) =
    (is_name_of stands_for_null scopes first && is_name_of stands_for_null scopes second) || (is_address_of stands_for_count scopes first && is_address_of stands_for_arguments scopes second)
may_start scopes arguments = false

-- what the rules read of an assignment, whose left side is this; a computing one has a sign
abbrev pub assigned_shape : Option Binary → Left → Option Kind → Option Kind → Shape
assigned_shape None side a b = shape.Operator (operator.Assigned side b)
assigned_shape (Some sign) side a b = shape.Operator (operator.Computed sign side a b)

-- what the rules read of a call of a function of the program
abbrev pub own_shape : Option Sig → List (Option Kind) → Shape
own_shape None kinds = shape.Call call.Nothing
own_shape (Some sig) kinds = shape.Call (call.Own (is_some sig.number) (all_agree sig.params kinds) sig.returns)

abbrev pub mpi_shape : MpiFunction → List Scope → Exprs → List Given → Shape
mpi_shape function.Init scopes arguments givens = shape.Call (call.Init (are_two arguments) (may_start scopes arguments))
mpi_shape function scopes arguments givens = shape.Call (call.Mpi (all_meet (arguments_of function) givens) (datatypes_agree function (arguments_of function) givens))

-- what the rules read of a call of what a name stands for: the arguments, their types, and what they are for an MPI function
abbrev pub call_shape : Env → Option Base → Option Decl → Exprs → List (Option Kind) → List Given → Shape
call_shape env want (Some (decl.Function place)) arguments kinds givens = own_shape (slice_get env.functions place) kinds
call_shape env want (Some (decl.Known (a_known.Mpi function))) arguments kinds givens = mpi_shape function env.scopes arguments givens
call_shape env want (Some (decl.Known a_known.Printf)) arguments kinds givens = shape.Call (call.Printf (prints_all arguments kinds))
call_shape env want (Some (decl.Known a_known.Malloc)) arguments kinds givens = shape.Call (call.Malloc (sized want) (is_one_number kinds))
call_shape env want (Some (decl.Known a_known.Free)) arguments kinds givens = shape.Call (call.Free (is_one_pointer kinds))
call_shape env want declared arguments kinds givens = shape.Call call.Nothing

-- which arguments of a call are expressions that are looked at
pub data Looked : Type 0 where
  Every : Looked
  -- all but a format
  BehindFirst : Looked
  -- all but datatypes, operations and ignored statuses
  Expressions : Looked
  -- MPI_Init's are none
  Neither : Looked

abbrev pub looked_at : Option Decl → Looked
looked_at (Some (decl.Known (a_known.Mpi function.Init))) = Neither
looked_at (Some (decl.Known (a_known.Mpi function))) = Expressions
looked_at (Some (decl.Known a_known.Printf)) = BehindFirst
looked_at declared = Every
