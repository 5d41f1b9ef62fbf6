-- The arguments of MPI functions against the rows of the table.
use Rattle.std.specs.Prelude.{Bool, true, false, not, ◌&&◌, ◌||◌, List, [], ◌∷◌, Option, None, Some}
use Rattle.mpc_values.specs.declared.values.Datatype.{Datatype}
use Rattle.mpc_values.specs.declared.values.Datatype.TheVariants as datatype
use Rattle.mpc_values.specs.declared.values.Op.{Op}
use Rattle.mpc_values.specs.declared.values.Op.TheVariants as op
use Rattle.c_tree.specs.declared.syntax.Base.{Base}
use Rattle.c_tree.specs.declared.syntax.Base.TheVariants as base
use Rattle.c_tree.specs.declared.mpi.MpiFunction.{MpiFunction}
use Rattle.c_tree.specs.declared.mpi.MpiFunction.TheVariants as function
use Rattle.c_tree.specs.declared.mpi.Argument.{Argument}
use Rattle.c_tree.specs.declared.mpi.Argument.TheVariants as argument
use Rattle.c_types.specs.declared.kinds.Kind.{Kind}
use Rattle.c_types.specs.declared.kinds.Kind.TheVariants.{Plain, Pointer}
use Rattle.c_types.specs.declared.kinds.Given.{Given}
use Rattle.c_types.specs.declared.kinds.Given.TheVariants.{Typed, Datatype as A_datatype, Operation, Ignored}
use Rattle.c_types.specs.Kinds.{is_number, agree, misses}

-- an argument of this type may be given where a place of such an element is due
abbrev pub is_place_of : Base → Option Kind → Bool
is_place_of element kind = not (misses (agree (Pointer element)) kind)

-- the argument is what stands at this place of a row; a buffer's type is another rule's
abbrev pub meets : Argument → Given → Bool
meets argument.Number (Typed kind) = not (misses is_number kind)
meets argument.Comm (Typed kind) = not (misses (agree (Plain base.Comm)) kind)
meets argument.NumberPlace (Typed kind) = is_place_of base.Int kind
meets argument.CommPlace (Typed kind) = is_place_of base.Comm kind
meets argument.RequestPlace (Typed kind) = is_place_of base.Request kind
meets argument.Buffer (Typed kind) = true
meets argument.Datatype (A_datatype datatype) = true
meets argument.Operation (Operation operation) = true
meets argument.Status (Typed kind) = is_place_of base.Status kind
meets argument.Status Ignored = true
meets argument.FilledStatus (Typed kind) = is_place_of base.Status kind
meets row given = false

-- each argument is what stands at its place of the row, and there are as many
abbrev pub all_meet : List Argument → List Given → Bool
all_meet [] [] = true
all_meet (row ∷ rows) (given ∷ rest) = meets row given && all_meet rows rest
all_meet rows given = false

-- the first datatype among the arguments
abbrev pub first_datatype : List Given → Option Datatype
first_datatype [] = None
first_datatype (A_datatype datatype ∷ rest) = Some datatype
first_datatype (given ∷ rest) = first_datatype rest

-- the last one, where there is one, and else this
abbrev pub last_datatype : Datatype → List Given → Datatype
last_datatype other [] = other
last_datatype other (A_datatype datatype ∷ rest) = last_datatype datatype rest
last_datatype other (given ∷ rest) = last_datatype other rest

-- the operation among the arguments, or Sum
abbrev pub operation_of : List Given → Op
operation_of [] = op.Sum
operation_of (Operation operation ∷ rest) = operation
operation_of (given ∷ rest) = operation_of rest

-- a status among the arguments is ignored
abbrev pub is_ignored : List Given → Bool
is_ignored [] = false
is_ignored (Ignored ∷ rest) = true
is_ignored (given ∷ rest) = is_ignored rest

-- the element of buffers of a datatype
abbrev pub element_base : Datatype → Base
element_base datatype.Int = base.Int
element_base datatype.Long = base.Long

-- a buffer of this type may stand before a datatype
abbrev pub fits_datatype : Option Datatype → Option Kind → Bool
fits_datatype None kind = true
fits_datatype (Some datatype) kind = is_place_of (element_base datatype) kind

-- each buffer agrees with the datatype that follows it
abbrev pub buffers_agree : List Argument → List Given → Bool
buffers_agree (argument.Buffer ∷ rows) (Typed kind ∷ rest) = fits_datatype (first_datatype rest) kind && buffers_agree rows rest
buffers_agree (row ∷ rows) (given ∷ rest) = buffers_agree rows rest
buffers_agree rows given = true

abbrev pub same_datatype : Datatype → Datatype → Bool
same_datatype datatype.Int datatype.Int = true
same_datatype datatype.Long datatype.Long = true
same_datatype a b = false

-- the datatypes among the arguments are all this one
abbrev pub all_datatypes : Datatype → List Given → Bool
all_datatypes one [] = true
all_datatypes one (A_datatype datatype ∷ rest) = same_datatype one datatype && all_datatypes one rest
all_datatypes one (given ∷ rest) = all_datatypes one rest

abbrev pub is_one_datatype : Option Datatype → List Given → Bool
is_one_datatype None given = true
is_one_datatype (Some datatype) given = all_datatypes datatype given

-- a send and a receive in one call each have a datatype of their own; every other function has one
abbrev pub has_two_datatypes : MpiFunction → Bool
has_two_datatypes function.Sendrecv = true
has_two_datatypes other = false

-- buffers agree with their datatypes, and the datatypes of one collective with each other
abbrev pub datatypes_agree : MpiFunction → List Argument → List Given → Bool
datatypes_agree function rows given = buffers_agree rows given && (has_two_datatypes function || is_one_datatype (first_datatype given) given)
