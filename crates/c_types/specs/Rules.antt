-- The rules of typing over the shapes of nodes: which a node breaks, the least of them, and the node's own type.
--
-- An operand whose own rule is broken has no type, and no rule is broken by what is not known of it.
use Rattle.std.specs.Prelude.{ℕ, Bool, true, false, cond, not, ◌&&◌, ◌||◌, nat_le, List, [], ◌∷◌, Option, None, Some, is_some}
use Rattle.mpc_values.specs.declared.limits.TheConstants.{MAX_CONSTRUCTS}
use Rattle.c_tree.specs.declared.syntax.Base.{Base}
use Rattle.c_tree.specs.declared.syntax.Base.TheVariants.{Int, Long, Comm, Request, Status}
use Rattle.c_tree.specs.declared.syntax.Binary.{Binary}
use Rattle.c_tree.specs.declared.syntax.Binary.TheVariants as sign
use Rattle.c_types.specs.declared.kinds.Kind.{Kind}
use Rattle.c_types.specs.declared.kinds.Kind.TheVariants.{Void, Plain, Pointer, Arguments}
use Rattle.c_types.specs.declared.kinds.Decl.{Decl}
use Rattle.c_types.specs.declared.kinds.Decl.TheVariants as decl
use Rattle.c_types.specs.declared.kinds.Known.TheVariants as known
use Rattle.c_types.specs.declared.kinds.Left.{Left}
use Rattle.c_types.specs.declared.kinds.Left.TheVariants as left
use Rattle.c_types.specs.declared.shapes.Initial.{Initial}
use Rattle.c_types.specs.declared.shapes.Initial.TheVariants as initial
use Rattle.c_types.specs.declared.shapes.Declared.{Declared}
use Rattle.c_types.specs.declared.shapes.Parameter.{Parameter}
use Rattle.c_types.specs.declared.shapes.ItemShape.TheVariants.{Unit, Scope, Variable, Parameter as A_parameter, Function}
use Rattle.c_types.specs.declared.shapes.StatementShape.TheVariants.{Tested, Returned, Jumped, Single, Barrier}
use Rattle.c_types.specs.declared.shapes.CallShape.TheVariants.{Nothing, Own, Printf, Malloc, Free, Init, Mpi}
use Rattle.c_types.specs.declared.shapes.OperandShape.TheVariants.{Number, Text, Used, Element, Field, Stepped, Signed, Negated, Pointed, Located, Converted, Cast, Sized}
use Rattle.c_types.specs.declared.shapes.OperatorShape.TheVariants.{Arithmetic, Shifted, Sum, Ordered, Compared, Joined, Chosen, Assigned, Computed}
use Rattle.c_types.specs.declared.shapes.Shape.{Shape}
use Rattle.c_types.specs.declared.shapes.Shape.TheVariants.{Item, Statement, Call, Operand, Operator}
use Rattle.c_types.specs.Kinds.{int, long, is_number, is_pointer, is_null, points, is_condition, is_status, is_plain, is_stored, agree, alike, can_compare, comparable, misses, has, differ, wider, sum_kind, choice_kind, element_of, same_kind}

pub data Rule : Type 0 where
  Rule1 : Rule
  Rule2 : Rule
  Rule3 : Rule
  Rule4 : Rule
  Rule5 : Rule
  Rule6 : Rule
  Rule7 : Rule
  Rule8 : Rule
  Rule9 : Rule
  Rule10 : Rule
  Rule11 : Rule
  Rule12 : Rule
  Rule13 : Rule
  Rule14 : Rule
  Rule15 : Rule
  Rule16 : Rule
  Rule17 : Rule
  Rule18 : Rule
  Rule19 : Rule
  Rule20 : Rule
  Rule21 : Rule
  Rule22 : Rule
  Rule23 : Rule
  Rule24 : Rule
  Rule25 : Rule
  Rule26 : Rule
  Rule27 : Rule
  Rule28 : Rule
  Rule29 : Rule
  Rule30 : Rule
  Rule31 : Rule
  Rule32 : Rule
  Rule33 : Rule

abbrev pub number : Rule → ℕ
number Rule1 = 1
number Rule2 = 2
number Rule3 = 3
number Rule4 = 4
number Rule5 = 5
number Rule6 = 6
number Rule7 = 7
number Rule8 = 8
number Rule9 = 9
number Rule10 = 10
number Rule11 = 11
number Rule12 = 12
number Rule13 = 13
number Rule14 = 14
number Rule15 = 15
number Rule16 = 16
number Rule17 = 17
number Rule18 = 18
number Rule19 = 19
number Rule20 = 20
number Rule21 = 21
number Rule22 = 22
number Rule23 = 23
number Rule24 = 24
number Rule25 = 25
number Rule26 = 26
number Rule27 = 27
number Rule28 = 28
number Rule29 = 29
number Rule30 = 30
number Rule31 = 31
number Rule32 = 32
number Rule33 = 33

-- the type that a name has as a value
abbrev pub value_kind : Option Decl → Option Kind
value_kind (Some (decl.Variable variable)) = Some variable.kind
value_kind (Some decl.Count) = Some int
value_kind (Some (decl.Known (known.Constant kind word))) = Some kind
value_kind declared = None

abbrev pub is_arguments : Option Decl → Bool
is_arguments (Some decl.Arguments) = true
is_arguments declared = false

-- the name stands for no value, and is not argv either
abbrev pub has_no_value : Option Decl → Bool
has_no_value declared = not (is_some (value_kind declared)) && not (is_arguments declared)

-- the left side is no variable and no element that can be assigned
abbrev pub is_no_target : Left → Bool
is_no_target left.Nothing = true
is_no_target left.Array = true
is_no_target (left.Typed kind) = is_status kind
is_no_target side = false

-- what the left side may be assigned
abbrev pub takes : Left → Kind → Bool
takes (left.Typed kind) given = agree kind given
takes left.Count given = agree int given
takes side given = is_stored given

abbrev pub is_count : Left → Bool
is_count left.Count = true
is_count side = false

-- ++ and -- cannot move it
abbrev pub cannot_step : Left → Bool
cannot_step left.Nothing = true
cannot_step left.Array = true
cannot_step (left.Typed kind) = not (is_number kind || is_pointer kind)
cannot_step side = false

-- it has no address
abbrev pub cannot_locate : Left → Bool
cannot_locate left.Nothing = true
cannot_locate left.Array = true
cannot_locate left.Arguments = true
cannot_locate (left.Typed kind) = not (is_plain kind)
cannot_locate side = false

-- a sum with a pointer is not one of a pointer on the left and a number on the right
abbrev pub is_no_pointer_sum : Option Kind → Option Kind → Bool
is_no_pointer_sum a b = has points b || has is_null a || (has is_pointer a && misses is_number b)

-- an operand is no number
abbrev pub no_numbers : Option Kind → Option Kind → Bool
no_numbers a b = misses is_number a || misses is_number b

-- the same of a sum, where pointers are not spoken of
abbrev pub is_no_number_sum : Option Kind → Option Kind → Bool
is_no_number_sum a b = not (has points a || has points b) && no_numbers a b

-- the two cannot be compared by ==
abbrev pub cannot_compare : Option Kind → Option Kind → Bool
cannot_compare a b = misses can_compare a || misses can_compare b || differ comparable a b

-- the sign moves pointers
abbrev pub moves : Binary → Bool
moves sign.Add = true
moves sign.Subtract = true
moves other = false

-- what a return gives is not what is due
abbrev pub returns_amiss : Kind → Option (Option Kind) → Bool
returns_amiss Void None = false
returns_amiss due None = true
returns_amiss Void (Some given) = true
returns_amiss due (Some given) = misses (agree due) given

abbrev pub is_constant_amiss : Initial → Bool
is_constant_amiss (initial.Constant fits) = not fits
is_constant_amiss given = false

abbrev pub is_given : Initial → Bool
is_given initial.Nothing = false
is_given given = true

-- the value of another variable's initializer does not agree with it
abbrev pub is_value_amiss : Kind → Initial → Bool
is_value_amiss kind (initial.Value given) = misses (agree kind) given
is_value_amiss kind initial.List = true
is_value_amiss kind given = false

-- an array or a status, which has no initializer, unless it is static
abbrev pub is_whole : Declared → Bool
is_whole declared = declared.is_array || is_status declared.kind

-- a type of which there are no parameters
abbrev pub is_no_parameter : Parameter → Bool
is_no_parameter parameter = same_kind parameter.kind (Plain Request) || is_status parameter.kind || (parameter.is_array && same_kind parameter.kind (Pointer Comm))

-- a type that no function answers
abbrev pub is_no_answer : Kind → Bool
is_no_answer (Plain Comm) = true
is_no_answer (Plain Request) = true
is_no_answer (Plain Status) = true
is_no_answer kind = false

abbrev pub is_arguments_kind : Kind → Bool
is_arguments_kind Arguments = true
is_arguments_kind kind = false

-- sizeof has no size for it
abbrev pub has_no_size : Base → Bool
has_no_size Int = false
has_no_size Long = false
has_no_size base = true

-- a cast to it is of no number
abbrev pub casts_amiss : Base → Option Kind → Bool
casts_amiss base kind = has_no_size base || misses is_number kind

abbrev pub is_none : {A : Type 0} → Option A → Bool
is_none a = not (is_some a)

-- the nodes that break a rule, rule by rule
abbrev pub breaks : Rule → Shape → Bool
-- there is no definition of main with the answer int and the parameters none, or an int and a char parameter
breaks Rule1 (Item (Unit has_main)) = not has_main
-- a name is declared twice in one scope
breaks Rule2 (Item (Variable declared)) = declared.is_twice
breaks Rule2 (Item (A_parameter parameter)) = parameter.is_twice
breaks Rule2 (Item (Function is_twice is_known returns)) = is_twice
-- a name is used that is not declared, or as another thing than it is
breaks Rule3 (Operand (Used declared)) = has_no_value declared
breaks Rule3 (Call Nothing) = true
-- a known name is declared
breaks Rule4 (Item (Variable declared)) = declared.is_known
breaks Rule4 (Item (A_parameter parameter)) = parameter.is_known
breaks Rule4 (Item (Function is_twice is_known returns)) = is_known
-- an array length is no constant in its limits, or there are too many static variables or words
breaks Rule5 (Item (Variable declared)) = not declared.fits
-- a static initializer is no constant, has a fault, has another type, or is a list that does not fit
breaks Rule6 (Item (Variable declared)) = is_constant_amiss declared.initial
-- a local array or MPI_Status has an initializer
breaks Rule7 (Item (Variable declared)) = not declared.is_static && is_whole declared && is_given declared.initial
-- an array of MPI_Comm, and types that parameters and answers do not have
breaks Rule8 (Item (Variable declared)) = declared.is_array && same_kind (Plain declared.base) (Plain Comm)
breaks Rule8 (Item (A_parameter parameter)) = is_no_parameter parameter
breaks Rule8 (Item (Function is_twice is_known returns)) = is_no_answer returns
-- an operand of an arithmetic sign, an index, a shift or a numeric cast is no number, or sizeof has another base
breaks Rule9 (Operator (Arithmetic a b)) = no_numbers a b
breaks Rule9 (Operator (Shifted a b)) = no_numbers a b
breaks Rule9 (Operator (Sum a b)) = is_no_number_sum a b
breaks Rule9 (Operator (Computed by side a b)) = cond (moves by) (is_no_number_sum a b) (no_numbers a b)
breaks Rule9 (Operand (Signed a)) = misses is_number a
breaks Rule9 (Operand (Element a b)) = misses is_number b
breaks Rule9 (Operand (Converted base a)) = casts_amiss base a
breaks Rule9 (Operand (Sized base)) = has_no_size base
-- + or - with a pointer is not of a pointer on the left and a number on the right
breaks Rule10 (Operator (Sum a b)) = is_no_pointer_sum a b
breaks Rule10 (Operator (Computed by side a b)) = moves by && is_no_pointer_sum a b
-- == or != compares other things than two numbers, two pointers of one type or NULL, two MPI_Comm, two MPI_Request
breaks Rule11 (Operator (Compared a b)) = cannot_compare a b
-- an order compares other things than two numbers
breaks Rule12 (Operator (Ordered a b)) = no_numbers a b
-- a condition or an operand of !, && or || is no number and no pointer
breaks Rule13 (Statement (Tested a)) = misses is_condition a
breaks Rule13 (Operand (Negated a)) = misses is_condition a
breaks Rule13 (Operator (Joined a b)) = misses is_condition a || misses is_condition b
breaks Rule13 (Operator (Chosen test a b)) = misses is_condition test
-- the two sides of ?: are not two numbers, of one type, or a pointer and NULL
breaks Rule14 (Operator (Chosen test a b)) = differ alike a b
-- the left of an assignment cannot be assigned, or the right side has another type
breaks Rule15 (Operator (Assigned side b)) = is_no_target side || misses (takes side) b
breaks Rule15 (Operator (Computed by side a b)) = is_no_target side
breaks Rule15 (Item (Variable declared)) = not declared.is_static && not (is_whole declared) && is_value_amiss declared.kind declared.initial
-- ++ or -- is not on a place of type int, long or pointer
breaks Rule16 (Operand (Stepped side)) = cannot_step side
-- & is not on a variable or element of type int, long, MPI_Comm, MPI_Request or MPI_Status
breaks Rule17 (Operand (Located side)) = cannot_locate side
-- * or [ is not on a pointer or an array
breaks Rule18 (Operand (Pointed a)) = misses is_pointer a
breaks Rule18 (Operand (Element a b)) = misses is_pointer a
-- a field is not MPI_SOURCE or MPI_TAG, or not of an MPI_Status
breaks Rule19 (Operand (Field is_field a)) = not is_field || misses is_status a
-- a call's arguments differ in number or in type
breaks Rule20 (Call (Own is_defined agrees returns)) = not agrees
-- a called function is nowhere defined
breaks Rule21 (Call (Own is_defined agrees returns)) = not is_defined
-- a return has no value where one is due, or one where none is due, or another type
breaks Rule22 (Statement (Returned due given)) = returns_amiss due given
-- break or continue stands in no loop
breaks Rule23 (Statement (Jumped in_loop)) = not in_loop
-- printf's arguments are not a format and its numbers
breaks Rule24 (Call (Printf agrees)) = not agrees
-- malloc or a pointer cast stands where no pointer is assigned, or malloc's or free's argument is none
breaks Rule25 (Call (Malloc element has_number)) = is_none element || not has_number
breaks Rule25 (Call (Free has_pointer)) = not has_pointer
breaks Rule25 (Operand (Cast base may_stand)) = not may_stand
-- an MPI function's arguments are not those of its row, or a text stands elsewhere than in printf
breaks Rule26 (Call (Init has_two may_stand)) = not has_two
breaks Rule26 (Call (Mpi meets agrees)) = not meets
breaks Rule26 (Operand Text) = true
-- a buffer and its datatype do not agree, or two datatypes of one collective differ
breaks Rule27 (Call (Mpi meets agrees)) = not agrees
-- MPI_Init's arguments are not NULL, NULL or main's own &argc, &argv
breaks Rule28 (Call (Init has_two may_stand)) = not may_stand
-- argv stands elsewhere, argc is assigned or has its address taken elsewhere, or a char parameter stands elsewhere
breaks Rule29 (Operand (Used declared)) = is_arguments declared
breaks Rule29 (Operand (Stepped side)) = is_count side
breaks Rule29 (Operand (Located side)) = is_count side
breaks Rule29 (Operator (Assigned side b)) = is_count side
breaks Rule29 (Operator (Computed by side a b)) = is_count side
breaks Rule29 (Item (A_parameter parameter)) = is_arguments_kind parameter.kind && not parameter.is_main
-- a scope directive does not stand before all functions, or names other than variables that may have a level yet
breaks Rule30 (Item (Scope may_stand)) = not may_stand
-- the names of a single or a barrier are not variables with a level, or a single's are of two levels
breaks Rule31 (Statement (Single are_shared may_stand before)) = not are_shared
breaks Rule31 (Statement (Barrier are_shared before)) = not are_shared
-- control may leave a single's block in another way than at its end, or another such statement stands in it
breaks Rule32 (Statement (Single are_shared may_stand before)) = not may_stand
-- as many such statements as are allowed stand before
breaks Rule33 (Statement (Single are_shared may_stand before)) = nat_le MAX_CONSTRUCTS before
breaks Rule33 (Statement (Barrier are_shared before)) = nat_le MAX_CONSTRUCTS before
breaks other shape = false

-- the rules in order
abbrev pub all_rules : List Rule
all_rules = Rule1 ∷ Rule2 ∷ Rule3 ∷ Rule4 ∷ Rule5 ∷ Rule6 ∷ Rule7 ∷ Rule8 ∷ Rule9 ∷ Rule10 ∷ Rule11 ∷ Rule12 ∷ Rule13 ∷ Rule14 ∷ Rule15 ∷ Rule16 ∷ Rule17 ∷ Rule18 ∷ Rule19 ∷ Rule20 ∷ Rule21 ∷ Rule22 ∷ Rule23 ∷ Rule24 ∷ Rule25 ∷ Rule26 ∷ Rule27 ∷ Rule28 ∷ Rule29 ∷ Rule30 ∷ Rule31 ∷ Rule32 ∷ Rule33 ∷ []

-- the number of the first of these rules that is broken
abbrev pub first_of_rules : List Rule → Shape → Option ℕ
first_of_rules [] shape = None
first_of_rules (rule ∷ rules) shape = cond (breaks rule shape) (Some (number rule)) (first_of_rules rules shape)

-- the least rule that a node breaks
unfoldable pub rule : Shape → Option ℕ
rule shape = first_of_rules all_rules shape

-- the type of what may be assigned, and the element of what has an address
abbrev pub left_kind : Left → Option Kind
left_kind (left.Typed kind) = Some kind
left_kind left.Count = Some int
left_kind side = None

abbrev pub address_kind : Left → Option Kind
address_kind (left.Typed (Plain base)) = Some (Pointer base)
address_kind side = None

abbrev pub pointer_to : Option Base → Option Kind
pointer_to None = None
pointer_to (Some base) = Some (Pointer base)

abbrev pub number_kind : Bool → Kind
number_kind false = int
number_kind true = long

-- the type that a node has where it breaks no rule, as far as it is known
abbrev pub sound_kind : Shape → Option Kind
sound_kind (Operand (Number is_long)) = Some (number_kind is_long)
sound_kind (Operand Text) = None
sound_kind (Operand (Used declared)) = value_kind declared
sound_kind (Operand (Element a b)) = element_of a
sound_kind (Operand (Field is_field a)) = Some int
sound_kind (Operand (Stepped side)) = left_kind side
sound_kind (Operand (Signed a)) = a
sound_kind (Operand (Negated a)) = Some int
sound_kind (Operand (Pointed a)) = element_of a
sound_kind (Operand (Located side)) = address_kind side
sound_kind (Operand (Converted base a)) = Some (Plain base)
sound_kind (Operand (Cast base may_stand)) = Some (Pointer base)
sound_kind (Operand (Sized base)) = Some long
sound_kind (Operator (Arithmetic a b)) = wider a b
sound_kind (Operator (Shifted a b)) = a
sound_kind (Operator (Sum a b)) = sum_kind a b
sound_kind (Operator (Ordered a b)) = Some int
sound_kind (Operator (Compared a b)) = Some int
sound_kind (Operator (Joined a b)) = Some int
sound_kind (Operator (Chosen test a b)) = choice_kind a b
sound_kind (Operator (Assigned side b)) = left_kind side
sound_kind (Operator (Computed by side a b)) = left_kind side
sound_kind (Call Nothing) = None
sound_kind (Call (Own is_defined agrees returns)) = Some returns
sound_kind (Call (Printf agrees)) = Some int
sound_kind (Call (Malloc element has_number)) = pointer_to element
sound_kind (Call (Free has_pointer)) = Some Void
sound_kind (Call (Init has_two may_stand)) = Some int
sound_kind (Call (Mpi meets agrees)) = Some int
sound_kind (Item shape) = None
sound_kind (Statement shape) = None

-- a node's own type: one that breaks a rule has none
unfoldable pub kind : Shape → Option Kind
kind shape = cond (is_some (rule shape)) None (sound_kind shape)
