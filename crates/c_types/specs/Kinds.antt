-- Types of values: which are numbers and pointers, and which agree.
use Rattle.std.specs.Prelude.{ℕ, Bool, true, false, not, ◌&&◌, ◌||◌, List, [], ◌∷◌, Option, None, Some}
use Rattle.c_tree.specs.declared.program.Width.{Width}
use Rattle.c_tree.specs.declared.program.Width.TheVariants as width
use Rattle.c_tree.specs.declared.syntax.Base.{Base}
use Rattle.c_tree.specs.declared.syntax.Base.TheVariants.{Int, Long, Comm, Request, Status}
use Rattle.c_types.specs.declared.kinds.Kind.{Kind}
use Rattle.c_types.specs.declared.kinds.Kind.TheVariants.{Void, Plain, Pointer, Null, Arguments}

abbrev pub int : Kind
int = Plain Int

abbrev pub long : Kind
long = Plain Long

-- int or long
abbrev pub is_number : Kind → Bool
is_number (Plain Int) = true
is_number (Plain Long) = true
is_number kind = false

-- a pointer that has elements
abbrev pub is_pointer : Kind → Bool
is_pointer (Pointer element) = true
is_pointer kind = false

abbrev pub is_null : Kind → Bool
is_null Null = true
is_null kind = false

-- a pointer or NULL
abbrev pub points : Kind → Bool
points kind = is_pointer kind || is_null kind

-- what may be a condition
abbrev pub is_condition : Kind → Bool
is_condition kind = is_number kind || points kind

abbrev pub same_base : Base → Base → Bool
same_base Int Int = true
same_base Long Long = true
same_base Comm Comm = true
same_base Request Request = true
same_base Status Status = true
same_base a b = false

abbrev pub same_kind : Kind → Kind → Bool
same_kind Void Void = true
same_kind (Plain a) (Plain b) = same_base a b
same_kind (Pointer a) (Pointer b) = same_base a b
same_kind Null Null = true
same_kind Arguments Arguments = true
same_kind a b = false

abbrev pub is_status : Kind → Bool
is_status kind = same_kind kind (Plain Status)

-- a base of its own, and no pointer
abbrev pub is_plain : Kind → Bool
is_plain (Plain base) = true
is_plain kind = false

-- a type that variables which can be assigned have
abbrev pub is_stored : Kind → Bool
is_stored Void = false
is_stored Arguments = false
is_stored kind = not (is_status kind)

-- the second may be given where the first is due: two number types agree, NULL agrees with pointers, and nothing
-- else does but a type with itself
abbrev pub agree : Kind → Kind → Bool
agree Void given = false
agree Arguments given = false
agree due given = same_kind due given || (is_number due && is_number given) || (is_pointer due && is_null given)

-- the two sides of ?: may stand together
abbrev pub alike : Kind → Kind → Bool
alike a b = same_kind a b || (is_number a && is_number b) || (points a && is_null b) || (is_null a && points b)

-- what == may compare with something
abbrev pub can_compare : Kind → Bool
can_compare kind = is_stored kind

-- what == may compare
abbrev pub comparable : Kind → Kind → Bool
comparable a b = can_compare a && alike a b

-- the operand has a type, and that type does not pass
abbrev pub misses : (Kind → Bool) → Option Kind → Bool
misses test None = false
misses test (Some kind) = not (test kind)

-- the operand has a type, and that type passes
abbrev pub has : (Kind → Bool) → Option Kind → Bool
has test None = false
has test (Some kind) = test kind

-- both operands have types, and these do not pass together
abbrev pub differ : (Kind → Kind → Bool) → Option Kind → Option Kind → Bool
differ test (Some a) (Some b) = not (test a b)
differ test a b = false

-- the type of an operation on two numbers: long where one is known to be long
abbrev pub wider : Option Kind → Option Kind → Option Kind
wider (Some (Plain Long)) b = Some long
wider a (Some (Plain Long)) = Some long
wider (Some a) (Some b) = Some a
wider a b = None

-- the type of a sum: a pointer's where it stands on the left
abbrev pub sum_kind : Option Kind → Option Kind → Option Kind
sum_kind None b = None
sum_kind (Some (Pointer element)) b = Some (Pointer element)
sum_kind (Some a) b = wider (Some a) b

-- the type of ?: where only one side's is known
abbrev pub side_alone : Kind → Option Kind
side_alone Null = None
side_alone (Plain Int) = None
side_alone kind = Some kind

-- the type of ?:, a number's the wider one, and that of a pointer and NULL the pointer's
abbrev pub choice_kind : Option Kind → Option Kind → Option Kind
choice_kind None None = None
choice_kind None (Some b) = side_alone b
choice_kind (Some a) None = side_alone a
choice_kind (Some Null) (Some b) = Some b
choice_kind (Some (Plain Int)) (Some b) = Some b
choice_kind (Some a) (Some b) = Some a

-- the type of what a pointer points to
abbrev pub element_of : Option Kind → Option Kind
element_of (Some (Pointer base)) = Some (Plain base)
element_of kind = None

-- each argument agrees with its parameter, and there are as many
abbrev pub all_agree : List Kind → List (Option Kind) → Bool
all_agree [] [] = true
all_agree (due ∷ dues) (given ∷ rest) = not (misses (agree due) given) && all_agree dues rest
all_agree dues given = false

-- how many words an element has
abbrev pub words_of : Base → ℕ
words_of Status = 3
words_of base = 1

-- the width of a number; of what is no number it is never asked
abbrev pub width_of : Option Kind → Width
width_of (Some (Plain Long)) = width.Long
width_of kind = width.Int
