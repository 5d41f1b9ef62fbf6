-- Constant expressions (C99, section 6.6): their types and values. What is not evaluated has to be constant too, but
-- may have a fault.
use Rattle.std.specs.Prelude.{ℕ, ℤ, pos, Bool, true, false, cond, not, ◌&&◌, List, [], ◌∷◌, ◌++◌, length, replicate, nat_le, Option, None, Some, option_map, option_and_then, ◌-◌, Result, Ok, Err}
use Rattle.mpc_values.specs.declared.limits.TheConstants.{MAX_ARRAY_LENGTH}
use Rattle.mpc_values.specs.declared.faults.Fault.{Fault}
use Rattle.mpc_values.specs.declared.values.Word.{Word}
use Rattle.mpc_values.specs.declared.values.Word.TheVariants as word
use Rattle.c_tree.specs.declared.program.Width.{Width}
use Rattle.c_tree.specs.declared.program.Operation.{Operation}
use Rattle.c_tree.specs.declared.program.Operation.TheVariants as operation
use Rattle.c_tree.specs.declared.program.Comparison.{Comparison}
use Rattle.c_tree.specs.declared.program.Comparison.TheVariants as comparison
use Rattle.c_tree.specs.declared.syntax.Base.{Base}
use Rattle.c_tree.specs.declared.syntax.Base.TheVariants as base
use Rattle.c_tree.specs.declared.syntax.TypeName.{TypeName}
use Rattle.c_tree.specs.declared.syntax.Unary.{Unary}
use Rattle.c_tree.specs.declared.syntax.Unary.TheVariants as unary
use Rattle.c_tree.specs.declared.syntax.Binary.{Binary}
use Rattle.c_tree.specs.declared.syntax.Binary.TheVariants as sign
use Rattle.c_tree.specs.Arithmetic.{operated, negated, complemented, compared}
use Rattle.c_tree.specs.Numbers.{wrapped}
use Rattle.c_tree.specs.Words.{holds, truth, same_word}
use Rattle.c_tree.specs.Syntax as x
use Rattle.c_types.specs.declared.kinds.Kind.{Kind}
use Rattle.c_types.specs.declared.kinds.Kind.TheVariants.{Plain, Pointer}
use Rattle.c_types.specs.declared.kinds.Known.{Known}
use Rattle.c_types.specs.declared.kinds.Known.TheVariants as a_known
use Rattle.c_types.specs.declared.kinds.Constant.{Constant}
use Rattle.c_types.specs.declared.meanings.Meaning.{Meaning}
use Rattle.c_types.specs.declared.meanings.Meaning.TheVariants.{Operates, Compares, Conjunction, Disjunction}
use Rattle.c_types.specs.declared.shapes.OperandShape.TheVariants as operand
use Rattle.c_types.specs.declared.shapes.OperatorShape.TheVariants as operator
use Rattle.c_types.specs.declared.shapes.Shape.{Shape}
use Rattle.c_types.specs.declared.shapes.Shape.TheVariants.{Operand, Operator}
use Rattle.c_types.specs.Kinds.{int, agree, wider, width_of, has, is_number}
use Rattle.c_types.specs.KnownNames.{known}
use Rattle.c_types.specs.Rules.{kind, number_kind}

-- what the rules read of a sign between two operands of these types
abbrev pub binary_shape : Binary → Option Kind → Option Kind → Shape
binary_shape sign.Multiply a b = Operator (operator.Arithmetic a b)
binary_shape sign.Divide a b = Operator (operator.Arithmetic a b)
binary_shape sign.Remainder a b = Operator (operator.Arithmetic a b)
binary_shape sign.Add a b = Operator (operator.Sum a b)
binary_shape sign.Subtract a b = Operator (operator.Sum a b)
binary_shape sign.ShiftLeft a b = Operator (operator.Shifted a b)
binary_shape sign.ShiftRight a b = Operator (operator.Shifted a b)
binary_shape sign.Less a b = Operator (operator.Ordered a b)
binary_shape sign.Greater a b = Operator (operator.Ordered a b)
binary_shape sign.LessEqual a b = Operator (operator.Ordered a b)
binary_shape sign.GreaterEqual a b = Operator (operator.Ordered a b)
binary_shape sign.Equal a b = Operator (operator.Compared a b)
binary_shape sign.NotEqual a b = Operator (operator.Compared a b)
binary_shape sign.BitAnd a b = Operator (operator.Arithmetic a b)
binary_shape sign.BitXor a b = Operator (operator.Arithmetic a b)
binary_shape sign.BitOr a b = Operator (operator.Arithmetic a b)
binary_shape sign.And a b = Operator (operator.Joined a b)
binary_shape sign.Or a b = Operator (operator.Joined a b)

-- what a sign between two operands does
abbrev pub meaning_of : Binary → Meaning
meaning_of sign.Multiply = Operates operation.Multiply
meaning_of sign.Divide = Operates operation.Divide
meaning_of sign.Remainder = Operates operation.Remainder
meaning_of sign.Add = Operates operation.Add
meaning_of sign.Subtract = Operates operation.Subtract
meaning_of sign.ShiftLeft = Operates operation.ShiftLeft
meaning_of sign.ShiftRight = Operates operation.ShiftRight
meaning_of sign.Less = Compares comparison.Less
meaning_of sign.Greater = Compares comparison.Greater
meaning_of sign.LessEqual = Compares comparison.LessEqual
meaning_of sign.GreaterEqual = Compares comparison.GreaterEqual
meaning_of sign.Equal = Compares comparison.Equal
meaning_of sign.NotEqual = Compares comparison.NotEqual
meaning_of sign.BitAnd = Operates operation.BitAnd
meaning_of sign.BitXor = Operates operation.BitXor
meaning_of sign.BitOr = Operates operation.BitOr
meaning_of sign.And = Conjunction
meaning_of sign.Or = Disjunction

-- an operation on two numbers of these types has the wider one's type, a shift the left one's
abbrev pub operation_width : Operation → Option Kind → Option Kind → Width
operation_width operation.ShiftLeft a b = width_of a
operation_width operation.ShiftRight a b = width_of a
operation_width other a b = width_of (wider a b)

-- a word read as a number: one of another kind is 0
abbrev pub number_in : Word → ℤ
number_in (word.Int z) = z
number_in other = pos 0

-- the number, where there is no fault
abbrev pub word_of : Result ℤ Fault → Option Word
word_of (Ok z) = Some (word.Int z)
word_of (Err fault) = None

-- two values, where neither has a fault
abbrev pub on_both : {A B C : Type 0} → (A → B → Option C) → Option A → Option B → Option C
on_both f (Some a) (Some b) = f a b
on_both f a b = None

-- a comparison of two numbers, or of two others, of which only their sameness is asked
abbrev pub compared_words : Comparison → Word → Word → Bool
compared_words comparison.Equal a b = same_word a b
compared_words comparison.NotEqual a b = not (same_word a b)
compared_words other a b = compared other (number_in a) (number_in b)

abbrev pub operated_words : Width → Operation → Word → Word → Option Word
operated_words width operation a b = word_of (operated width operation (number_in a) (number_in b))

-- 0 or 1 for a value
abbrev pub truth_of : Option Word → Option Word
truth_of value = option_map (λ w. truth (holds w)) value

-- the value of && and ||, whose right side counts only where the left one does not decide
abbrev pub conjoined : Option Word → Option Word → Option Word
conjoined None b = None
conjoined (Some a) b = cond (holds a) (truth_of b) (Some (truth false))

abbrev pub disjoined : Option Word → Option Word → Option Word
disjoined None b = None
disjoined (Some a) b = cond (holds a) (Some (truth true)) (truth_of b)

abbrev pub binary_value : Meaning → Constant → Constant → Option Word
binary_value (Operates operation) a b = on_both (operated_words (operation_width operation (Some a.kind) (Some b.kind)) operation) a.value b.value
binary_value (Compares comparison) a b = on_both (λ v w. Some (truth (compared_words comparison v w))) a.value b.value
binary_value Conjunction a b = conjoined a.value b.value
binary_value Disjunction a b = disjoined a.value b.value

-- a constant of a type, where the types of the operands allow one
abbrev pub constant_if : Option Kind → Option Word → Option Constant
constant_if None value = None
constant_if (Some k) value = Some (record { kind = k; value = value })

abbrev pub binary_constant : Binary → Option Constant → Option Constant → Option Constant
binary_constant by (Some a) (Some b) = constant_if (kind (binary_shape by (Some a.kind) (Some b.kind))) (binary_value (meaning_of by) a b)
binary_constant by a b = None

-- the value of a sign before a constant
abbrev pub unary_value : Unary → Kind → Word → Option Word
unary_value unary.Minus k a = word_of (negated (width_of (Some k)) (number_in a))
unary_value unary.Plus k a = Some a
unary_value unary.Not k a = Some (truth (not (holds a)))
unary_value unary.Complement k a = Some (word.Int (complemented (number_in a)))
unary_value unary.Indirection k a = None
unary_value unary.Address k a = None

-- the type of a sign before a constant; * and & make none
abbrev pub unary_kind : Unary → Kind → Option Kind
unary_kind unary.Minus k = kind (Operand (operand.Signed (Some k)))
unary_kind unary.Plus k = kind (Operand (operand.Signed (Some k)))
unary_kind unary.Not k = kind (Operand (operand.Negated (Some k)))
unary_kind unary.Complement k = kind (Operand (operand.Signed (Some k)))
unary_kind unary.Indirection k = None
unary_kind unary.Address k = None

abbrev pub unary_constant : Unary → Option Constant → Option Constant
unary_constant by None = None
unary_constant by (Some a) = constant_if (unary_kind by a.kind) (option_and_then (unary_value by a.kind) a.value)

-- a number as one of a base: as an int it wraps
abbrev pub cast_word : Base → Word → Word
cast_word base.Int a = word.Int (wrapped (width_of (Some int)) (number_in a))
cast_word other a = a

abbrev pub cast_constant : TypeName → Option Constant → Option Constant
cast_constant to None = None
cast_constant to (Some a) = cond to.pointer None (constant_if (kind (Operand (operand.Converted to.base (Some a.kind)))) (option_map (cast_word to.base) a.value))

-- the chosen value
abbrev pub chosen : Option Word → Option Word → Option Word → Option Word
chosen None a b = None
chosen (Some test) a b = cond (holds test) a b

abbrev pub choice_constant : Option Constant → Option Constant → Option Constant → Option Constant
choice_constant (Some test) (Some a) (Some b) = constant_if (kind (Operator (operator.Chosen (Some test.kind) (Some a.kind) (Some b.kind)))) (chosen test.value a.value b.value)
choice_constant test a b = None

abbrev pub known_constant : Option Known → Option Constant
known_constant (Some (a_known.Constant k w)) = Some (record { kind = k; value = Some w })
known_constant other = None

-- the size of an int or a long, in bytes
abbrev pub size_of : Base → ℕ
size_of base.Int = 4
size_of base.Long = 8
size_of other = 0

abbrev pub size_constant : Base → Option Constant
size_constant of = constant_if (kind (Operand (operand.Sized of))) (Some (word.Int (pos (size_of of))))

-- the constant that an expression is, if it is one
abbrev pub constant_of : x.Expr → Option Constant
constant_of (x.Name at name) = known_constant (known name)
constant_of (x.Number at value is_long) = Some (record { kind = number_kind is_long; value = Some (word.Int value) })
constant_of (x.Text at text) = None
constant_of (x.Call at name arguments) = None
constant_of (x.Index at array index) = None
constant_of (x.Field at value name) = None
constant_of (x.Postfix at change value) = None
constant_of (x.Prefix at change value) = None
constant_of (x.Unary' at by value) = unary_constant by (constant_of value)
constant_of (x.Cast at to value) = cast_constant to (constant_of value)
constant_of (x.SizeOf at of) = size_constant of
constant_of (x.Binary' at by left right) = binary_constant by (constant_of left) (constant_of right)
constant_of (x.Choice at test a b) = choice_constant (constant_of test) (constant_of a) (constant_of b)
constant_of (x.Assign at by left right) = None

-- a number from 1 to the greatest length of an array (C99, section 6.7.5.2)
abbrev pub length_in : Word → Option ℕ
length_in (word.Int (pos n)) = cond (nat_le 1 n && nat_le n MAX_ARRAY_LENGTH) (Some n) None
length_in other = None

abbrev pub length_of_constant : Option Constant → Option ℕ
length_of_constant None = None
length_of_constant (Some a) = cond (has is_number (Some a.kind)) (option_and_then length_in a.value) None

-- the length that an array is declared with, where it is a constant in the limits
abbrev pub array_length : x.Expr → Option ℕ
array_length len = length_of_constant (constant_of len)

-- a word as a variable of a type holds it: as an int it wraps
abbrev pub stored_word : Kind → Word → Word
stored_word (Plain base.Int) a = cast_word base.Int a
stored_word due a = a

-- the word that a variable of a type starts with, where the constant may stand there
abbrev pub start_word : Kind → Option Constant → Option Word
start_word due None = None
start_word due (Some a) = cond (agree due a.kind) (option_map (stored_word due) a.value) None

-- the word of a variable without an initializer
abbrev pub zero_word : Kind → Word
zero_word (Plain base.Comm) = word.Comm 0
zero_word (Plain base.Request) = word.Req 0
zero_word (Pointer element) = word.Null
zero_word other = word.Int (pos 0)

-- the words that a list of values starts with, where each may stand there
abbrev pub start_words : Kind → List x.Expr → Option (List Word)
start_words due [] = Some []
start_words due (value ∷ rest) = on_both (λ w ws. Some (w ∷ ws)) (start_word due (constant_of value)) (start_words due rest)

-- so many words: these, and zeros behind them, where there are not too many
abbrev pub filled : ℕ → Word → Option (List Word) → Option (List Word)
filled len zero None = None
filled len zero (Some ws) = cond (nat_le (length ws) len) (Some (ws ++ replicate (len - length ws) zero)) None

-- the words that a static variable starts with, where its initializer may stand there: its element's type, whether it
-- is an array, and how many words it has
abbrev pub initial_words : Kind → Bool → ℕ → x.Initializer → Option (List Word)
initial_words element is_array len x.Nothing = Some (replicate len (zero_word element))
initial_words element true len (x.Value value) = None
initial_words element false len (x.Value value) = filled len (zero_word element) (option_map (λ w. w ∷ []) (start_word element (constant_of value)))
initial_words element true len (x.Values values) = filled len (zero_word element) (start_words element values)
initial_words element false len (x.Values values) = None
