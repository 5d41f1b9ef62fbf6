-- What the rules read of an expression and of what stands in it, and its type.
use Rattle.std.specs.Prelude.{List, [], ◌∷◌, Option, None, Some, cond, is_some}
use Rattle.c_tree.specs.declared.syntax.Base.{Base}
use Rattle.c_tree.specs.declared.syntax.Binary.{Binary}
use Rattle.c_tree.specs.Syntax.{Expr, Exprs, Name, Number, Text, Call, Index, Field, Postfix, Prefix, Unary', Cast, SizeOf, Binary', Choice, Assign, End, More}
use Rattle.c_types.specs.declared.kinds.Kind.{Kind}
use Rattle.c_types.specs.declared.kinds.Given.{Given}
use Rattle.c_types.specs.declared.shapes.OperandShape.TheVariants as operand
use Rattle.c_types.specs.declared.shapes.OperatorShape.TheVariants as operator
use Rattle.c_types.specs.declared.shapes.Shape.{Shape}
use Rattle.c_types.specs.declared.shapes.Shape.TheVariants.{Operand, Operator}
use Rattle.c_types.specs.Calls.{meaning, side_of, wanted, cast_want, is_malloc, cast_shape, unary_shape, is_field, special, or_typed, assigned_shape, call_shape, Looked, Every, BehindFirst, Expressions, Neither, looked_at}
use Rattle.c_types.specs.Constants.{binary_shape}
use Rattle.c_types.specs.Env.{Env}
use Rattle.c_types.specs.Nodes.{Outline, Empty, At, Then}
use Rattle.c_types.specs.Rules.{kind}

-- the pointer that a malloc on the right of an assignment is for; a computing one is for none
abbrev pub right_want : Env → Option Binary → Expr → Option Kind → Option Base
right_want env None left a = wanted (side_of env.scopes left a)
right_want env (Some sign) left a = None

-- What the rules read of an expression. The option is the element of the pointer that a malloc just there would be for.
abbrev mutual
  pub shape_of : Env → Option Base → Expr → Shape
  shape_of env want (Name at name) = Operand (operand.Used (meaning name env.scopes))
  shape_of env want (Number at value is_long) = Operand (operand.Number is_long)
  shape_of env want (Text at text) = Operand operand.Text
  shape_of env want (Call at name arguments) = call_shape env want (meaning name env.scopes) arguments (kinds env arguments) (givens env arguments)
  shape_of env want (Index at array index) = Operand (operand.Element (kind (shape_of env None array)) (kind (shape_of env None index)))
  shape_of env want (Field at value name) = Operand (operand.Field (is_field name) (kind (shape_of env None value)))
  shape_of env want (Postfix at change value) = Operand (operand.Stepped (side_of env.scopes value (kind (shape_of env None value))))
  shape_of env want (Prefix at change value) = Operand (operand.Stepped (side_of env.scopes value (kind (shape_of env None value))))
  shape_of env want (Unary' at sign value) = unary_shape sign (side_of env.scopes value (kind (shape_of env None value))) (kind (shape_of env None value))
  shape_of env want (Cast at to value) = cast_shape want to (is_malloc env.scopes value) (kind (shape_of env (cast_want to) value))
  shape_of env want (SizeOf at base) = Operand (operand.Sized base)
  shape_of env want (Binary' at sign left right) = binary_shape sign (kind (shape_of env None left)) (kind (shape_of env None right))
  shape_of env want (Choice at test left right) = Operator (operator.Chosen (kind (shape_of env None test)) (kind (shape_of env None left)) (kind (shape_of env None right)))
  shape_of env want (Assign at sign left right) =
      assigned_shape sign (side_of env.scopes left (kind (shape_of env None left))) (kind (shape_of env None left)) (kind (shape_of env (right_want env sign left (kind (shape_of env None left))) right))

  -- the types of a call's arguments
  pub kinds : Env → Exprs → List (Option Kind)
  kinds env End = []
  kinds env (More first rest) = kind (shape_of env None first) ∷ kinds env rest

  -- what they are as arguments of an MPI function
  pub givens : Env → Exprs → List Given
  givens env End = []
  givens env (More first rest) = or_typed (special env.scopes first) (kind (shape_of env None first)) ∷ givens env rest

-- the type of an expression, if it has one
abbrev pub kind_of : Env → Option Base → Expr → Option Kind
kind_of env want e = kind (shape_of env want e)

-- the nodes of an expression
abbrev mutual
  pub outline : Env → Option Base → Expr → Outline
  outline env want (Name at name) = At at.line (shape_of env want (Name at name)) Empty
  outline env want (Number at value is_long) = At at.line (shape_of env want (Number at value is_long)) Empty
  outline env want (Text at text) = At at.line (shape_of env want (Text at text)) Empty
  outline env want (Call at name arguments) = At at.line (shape_of env want (Call at name arguments)) (argument_outline (looked_at (meaning name env.scopes)) env arguments)
  outline env want (Index at array index) = At at.line (shape_of env want (Index at array index)) (Then (outline env None array) (outline env None index))
  outline env want (Field at value name) = At at.line (shape_of env want (Field at value name)) (outline env None value)
  outline env want (Postfix at change value) = At at.line (shape_of env want (Postfix at change value)) (outline env None value)
  outline env want (Prefix at change value) = At at.line (shape_of env want (Prefix at change value)) (outline env None value)
  outline env want (Unary' at sign value) = At at.line (shape_of env want (Unary' at sign value)) (outline env None value)
  outline env want (Cast at to value) = At at.line (shape_of env want (Cast at to value)) (outline env (cast_want to) value)
  outline env want (SizeOf at base) = At at.line (shape_of env want (SizeOf at base)) Empty
  outline env want (Binary' at sign left right) = At at.line (shape_of env want (Binary' at sign left right)) (Then (outline env None left) (outline env None right))
  outline env want (Choice at test left right) = At at.line (shape_of env want (Choice at test left right)) (Then (outline env None test) (Then (outline env None left) (outline env None right)))
  outline env want (Assign at sign left right) =
      At at.line (shape_of env want (Assign at sign left right)) (Then (outline env None left) (outline env (right_want env sign left (kind (shape_of env None left))) right))

  -- the nodes of those of a call's arguments that are looked at
  pub argument_outline : Looked → Env → Exprs → Outline
  argument_outline Every env End = Empty
  argument_outline Every env (More first rest) = Then (outline env None first) (argument_outline Every env rest)
  argument_outline BehindFirst env End = Empty
  argument_outline BehindFirst env (More first rest) = argument_outline Every env rest
  argument_outline Expressions env End = Empty
  argument_outline Expressions env (More first rest) = Then (cond (is_some (special env.scopes first)) Empty (outline env None first)) (argument_outline Expressions env rest)
  argument_outline Neither env arguments = Empty
