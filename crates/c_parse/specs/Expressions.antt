-- How expressions are read (C99, section 6.5).
use Rattle.std.specs.Prelude.{ℕ, zero, suc, Bool, true, false, if◌then◌else◌, List, [], ◌∷◌, Option, Some, None, is_some, not, ◌&&◌, ◌||◌}
use Rattle.mpc_values.specs.declared.limits.TheConstants.{MAX_EXPRESSION_TOKENS}
use Rattle.c_tree.specs.declared.syntax.Place.{Place}
use Rattle.c_tree.specs.declared.syntax.Base.{Base}
use Rattle.c_tree.specs.declared.syntax.Base.TheVariants as base
use Rattle.c_tree.specs.declared.syntax.TypeName.{TypeName}
use Rattle.c_tree.specs.declared.syntax.Binary.{Binary}
use Rattle.c_tree.specs.Syntax as x
use Rattle.c_parse.specs.declared.symbols.Class.{Class}
use Rattle.c_parse.specs.declared.symbols.Class.TheVariants as class
use Rattle.c_parse.specs.declared.symbols.Key.TheVariants as key
use Rattle.c_parse.specs.declared.symbols.Mark.TheVariants as mark
use Rattle.c_parse.specs.declared.signs.Prefix.{Prefix}
use Rattle.c_parse.specs.declared.grammar.Part.{Part}
use Rattle.c_parse.specs.declared.grammar.Part.TheVariants as part
use Rattle.c_parse.specs.Signs.{binary_of, prefix_of, prefixed, assigns, base_of, begins_base, is_number, is_star, is_mark, is_key}
use Rattle.c_parse.specs.Symbols.{Sym}
use Rattle.c_parse.specs.Grammar.{arguments_of}
use Rattle.c_parse.specs.Reading.{Got, Reader, ◌>>=◌, ◌>>◌, pure, refuse, next, here, advance, bytes, class_at, sees, behind_if, eat, eat_key, expect, name, separated, repeat, within}

-- ---- types

-- a long may go on with int
abbrev pub base_from : Option Base → Reader Base
base_from None = refuse
base_from (Some base.Long) = advance >> eat_key key.Int >> pure base.Long
base_from (Some b) = advance >> pure b

unfoldable pub type_base : Reader Base
type_base = do
  c ← next
  base_from (base_of c)

unfoldable pub sees_star : Base → List Sym → Bool
sees_star b ts = is_number b && is_star (class_at ts)

-- takes a *, if it comes next and may stand behind this base
abbrev pub star : Base → Reader Bool
star b = λ ts. Got (sees_star b ts) (behind_if (sees_star b ts) ts)

unfoldable pub type_name : Reader TypeName
type_name = do
  b ← type_base
  pointer ← star b
  pure (record { base = b; pointer = pointer })

-- ---- expressions

-- how what is one deeper is read, and whether anything may be
pub record Nest : Type 0 where
  pub deep : Bool
  pub below : Part → Reader x.Expr

module _ (nest : Nest) where
  -- ---- primary and postfix expressions

  -- behind the opening bracket
  unfoldable pub arguments : Reader (List x.Expr)
  arguments = do
    none ← eat mark.Close
    if none then pure [] else (do found ← separated (nest.below part.Assign); expect mark.Close; pure found)

  -- whether a call's bracket comes next
  unfoldable pub calls : List Sym → Bool
  calls ts = nest.deep && sees mark.Open ts

  -- behind a name
  unfoldable pub named : Place → List ℕ → Reader x.Expr
  named at called = do
    is_call ← (λ ts. Got (calls ts) (behind_if (calls ts) ts))
    if is_call then (do found ← arguments; pure (x.Call at called (arguments_of found))) else pure (x.Name at called)

  abbrev pub primary_by : Place → Class → Reader x.Expr
  primary_by at class.Name = bytes >>= named at
  primary_by at (class.Number value long) = advance >> pure (x.Number at value long)
  primary_by at class.Text = bytes >>= (λ text. pure (x.Text at text))
  primary_by at c = refuse

  unfoldable pub primary : Place → Reader x.Expr
  primary at = next >>= primary_by at

  unfoldable pub index : Place → x.Expr → Reader x.Expr
  index at operand = do
    i ← nest.below part.Assign
    expect mark.CloseSquare
    pure (x.Index at operand i)

  unfoldable pub field : Place → x.Expr → Reader x.Expr
  field at operand = do
    of ← name
    pure (x.Field at operand of)

  -- whether an index, a field or a change comes next
  abbrev pub goes_on : Class → Bool
  goes_on (class.Change change) = true
  goes_on c = is_mark mark.Dot c || (nest.deep && is_mark mark.OpenSquare c)

  unfoldable pub stops : List Sym → Bool
  stops ts = not (goes_on (class_at ts))

  abbrev pub postfix_by : Place → x.Expr → Class → Reader x.Expr
  postfix_by at operand (class.Change change) = advance >> pure (x.Postfix at change operand)
  postfix_by at operand c = if is_mark mark.Dot c then advance >> field at operand else advance >> index at operand

  unfoldable pub postfix : Place → x.Expr → Reader x.Expr
  postfix at operand = next >>= postfix_by at operand

  unfoldable pub postfixes : Place → x.Expr → Reader x.Expr
  postfixes at operand = repeat stops (postfix at) operand

  -- ---- unary expressions

  -- behind the opening bracket
  unfoldable pub cast : Place → Reader x.Expr
  cast at = do
    to ← type_name
    expect mark.Close
    operand ← nest.below part.Unary
    pure (x.Cast at to operand)

  unfoldable pub grouped : Place → Reader x.Expr
  grouped at = do
    inner ← nest.below part.Assign
    expect mark.Close
    postfixes at inner

  unfoldable pub bracketed : Place → Reader x.Expr
  bracketed at = do
    c ← next
    if begins_base c then cast at else grouped at

  -- behind the key
  unfoldable pub size_of : Place → Reader x.Expr
  size_of at = do
    expect mark.Open
    of ← type_base
    expect mark.Close
    pure (x.SizeOf at of)

  unfoldable pub plain : Place → Reader x.Expr
  plain at = do
    first ← primary at
    postfixes at first

  unfoldable pub signed : Place → Prefix → Reader x.Expr
  signed at sign = do
    operand ← nest.below part.Unary
    pure (prefixed at sign operand)

  abbrev pub unary_by : Place → Option Prefix → Class → Reader x.Expr
  unary_by at (Some sign) c = if nest.deep then advance >> signed at sign else refuse
  unary_by at None c =
      if is_mark mark.Open c then (if nest.deep then advance >> bracketed at else refuse)
      else (if is_key key.SizeOf c then advance >> size_of at else plain at)

  unfoldable pub unary : Reader x.Expr
  unary = do
    at ← here
    c ← next
    unary_by at (prefix_of c) c

  -- ---- binary expressions

  -- no sign of this level comes next
  unfoldable pub ends : ℕ → List Sym → Bool
  ends level ts = not (is_some (binary_of level (class_at ts)))

  -- a sign's right operand, where the tighter levels behind its first operand are read so
  abbrev pub operation_by : (Place → x.Expr → Reader x.Expr) → Place → x.Expr → Option Binary → Reader x.Expr
  operation_by tighter at left None = refuse
  operation_by tighter at left (Some sign) = do
    advance
    from ← here
    first ← nest.below part.Unary
    right ← tighter from first
    pure (x.Binary' at sign left right)

  unfoldable pub operation : ℕ → (Place → x.Expr → Reader x.Expr) → Place → x.Expr → Reader x.Expr
  operation level tighter at left = do
    c ← next
    operation_by tighter at left (binary_of level c)

  -- the operations of so many levels, from the tightest, behind their first operand
  unfoldable pub climb : ℕ → Place → x.Expr → Reader x.Expr
  climb zero at first = pure first
  climb (suc level) at first = do
    left ← climb level at first
    repeat (ends level) (operation level (climb level) at) left

  -- ---- conditional and assignment expressions

  -- what may follow the first operand
  unfoldable pub choice : Place → x.Expr → Reader x.Expr
  choice at first = do
    test ← climb 10 at first
    asks ← eat mark.Question
    if asks then (do
      yes' ← nest.below part.Assign
      expect mark.Colon
      no' ← nest.below part.Cond
      pure (x.Choice at test yes' no')) else pure test

  unfoldable pub cond : Reader x.Expr
  cond = do
    at ← here
    first ← nest.below part.Unary
    choice at first

  abbrev pub assign_by : Place → x.Expr → Option (Option Binary) → Reader x.Expr
  assign_by at first None = choice at first
  assign_by at first (Some sign) = do
    advance
    right ← nest.below part.Assign
    pure (x.Assign at sign first right)

  unfoldable pub assign : Reader x.Expr
  assign = do
    at ← here
    first ← nest.below part.Unary
    c ← next
    assign_by at first (assigns c)

  unfoldable pub reading : Part → Reader x.Expr
  reading part.Assign = assign
  reading part.Cond = cond
  reading part.Unary = unary

-- the marked productions that may stand in one another
unfoldable pub nest : ℕ → Nest
nest zero = record { deep = false; below = λ _. refuse }
nest (suc d) = record { deep = true; below = reading (nest d) }

unfoldable pub expr : ℕ → Part → Reader x.Expr
expr d = reading (nest d)

-- an expression that no larger one covers
unfoldable pub expression : ℕ → Part → Reader x.Expr
expression d part = within MAX_EXPRESSION_TOKENS (expr d part)
