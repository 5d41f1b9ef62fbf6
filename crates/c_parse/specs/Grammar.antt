-- The productions of types and expressions, one definition each, and the words that all productions are written with (C99, section 6.5).
use Rattle.std.specs.Prelude.{ℕ, ℤ, zero, suc, Bool, true, false, List, [], ◌∷◌, ◌++◌, Option, Some, None, if◌then◌else◌}
use Rattle.mpc_values.specs.declared.limits.TheConstants.{MAX_EXPRESSION_TOKENS}
use Rattle.c_tree.specs.declared.syntax.Place.{Place}
use Rattle.c_tree.specs.declared.syntax.Base.{Base}
use Rattle.c_tree.specs.declared.syntax.Base.TheVariants as base
use Rattle.c_tree.specs.declared.syntax.TypeName.{TypeName}
use Rattle.c_tree.specs.declared.syntax.Change.{Change}
use Rattle.c_tree.specs.Syntax as x
use Rattle.c_parse.specs.declared.symbols.Class.{Class}
use Rattle.c_parse.specs.declared.symbols.Class.TheVariants as class
use Rattle.c_parse.specs.declared.symbols.Key.{Key}
use Rattle.c_parse.specs.declared.symbols.Key.TheVariants as key
use Rattle.c_parse.specs.declared.symbols.Mark.{Mark}
use Rattle.c_parse.specs.declared.symbols.Mark.TheVariants as mark
use Rattle.c_parse.specs.declared.grammar.Part.{Part}
use Rattle.c_parse.specs.declared.grammar.Part.TheVariants as part
use Rattle.c_parse.specs.Symbols.{Sym}
use Rattle.c_parse.specs.Phrases.{Phrase, nothing, give, one, ◌>>=◌, ◌>>◌, ◌or◌, repeat, placed, at_most}
use Rattle.c_parse.specs.Signs.{is_mark, is_key, is_name, binary_of, prefix_of, prefixed, assigns, base_of, is_number, is_star}

-- ---- symbols

-- one symbol of a kind
abbrev pub one_if : {A : Type 0} → (Class → Bool) → (Sym → A) → Phrase A
one_if test value = one (λ s. if test s.class then Some (value s) else None)

-- one symbol, by what its class means
abbrev pub one_as : {A : Type 0} → (Class → Option A) → Phrase A
one_as meaning = one (λ s. meaning s.class)

-- a sign that is no operator
abbrev pub mark_ : Mark → Phrase (Unit {0})
mark_ m = one_if (is_mark m) (λ _. tt)

-- a key
abbrev pub key_ : Key → Phrase (Unit {0})
key_ k = one_if (is_key k) (λ _. tt)

-- a name, by its bytes
abbrev pub name_ : Phrase (List ℕ)
name_ = one_if is_name (λ s. s.bytes)

-- whether the phrase stands there
abbrev pub flag : Phrase (Unit {0}) → Phrase Bool
flag p = (p >> give true) or give false

-- a production that counts for the depth: none where nothing may be deeper
abbrev pub when : {A : Type 0} → Bool → Phrase A → Phrase A
when true p = p
when false p = nothing

-- a comma and one more, put behind those before
abbrev pub one_more : {A : Type 0} → Phrase A → List A → Phrase (List A)
one_more p found = mark_ mark.Comma >> (p >>= (λ a. give (found ++ a ∷ [])))

-- one or more, with commas between
abbrev pub separated : {A : Type 0} → Phrase A → Phrase (List A)
separated p = p >>= (λ first. repeat (one_more p) (first ∷ []))

-- ---- types

-- behind a long there may be an int
abbrev pub long_int : Base → Phrase Base
long_int base.Long = flag (key_ key.Int) >> give base.Long
long_int b = give b

-- base = "int" | "long" ["int"] | "MPI_Comm" | "MPI_Request" | "MPI_Status"
unfoldable pub type_base : Phrase Base
type_base = one_as base_of >>= long_int

-- the phrase or nothing, where it is allowed
abbrev pub flag_if : Bool → Phrase (Unit {0}) → Phrase Bool
flag_if true p = flag p
flag_if false p = give false

-- ["*"], where the base is int or long
abbrev pub star : Base → Phrase Bool
star b = flag_if (is_number b) (one_if is_star (λ _. tt))

-- base ["*"]
unfoldable pub type_name : Phrase TypeName
type_name = do
  b ← type_base
  pointer ← star b
  give (record { base = b; pointer = pointer })

-- ---- expressions

-- a number's value, and whether it is a long
abbrev pub number_as : Class → Option (ℤ × Bool)
number_as (class.Number value long) = Some (value, long)
number_as c = None

-- a text
abbrev pub is_text : Class → Bool
is_text class.Text = true
is_text c = false

-- ++ or --
abbrev pub change_as : Class → Option Change
change_as (class.Change change) = Some change
change_as c = None

-- the arguments of a call, by their list
abbrev pub arguments_of : List x.Expr → x.Exprs
arguments_of [] = x.End
arguments_of (first ∷ more) = x.More first (arguments_of more)

-- what may stand one deeper, if anything may
pub record Nest : Type 1 where
  pub deep : Bool
  pub below : Part → Phrase x.Expr

module _ (nest : Nest) where
  -- [ assign { "," assign } ] ")"
  unfoldable pub arguments : Phrase (List x.Expr)
  arguments = (mark_ mark.Close >> give []) or (do es ← separated (nest.below part.Assign); mark_ mark.Close; give es)

  -- NAME | NAME "(" [ assign { "," assign } ] ")" ^
  unfoldable pub named : Place → Phrase x.Expr
  named at = do
    called ← name_
    give (x.Name at called) or when nest.deep (do
      mark_ mark.Open
      es ← arguments
      give (x.Call at called (arguments_of es)))

  -- "(" expr ")" ^
  unfoldable pub grouped : Phrase x.Expr
  grouped = when nest.deep (do
    mark_ mark.Open
    e ← nest.below part.Assign
    mark_ mark.Close
    give e)

  -- primary = NAME | NUMBER | TEXT | NAME "(" .. ")" | "(" expr ")"
  unfoldable pub primary : Place → Phrase x.Expr
  primary at =
      named at
      or (do n ← one_as number_as; give (x.Number at n.0 n.1))
      or (do text ← one_if is_text (λ s. s.bytes); give (x.Text at text))
      or grouped

  -- "[" expr "]" ^ | "." NAME | "++" | "--"
  unfoldable pub postfix_step : Place → x.Expr → Phrase x.Expr
  postfix_step at operand =
      (do change ← one_as change_as; give (x.Postfix at change operand))
      or (do mark_ mark.Dot; field ← name_; give (x.Field at operand field))
      or when nest.deep (do
        mark_ mark.OpenSquare
        i ← nest.below part.Assign
        mark_ mark.CloseSquare
        give (x.Index at operand i))

  -- postfix = primary { .. }
  unfoldable pub postfix : Place → Phrase x.Expr
  postfix at = do
    first ← primary at
    repeat (postfix_step at) first

  -- a sign and its operand ^
  unfoldable pub signed : Place → Phrase x.Expr
  signed at = when nest.deep (do
    sign ← one_as prefix_of
    operand ← nest.below part.Unary
    give (prefixed at sign operand))

  -- "(" base ["*"] ")" unary ^
  unfoldable pub cast : Place → Phrase x.Expr
  cast at = when nest.deep (do
    mark_ mark.Open
    to ← type_name
    mark_ mark.Close
    operand ← nest.below part.Unary
    give (x.Cast at to operand))

  -- "sizeof" "(" base ")"
  unfoldable pub size_of : Place → Phrase x.Expr
  size_of at = do
    key_ key.SizeOf
    mark_ mark.Open
    of ← type_base
    mark_ mark.Close
    give (x.SizeOf at of)

  -- unary = a sign and unary ^ | "(" base ["*"] ")" unary ^ | "sizeof" "(" base ")" | postfix
  unfoldable pub unary : Phrase x.Expr
  unary = placed (λ at. signed at or cast at or size_of at or postfix at)

  -- a sign of a level and its right operand
  unfoldable pub operation : ℕ → Phrase x.Expr → Place → x.Expr → Phrase x.Expr
  operation level operand at left = do
    sign ← one_as (binary_of level)
    right ← operand
    give (x.Binary' at sign left right)

  -- the binary levels from the tightest, 0, each associating to the left; a tree has the place of its first symbol
  unfoldable pub binary : ℕ → Place → Phrase x.Expr
  binary zero at = nest.below part.Unary
  binary (suc level) at = do
    first ← binary level at
    repeat (operation level (placed (binary level)) at) first

  -- "?" expr ":" cond
  unfoldable pub choice : Place → x.Expr → Phrase x.Expr
  choice at test = do
    mark_ mark.Question
    yes' ← nest.below part.Assign
    mark_ mark.Colon
    no' ← nest.below part.Cond
    give (x.Choice at test yes' no')

  -- cond = lor [ "?" expr ":" cond ] ^
  unfoldable pub cond : Place → Phrase x.Expr
  cond at = do
    test ← binary 10 at
    choice at test or give test

  -- unary asgop assign ^
  unfoldable pub assignment : Place → Phrase x.Expr
  assignment at = do
    left ← nest.below part.Unary
    sign ← one_as assigns
    right ← nest.below part.Assign
    give (x.Assign at sign left right)

  -- assign = unary asgop assign ^ | cond
  unfoldable pub production : Part → Phrase x.Expr
  production part.Assign = placed (λ at. assignment at or cond at)
  production part.Cond = placed cond
  production part.Unary = unary

-- the inner parts of a production in which so many marked productions may still stand in one another: each is one deeper, and at 0 there is none
unfoldable pub nest : ℕ → Nest
nest zero = record { deep = false; below = λ _. nothing }
nest (suc d) = record { deep = true; below = production (nest d) }

-- an expression, a conditional or a unary one, of which so many marked productions may stand in one another
unfoldable pub expr : ℕ → Part → Phrase x.Expr
expr d = production (nest d)

-- an expression that no larger one covers, of at most 1,024 symbols
unfoldable pub expression : ℕ → Part → Phrase x.Expr
expression d p = at_most MAX_EXPRESSION_TOKENS (expr d p)
