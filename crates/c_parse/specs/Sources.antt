-- How a source is read (C99, section 6.9).
use Rattle.std.specs.Prelude.{ℕ, Bool, true, false, if◌then◌else◌, List, [], ◌∷◌, ◌++◌, Option, Some, None}
use Rattle.c_tree.specs.declared.syntax.Place.{Place}
use Rattle.c_tree.specs.declared.syntax.Base.{Base}
use Rattle.c_tree.specs.declared.syntax.Returns.{Returns}
use Rattle.c_tree.specs.declared.syntax.Returns.TheVariants.{Void, Value}
use Rattle.c_tree.specs.Syntax as x
use Rattle.c_parse.specs.declared.symbols.Class.{Class}
use Rattle.c_parse.specs.declared.symbols.Class.TheVariants as class
use Rattle.c_parse.specs.declared.symbols.Key.TheVariants as key
use Rattle.c_parse.specs.declared.symbols.Mark.TheVariants as mark
use Rattle.c_parse.specs.Symbols.{Sym, last_line}
use Rattle.c_parse.specs.SourceGrammar.{most_deep}
use Rattle.c_parse.specs.Reading.{Reader, ◌>>=◌, ◌>>◌, pure, next, here, names, sees, eat, eat_key, expect, name, repeat}
use Rattle.c_parse.specs.Expressions.{type_base, star}
use Rattle.c_parse.specs.Declarations.{declared, declaration_from, params}
use Rattle.c_parse.specs.Statements.{body, inside}

-- behind the parameters
unfoldable pub definition : Reader (Option x.Body)
definition = do
  none ← eat mark.Semicolon
  if none then pure None else (do found ← body (inside most_deep); pure (Some found))

-- behind the name
unfoldable pub function : Place → Bool → Returns → List ℕ → Reader x.Item
function at is_static returns called = do
  expect mark.Open
  listed ← params
  found ← definition
  pure (x.Defined (record { at = at; is_static = is_static; returns = returns; name = called; params = listed; body = found }))

-- behind the name
unfoldable pub variables : Place → Bool → Base → Place → Bool → List ℕ → Reader x.Item
variables at is_static base from pointer called = do
  first ← declared most_deep from pointer called
  found ← declaration_from most_deep at is_static base first
  pure (x.Variables found)

unfoldable pub typed : Place → Bool → Reader x.Item
typed at is_static = do
  base ← type_base
  from ← here
  pointer ← star base
  called ← name
  (λ ts. (if sees mark.Open ts then function at is_static (Value (record { base = base; pointer = pointer })) called else variables at is_static base from pointer called) ts)

unfoldable pub external : Place → Reader x.Item
external at = do
  is_static ← eat_key key.Static
  none ← eat_key key.Void
  if none then (do called ← name; function at is_static Void called) else typed at is_static

abbrev pub item_by : Place → Class → Reader x.Item
item_by at (class.Scope level) = do
  listed ← names
  pure (x.Scope at level listed)
item_by at c = external at

unfoldable pub item : Reader x.Item
item = do
  at ← here
  c ← next
  item_by at c

abbrev pub is_over : List Sym → Bool
is_over [] = true
is_over (s ∷ ts) = false

abbrev pub one_more_item : List x.Item → Reader (List x.Item)
one_more_item found = do
  i ← item
  pure (found ++ i ∷ [])

abbrev pub items : Reader (List x.Item)
items = repeat is_over one_more_item []

unfoldable pub source : Reader x.Tree
source = λ ts. (do
  found ← items
  pure (record { items = found; last_line = last_line ts })) ts
