-- How declarations are read (C99, section 6.7).
use Rattle.std.specs.Prelude.{ℕ, Bool, true, false, if◌then◌else◌, List, [], ◌∷◌, not, ◌&&◌, ◌||◌, Option, Some, None}
use Rattle.c_tree.specs.declared.syntax.Place.{Place}
use Rattle.c_tree.specs.declared.syntax.Base.{Base}
use Rattle.c_tree.specs.declared.syntax.Param.{Param}
use Rattle.c_tree.specs.declared.syntax.ParamType.TheVariants.{Arguments}
use Rattle.c_tree.specs.Syntax as x
use Rattle.c_parse.specs.declared.symbols.Class.{Class}
use Rattle.c_parse.specs.declared.symbols.Key.TheVariants as key
use Rattle.c_parse.specs.declared.symbols.Mark.TheVariants as mark
use Rattle.c_parse.specs.declared.grammar.Part.TheVariants as part
use Rattle.c_parse.specs.Signs.{begins_base, is_key, is_star, is_equals}
use Rattle.c_parse.specs.Symbols.{Sym}
use Rattle.c_parse.specs.Reading.{Got, Fails, Reader, ◌>>=◌, ◌>>◌, pure, here, class_at, behind, sees, behind_if, eat, eat_key, expect, name, no_comma, one_more, repeat, separated}
use Rattle.c_parse.specs.DeclarationGrammar.{param_type}
use Rattle.c_parse.specs.Expressions.{type_base, star, expression}

-- ---- declarators, with so many marked productions that may stand in one another

-- whether a length's bracket comes next: not behind a *
unfoldable pub begins_length : Bool → List Sym → Bool
begins_length pointer ts = not pointer && sees mark.OpenSquare ts

-- behind the opening bracket
unfoldable pub len_in : ℕ → Reader x.Expr
len_in d = do
  value ← expression d part.Cond
  expect mark.CloseSquare
  pure value

unfoldable pub len_of : ℕ → Bool → Reader (Option x.Expr)
len_of d pointer = do
  has ← (λ ts. Got (begins_length pointer ts) (behind_if (begins_length pointer ts) ts))
  if has then (do value ← len_in d; pure (Some value)) else pure None

-- behind the opening brace
unfoldable pub values : ℕ → Reader x.Initializer
values d = do
  found ← separated (expression d part.Assign)
  expect mark.CloseBrace
  pure (x.Values found)

-- behind the =
unfoldable pub value : ℕ → Reader x.Initializer
value d = do
  lists ← eat mark.OpenBrace
  if lists then values d else (do found ← expression d part.Assign; pure (x.Value found))

-- whether = comes next
unfoldable pub sees_equals : List Sym → Bool
sees_equals ts = is_equals (class_at ts)

unfoldable pub initializer : ℕ → Reader x.Initializer
initializer d = do
  has ← (λ ts. Got (sees_equals ts) (behind_if (sees_equals ts) ts))
  if has then value d else pure x.Nothing

-- behind the name
unfoldable pub declared : ℕ → Place → Bool → List ℕ → Reader x.Declarator
declared d at pointer called = do
  len ← len_of d pointer
  start ← initializer d
  pure (record { at = at; pointer = pointer; name = called; len = len; initializer = start })

unfoldable pub declarator : ℕ → Base → Reader x.Declarator
declarator d base = do
  at ← here
  pointer ← star base
  called ← name
  declared d at pointer called

-- ---- declarations

-- behind the first declarator
unfoldable pub declaration_from : ℕ → Place → Bool → Base → x.Declarator → Reader x.Declaration
declaration_from d at is_static base first = do
  found ← repeat no_comma (one_more (declarator d base)) (first ∷ [])
  expect mark.Semicolon
  pure (record { at = at; is_static = is_static; base = base; declarators = found })

unfoldable pub declaration : ℕ → Reader x.Declaration
declaration d = do
  at ← here
  is_static ← eat_key key.Static
  base ← type_base
  first ← declarator d base
  declaration_from d at is_static base first

abbrev pub begins_declaration : Class → Bool
begins_declaration c = is_key key.Static c || begins_base c

-- ---- parameters

unfoldable pub sees_any_star : List Sym → Bool
sees_any_star ts = is_star (class_at ts)

unfoldable pub expect_star : Reader (Unit {0})
expect_star = λ ts. if sees_any_star ts then Got tt (behind ts) else Fails ts

-- [ and ], if they come next
unfoldable pub eat_brackets : Bool → Reader Bool
eat_brackets pointer = do
  has ← (λ ts. Got (begins_length pointer ts) (behind_if (begins_length pointer ts) ts))
  if has then expect mark.CloseSquare >> pure true else pure false

unfoldable pub typed_param : Place → Reader Param
typed_param at = do
  base ← type_base
  pointer ← star base
  called ← name
  array ← eat_brackets pointer
  pure (record { at = at; param_type = param_type base pointer array; name = called })

-- behind the char
unfoldable pub arguments_param : Place → Reader Param
arguments_param at = do
  expect_star
  double ← (λ ts. Got (sees_any_star ts) (behind_if (sees_any_star ts) ts))
  called ← name
  if double then pure tt else expect mark.OpenSquare >> expect mark.CloseSquare
  pure (record { at = at; param_type = Arguments; name = called })

unfoldable pub param : Reader Param
param = do
  at ← here
  is_char ← eat_key key.Char
  if is_char then arguments_param at else typed_param at

unfoldable pub listed_params : Reader (List Param)
listed_params = do
  found ← separated param
  expect mark.Close
  pure found

unfoldable pub some_params : Reader (List Param)
some_params = do
  none ← eat_key key.Void
  if none then expect mark.Close >> pure [] else listed_params

-- behind the opening bracket
unfoldable pub params : Reader (List Param)
params = do
  none ← eat mark.Close
  if none then pure [] else some_params
