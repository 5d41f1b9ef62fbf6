-- The productions of a source, one definition each (C99, section 6.9).
use Rattle.std.specs.Prelude.{ℕ, Bool, List, [], ◌∷◌, ◌++◌, Option, Some, None}
use Rattle.mpc_values.specs.declared.limits.TheConstants.{MAX_NESTING}
use Rattle.mpc_values.specs.declared.owners.Level.{Level}
use Rattle.c_tree.specs.declared.syntax.Place.{Place}
use Rattle.c_tree.specs.declared.syntax.Returns.{Returns}
use Rattle.c_tree.specs.declared.syntax.Returns.TheVariants.{Void, Value}
use Rattle.c_tree.specs.Syntax as x
use Rattle.c_parse.specs.declared.symbols.Class.{Class}
use Rattle.c_parse.specs.declared.symbols.Class.TheVariants as class
use Rattle.c_parse.specs.declared.symbols.Key.TheVariants as key
use Rattle.c_parse.specs.declared.symbols.Mark.TheVariants as mark
use Rattle.c_parse.specs.declared.grammar.Part.{Part}
use Rattle.c_parse.specs.Symbols.{Sym}
use Rattle.c_parse.specs.Phrases.{Phrase, give, one, ◌>>=◌, ◌>>◌, ◌or◌, repeat, placed}
use Rattle.c_parse.specs.Grammar.{mark_, key_, name_, flag, type_name}
use Rattle.c_parse.specs.DeclarationGrammar.{declaration_at, params}
use Rattle.c_parse.specs.StatementGrammar.{body, inside}

-- how many marked productions may stand in one another
abbrev pub most_deep : ℕ
most_deep = MAX_NESTING

-- the level and the names of a scope directive
abbrev pub scope_by : Class → List (List ℕ) → Option (Level × List (List ℕ))
scope_by (class.Scope level) names = Some (level, names)
scope_by c names = None

-- the same of a symbol
abbrev pub scope_as : Sym → Option (Level × List (List ℕ))
scope_as s = scope_by s.class s.names

-- by the rule of the expressions that no larger one covers, at a depth
module _ (expression : ℕ → Part → Phrase x.Expr) where
  -- ";" | block
  unfoldable pub definition : Phrase (Option x.Body)
  definition =
      (do mark_ mark.Semicolon; give None)
      or (do found ← body expression (inside expression most_deep); give (Some found))

  -- behind the name of a function: "(" params ")" ( ";" | block )
  unfoldable pub function_of : Place → Bool → Returns → List ℕ → Phrase x.Item
  function_of at is_static returns called = do
    mark_ mark.Open
    listed ← params
    found ← definition
    give (x.Defined (record { at = at; is_static = is_static; returns = returns; name = called; params = listed; body = found }))

  -- func = ["static"] ( "void" | base ["*"] ) NAME "(" params ")" ( ";" | block )
  unfoldable pub function : Place → Phrase x.Item
  function at = do
    is_static ← flag (key_ key.Static)
    returns ← (do key_ key.Void; give Void) or (do to ← type_name; give (Value to))
    called ← name_
    function_of at is_static returns called

  -- PRAGMA | decl | func
  unfoldable pub item : Phrase x.Item
  item = placed (λ at.
      (do scope ← one scope_as; give (x.Scope at scope.0 scope.1))
      or (do found ← declaration_at expression most_deep at; give (x.Variables found))
      or function at)

  -- one item more, put behind those before
  unfoldable pub one_more_item : List x.Item → Phrase (List x.Item)
  one_more_item found = do
    i ← item
    give (found ++ i ∷ [])

  -- unit = { PRAGMA | decl | func }
  unfoldable pub unit : Phrase (List x.Item)
  unit = repeat one_more_item []
