-- The productions of declarations and parameters, one definition each (C99, section 6.7).
use Rattle.std.specs.Prelude.{ℕ, Bool, true, false, List, [], Option, Some, None}
use Rattle.c_tree.specs.declared.syntax.Place.{Place}
use Rattle.c_tree.specs.declared.syntax.Base.{Base}
use Rattle.c_tree.specs.declared.syntax.Param.{Param}
use Rattle.c_tree.specs.declared.syntax.ParamType.{ParamType}
use Rattle.c_tree.specs.declared.syntax.ParamType.TheVariants.{Plain, Array, Arguments}
use Rattle.c_tree.specs.Syntax as x
use Rattle.c_parse.specs.declared.symbols.Key.TheVariants as key
use Rattle.c_parse.specs.declared.symbols.Mark.TheVariants as mark
use Rattle.c_parse.specs.declared.grammar.Part.{Part}
use Rattle.c_parse.specs.declared.grammar.Part.TheVariants as part
use Rattle.c_parse.specs.Signs.{is_star, is_equals}
use Rattle.c_parse.specs.Phrases.{Phrase, give, ◌>>=◌, ◌>>◌, ◌or◌, placed}
use Rattle.c_parse.specs.Grammar.{one_if, mark_, key_, name_, flag, separated, type_base, star}

-- ---- declarators

-- the symbol =
abbrev pub equals_ : Phrase (Unit {0})
equals_ = one_if is_equals (λ _. tt)

-- by the rule of the expressions that no larger one covers, at a depth
module _ (expression : ℕ → Part → Phrase x.Expr) where
  -- [ "[" cond "]" ], not behind a *
  unfoldable pub len_of : ℕ → Bool → Phrase (Option x.Expr)
  len_of d true = give None
  len_of d false = (do mark_ mark.OpenSquare; len ← expression d part.Cond; mark_ mark.CloseSquare; give (Some len)) or give None

  -- assign | "{" assign { "," assign } "}"
  unfoldable pub value : ℕ → Phrase x.Initializer
  value d =
      (do mark_ mark.OpenBrace; found ← separated (expression d part.Assign); mark_ mark.CloseBrace; give (x.Values found))
      or (do found ← expression d part.Assign; give (x.Value found))

  -- [ "=" ( .. ) ]
  unfoldable pub initializer : ℕ → Phrase x.Initializer
  initializer d = (do equals_; value d) or give x.Nothing

  -- behind ["*"] NAME
  unfoldable pub declared : ℕ → Place → Bool → List ℕ → Phrase x.Declarator
  declared d at pointer called = do
    len ← len_of d pointer
    start ← initializer d
    give (record { at = at; pointer = pointer; name = called; len = len; initializer = start })

  -- dtor = ["*"] NAME [ "[" cond "]" ] [ "=" ( .. ) ]
  unfoldable pub declarator : ℕ → Base → Phrase x.Declarator
  declarator d base = placed (λ at. do
    pointer ← star base
    called ← name_
    declared d at pointer called)

  -- decl = ["static"] base dtor { "," dtor } ";"
  unfoldable pub declaration_at : ℕ → Place → Phrase x.Declaration
  declaration_at d at = do
    is_static ← flag (key_ key.Static)
    base ← type_base
    found ← separated (declarator d base)
    mark_ mark.Semicolon
    give (record { at = at; is_static = is_static; base = base; declarators = found })

  -- a declaration, told where it begins
  unfoldable pub declaration : ℕ → Phrase x.Declaration
  declaration d = placed (declaration_at d)

-- ---- parameters

-- the symbol *
abbrev pub star_ : Phrase (Unit {0})
star_ = one_if is_star (λ _. tt)

-- [ "[" "]" ], not behind a *
unfoldable pub is_array : Bool → Phrase Bool
is_array true = give false
is_array false = (do mark_ mark.OpenSquare; mark_ mark.CloseSquare; give true) or give false

-- the type of a parameter, by its base, whether it has a * and whether it has brackets
abbrev pub param_type : Base → Bool → Bool → ParamType
param_type base pointer true = Array base
param_type base pointer false = Plain (record { base = base; pointer = pointer })

-- base ["*"] NAME [ "[" "]" ]
unfoldable pub typed_param : Place → Phrase Param
typed_param at = do
  base ← type_base
  pointer ← star base
  called ← name_
  array ← is_array pointer
  give (record { at = at; param_type = param_type base pointer array; name = called })

-- "char" "*" ( "*" NAME | NAME "[" "]" )
unfoldable pub arguments_param : Place → Phrase Param
arguments_param at = do
  key_ key.Char
  star_
  (do star_; called ← name_; give (record { at = at; param_type = Arguments; name = called }))
      or (do called ← name_; mark_ mark.OpenSquare; mark_ mark.CloseSquare; give (record { at = at; param_type = Arguments; name = called }))

-- param, told where it begins
unfoldable pub param : Phrase Param
param = placed (λ at. arguments_param at or typed_param at)

-- params ")" , params = [ "void" | param { "," param } ]
unfoldable pub params : Phrase (List Param)
params =
    (do mark_ mark.Close; give [])
    or (do key_ key.Void; mark_ mark.Close; give [])
    or (do found ← separated param; mark_ mark.Close; give found)
