-- Which tree the tokens of a source spell, and where a source is refused.
use Rattle.std.specs.Prelude.{◌≡◌, ℕ, List, [], ◌∷◌, ◌++◌}
use Rattle.c_lex.specs.declared.tokens.Token.{Token}
use Rattle.c_lex.specs.Places.{behind, start}
use Rattle.c_tree.specs.Syntax as x
use Rattle.c_parse.specs.declared.symbols.Class.TheVariants as class
use Rattle.c_parse.specs.declared.refusals.ParseRefusal.{ParseRefusal}
use Rattle.c_parse.specs.declared.refusals.ParseRefusal.TheVariants.{Syntax, Pragma}
use Rattle.c_parse.specs.Symbols.{Sym, Symbols, last_line}
use Rattle.c_parse.specs.Grammar.{expr, expression}
use Rattle.c_parse.specs.SourceGrammar.{unit}

-- the tokens spell the tree
pub record Spelt (src : List ℕ) (ts : List Token) (tree : x.Tree) : Type 0 where
  pub symbols : List Sym
  pub seen : Symbols src ts symbols
  pub items : (unit expression).spells symbols tree.items
  pub last : tree.last_line ≡ last_line symbols

-- a source can begin so, as far as the grammar sees: a front of a source, where the bound on the symbols of an expression is left aside
unfoldable pub Viable : List Sym → Type 0
Viable ss = (unit expr).front ss

-- a front of a source in which each expression, whole or still open, keeps that bound
unfoldable pub KeepsBound : List Sym → Type 0
KeepsBound ss = (unit expression).front ss

-- viable, and in each way to read the list some expression has more symbols than it may have
abbrev pub IsTooLong : List Sym → Type 0
IsTooLong ss = Viable ss × (KeepsBound ss → ⊥)

-- viable, and not too long
abbrev pub GoesOn : List Sym → Type 0
GoesOn ss = Viable ss × (IsTooLong ss → ⊥)

-- no pragma among them is refused
abbrev pub NoneRefused : List Sym → Type 0
NoneRefused [] = Unit {0}
NoneRefused (s ∷ ss) = (s.class ≡ class.Refused → ⊥) × NoneRefused ss

-- this is the first symbol with which the list is not viable any more, or that is one too many in its expression
pub record EndsAt (symbols before : List Sym) (s : Sym) : Type 0 where
  pub behind : List Sym
  pub is : symbols ≡ before ++ s ∷ behind
  pub goes_on : (front more : List Sym) → before ≡ front ++ more → GoesOn front
  pub over : Viable (before ++ s ∷ []) → IsTooLong (before ++ s ∷ [])

-- where the tokens are refused: at the first one with which they are not viable any more, or that is one too many in its expression; just behind the last byte, where there is none and yet no tree is spelt; and by its line at the first refused pragma, where that is the first one with which they are not viable: no front holds it
pub data RefusedAt (src : List ℕ) (ts : List Token) : ParseRefusal → Type 0 where
  at_symbol : (symbols before : List Sym) (s : Sym) → Symbols src ts symbols → EndsAt symbols before s → NoneRefused (before ++ s ∷ []) → RefusedAt src ts (Syntax s.at.line s.at.col)
  at_end : (symbols : List Sym) → Symbols src ts symbols → ((front more : List Sym) → symbols ≡ front ++ more → GoesOn front) → ((items : List x.Item) → (unit expression).spells symbols items → ⊥) → RefusedAt src ts (Syntax (behind start src).line (behind start src).col)
  at_pragma : (symbols before : List Sym) (s : Sym) → Symbols src ts symbols → EndsAt symbols before s → NoneRefused before → s.class ≡ class.Refused → RefusedAt src ts (Pragma s.at.line)
