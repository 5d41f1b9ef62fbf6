-- What is said of the tokens of every source: their tree, their refusal, and never both.
use Rattle.std.specs.Prelude.{◌≡◌, ℕ, List}
use Rattle.c_lex.specs.declared.tokens.Token.{Token}
use Rattle.c_tree.specs.Syntax.{Tree}
use Rattle.c_parse.specs.declared.refusals.ParseRefusal.{ParseRefusal}
use Rattle.c_parse.specs.Parsed.{Spelt, RefusedAt}

pub record ParsingLaws : Type 0 where
  pub same_tree : (src : List ℕ) (ts : List Token) (t u : Tree) → Spelt src ts t → Spelt src ts u → t ≡ u
  pub same_refusal : (src : List ℕ) (ts : List Token) (r q : ParseRefusal) → RefusedAt src ts r → RefusedAt src ts q → r ≡ q
  pub never_both : (src : List ℕ) (ts : List Token) (t : Tree) (r : ParseRefusal) → Spelt src ts t → RefusedAt src ts r → ⊥
