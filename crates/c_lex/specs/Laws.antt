-- What is said of every source: its tokens, its refusal, and never both.
use Rattle.std.specs.Prelude.{◌≡◌, ℕ, List}
use Rattle.c_lex.specs.declared.tokens.Token.{Token}
use Rattle.c_lex.specs.declared.tokens.LexRefusal.{LexRefusal}
use Rattle.c_lex.specs.Lexed.{Lexed, RefusedAt}

pub record LexingLaws : Type 0 where
  pub same_tokens : (src : List ℕ) (ts us : List Token) → Lexed src ts → Lexed src us → us ≡ ts
  pub same_refusal : (src : List ℕ) (r q : LexRefusal) → RefusedAt src r → RefusedAt src q → r ≡ q
  pub never_both : (src : List ℕ) (ts : List Token) (r : LexRefusal) → Lexed src ts → RefusedAt src r → ⊥
