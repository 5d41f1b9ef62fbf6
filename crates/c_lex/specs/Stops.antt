-- Why a source gives no tokens, and the token that a piece of so many bytes adds.
use Rattle.std.specs.Prelude.{ℕ, ◌+◌, ◌-◌, List, [], ◌∷◌, ◌++◌, length, take, drop, ◌≤◌}
use Rattle.c_lex.specs.declared.tokens.Token.{Token}
use Rattle.c_lex.specs.declared.tokens.Kind.TheVariants as kind
use Rattle.c_lex.specs.declared.places.Place.{Place}
use Rattle.c_lex.specs.declared.pieces.Found.{Found}
use Rattle.c_lex.specs.declared.pieces.Found.TheVariants.{Define, Pragma, Taken}
use Rattle.c_lex.specs.declared.scan.Stop.{Stop}
use Rattle.c_lex.specs.declared.scan.Stop.TheVariants.{Memory, Refused}
use Rattle.c_lex.specs.Defined.{Meanings, with_name}
use Rattle.c_lex.specs.Lexed.{RefusedAt}

abbrev pub EndsAs : List ℕ → Stop → Type 0
EndsAs src Memory = Unit {0}
EndsAs src (Refused at) = RefusedAt src at

abbrev pub kept : List Token → Place → Found → ℕ → List Token
kept ts p (Taken k) n = ts ++ record { kind = k; start = p.at; len = n; line = p.line; col = p.col } ∷ []
kept ts p Pragma n = ts ++ record { kind = kind.Pragma; start = p.at + 7; len = n - 7; line = p.line; col = p.col + 7 } ∷ []
kept ts p f n = ts

-- what names stand for behind a piece that begins at a byte
abbrev pub known_from : List ℕ → ℕ → Meanings → Found → Meanings
known_from src at known (Define from len number) = with_name (take len (drop (at + from) src)) number known
known_from src at known f = known

-- the name that a piece defines stands in the source
abbrev pub IsWithin : List ℕ → ℕ → Found → Type 0
IsWithin src at (Define from len number) = at + from + len ≤ length src
IsWithin src at f = Unit {0}
