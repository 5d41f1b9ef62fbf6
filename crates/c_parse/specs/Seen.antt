-- What the code's symbol of one token stands for.
use Rattle.std.specs.Prelude.{◌≡◌, List, ℕ, Option, Some, None}
use Rattle.c_lex.specs.declared.tokens.Token.{Token}
use Rattle.c_lex.specs.declared.tokens.Kind.TheVariants as kind
use Rattle.hls_pragma.specs.declared.directives.Pragma.TheVariants.{Foreign}
use Rattle.hls_pragma.specs.Reads.{Reads}
use Rattle.c_parse.specs.declared.symbols.Class.{Class}
use Rattle.c_parse.specs.declared.symbols.Symbol.{Symbol}
use Rattle.c_parse.specs.Symbols.{Shows, sym_of, symbol_at, bytes_of}

-- the token gives this symbol, or none where it is a foreign pragma
abbrev pub Sees : List ℕ → Token → Option Symbol → Type 0
Sees src t None = (t.kind ≡ kind.Pragma) × Reads (bytes_of src t) Foreign
Sees src t (Some s) = Shows src t s.class s.names × (sym_of src s ≡ symbol_at src t s.class s.names)

-- the code's symbol of a token
abbrev pub made : Token → Class → List (List ℕ) → Symbol
made t c names = record { class = c; start = t.start; len = t.len; at = record { line = t.line; col = t.col }; names = names }
