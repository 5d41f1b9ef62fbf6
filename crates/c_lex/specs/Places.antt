-- Places of a source.
use Rattle.std.specs.Prelude.{ℕ, ◌+◌, cond, List, [], ◌∷◌, nat_eq}
use Rattle.c_lex.specs.declared.places.Place.{Place}

-- the place behind a byte: a line feed ends the line
abbrev pub behind_byte : Place → ℕ → Place
behind_byte p c = record { at = p.at + 1; line = cond (nat_eq c 10) (p.line + 1) p.line; col = cond (nat_eq c 10) 1 (p.col + 1) }

-- the place behind some bytes
abbrev pub behind : Place → List ℕ → Place
behind p [] = p
behind p (c ∷ cs) = behind (behind_byte p c) cs

-- the first byte
abbrev pub start : Place
start = record { at = 0; line = 1; col = 1 }
