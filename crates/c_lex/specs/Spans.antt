-- Tokens whose spans stand in order, none over another, from a place on and within a size.
use Rattle.std.specs.Prelude.{ℕ, ◌+◌, ◌≤◌, List, [], ◌∷◌}
use Rattle.c_lex.specs.declared.tokens.Token.{Token}

abbrev pub InOrder : ℕ → ℕ → List Token → Type 0
InOrder at size [] = Unit {0}
InOrder at size (t ∷ ts) = (at ≤ t.start) × (t.start + t.len ≤ size) × InOrder (t.start + t.len) size ts
