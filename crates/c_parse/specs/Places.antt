-- The refusal of a source whose symbols cannot go on at these.
use Rattle.std.specs.Prelude.{ℕ, Bool, true, false, if◌then◌else◌, List, [], ◌∷◌}
use Rattle.c_lex.specs.Places.{behind, start}
use Rattle.c_parse.specs.declared.symbols.Class.{Class}
use Rattle.c_parse.specs.declared.symbols.Class.TheVariants as class
use Rattle.c_parse.specs.declared.refusals.ParseRefusal.{ParseRefusal}
use Rattle.c_parse.specs.declared.refusals.ParseRefusal.TheVariants.{Syntax, Pragma}
use Rattle.c_parse.specs.Symbols.{Sym}

abbrev pub is_refused : Class → Bool
is_refused class.Refused = true
is_refused c = false

abbrev pub refusal_at : List ℕ → List Sym → ParseRefusal
refusal_at src [] = Syntax (behind start src).line (behind start src).col
refusal_at src (s ∷ ss) = if is_refused s.class then Pragma s.at.line else Syntax s.at.line s.at.col
