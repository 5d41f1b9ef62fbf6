-- The line of the last symbol.
use Rattle.std.proofs.Common.{◌≡◌, ℕ, List, [], ◌∷◌, ◌++◌, map, refl, ap, ◌∙◌}
use Rattle.std.proofs.lemmas.List.{map-append}
use Rattle.c_parse.specs.declared.symbols.Symbol.{Symbol}
use Rattle.c_parse.specs.Symbols.{Sym, sym_of, last_line}

pub behind_all : (ss : List Sym) (s : Sym) → last_line (ss ++ s ∷ []) ≡ s.at.line
behind_all [] s = refl
behind_all (t ∷ []) s = refl
behind_all (t ∷ u ∷ ss) s = behind_all (u ∷ ss) s

pub one_later : (src : List ℕ) (ss : List Symbol) (s : Symbol) → last_line (map (sym_of src) (ss ++ s ∷ [])) ≡ s.at.line
one_later src ss s = ap last_line (map-append (sym_of src) ss (s ∷ [])) ∙ behind_all (map (sym_of src) ss) (sym_of src s)
