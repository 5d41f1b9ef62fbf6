use Rattle.std.proofs.Common.{◌≡◌, ℕ, List, take, map}
use Rattle.c_parse.specs.Symbols.{sym_of, last_line}
use Rattle.c_parse.proofs.cursor.last_line_of.Given as goal

abbrev pub invariant-loop-symbol : goal.invariant-loop-symbol
invariant-loop-symbol l = (src : List ℕ) → l.line ≡ last_line (map (sym_of src) (take l.symbol-index l.symbols))
