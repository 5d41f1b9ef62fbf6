use Rattle.std.proofs.Common.{◌++◌, List, drop, map}
use Rattle.c_parse.specs.Symbols.{Sym, Symbols, sym_of}
use Rattle.c_parse.proofs.tokens.symbols.Given as goal

abbrev pub invariant-loop-token : goal.invariant-loop-token
invariant-loop-token l = (ss : List Sym) → Symbols l.src (drop l.token-index l.tokens) ss → Symbols l.src l.tokens (map (sym_of l.src) l.symbols.items ++ ss)
