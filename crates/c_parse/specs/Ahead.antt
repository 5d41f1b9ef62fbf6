-- The symbols that a cursor has ahead.
use Rattle.std.specs.Prelude.{◌≤◌, List, length, drop, map}
use Rattle.c_parse.specs.declared.cursor.Cursor.TheInside.{Inside}
use Rattle.c_parse.specs.Symbols.{Sym, sym_of}

abbrev pub ahead : Inside → List Sym
ahead c = map (sym_of c.src.now) (drop c.at c.symbols.now)

abbrev pub IsWithin : Inside → Type 0
IsWithin c = c.at ≤ length c.symbols.now
