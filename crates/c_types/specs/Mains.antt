-- A typed program has a main.
use Rattle.std.specs.Prelude.{◌<◌, length}
use Rattle.c_tree.specs.Programs.{Program}
use Rattle.c_tree.specs.Syntax.{Tree}
use Rattle.c_types.specs.Typing.{Typed}

-- main is one of the functions of a typed program
abbrev pub TypedHasMain : Type 0
TypedHasMain = (tree : Tree) (program : Program) → Typed tree program → program.main < length program.functions
