use Rattle.std.proofs.Common.{◌≡◌, ◌++◌, map, drop, reverse}
use Rattle.c_tree.specs.ProgramOf.{function_of}
use Rattle.c_compile.specs.Compiled.{entries_from}
use Rattle.c_compile.specs.Standing.{lengths_of}
use Rattle.c_compile.proofs.compiling.entries.Given as goal

abbrev pub invariant-loop-f : goal.invariant-loop-f
invariant-loop-f l =
    (l.lengths.items ≡ reverse (lengths_of (drop l.f-index l.functions)))
    × (l.list.items ++ entries_from l.start (map function_of (drop l.f-index l.functions)) ≡ entries_from 0 (map function_of l.functions))
