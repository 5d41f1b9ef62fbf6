use Rattle.std.proofs.Common.{◌≡◌, ◌≤◌, length, map, drop, reverse}
use Rattle.c_tree.specs.ProgramOf.{function_of}
use Rattle.c_compile.specs.Compiled.{functions_code}
use Rattle.c_compile.specs.Standing.{lengths_of}
use Rattle.c_compile.proofs.compiling.put_functions.Given as goal

abbrev pub invariant-loop-left : goal.invariant-loop-left
invariant-loop-left l = (l.left ≤ length l.functions) × (l.out ≡ functions_code (map function_of (drop l.left l.functions))) × (l.lengths.items ≡ reverse (lengths_of (drop l.left l.functions)))

abbrev pub decreases-loop-left : goal.decreases-loop-left
decreases-loop-left l = l.left
