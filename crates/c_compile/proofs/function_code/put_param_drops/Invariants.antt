use Rattle.std.proofs.Common.{◌≡◌, ◌++◌, take}
use Rattle.c_compile.specs.Standing.{with_opened, in_memory, closing}
use Rattle.c_compile.proofs.function_code.put_param_drops.Given as goal

abbrev pub invariant-loop-is_in_memory : goal.invariant-loop-is_in_memory
invariant-loop-is_in_memory l =
    (l.slot ≡ l.is_in_memory-index)
    × (l.out ≡ closing l.end (in_memory 0 (take l.is_in_memory-index l.params)) ++ l.initial.out)
    × (l.around ≡ with_opened l.initial.around (in_memory 0 (take l.is_in_memory-index l.params)))
