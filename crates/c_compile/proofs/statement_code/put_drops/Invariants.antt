use Rattle.std.proofs.Common.{◌≡◌, ◌++◌, reverse, take}
use Rattle.c_compile.specs.Compiled.{drops}
use Rattle.c_compile.proofs.statement_code.put_drops.Given as goal

abbrev pub invariant-loop-slot : goal.invariant-loop-slot
invariant-loop-slot l = l.out ≡ drops l.line (reverse (take l.slot-index l.slots)) ++ l.initial.out
