use Rattle.std.proofs.Common.{length, ◌-◌, ◌≡◌, ◌+◌, ◌≤◌, drop}
use Rattle.c_lex.specs.Classes.{passes}
use Rattle.c_lex.specs.Front.{run}
use Rattle.c_lex.proofs.bytes.run.Given as goal

abbrev pub invariant-loop-end : goal.invariant-loop-end
invariant-loop-end l = (l.from ≤ l.end) × (l.end ≤ length l.src) × (l.end + run (passes l.class) (drop l.end l.src) ≡ l.from + run (passes l.class) (drop l.from l.src))

abbrev pub decreases-loop-end : goal.decreases-loop-end
decreases-loop-end l = length l.src - l.end
