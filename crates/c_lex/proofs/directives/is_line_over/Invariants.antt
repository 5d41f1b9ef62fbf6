use Rattle.std.proofs.Common.{length, ◌-◌, ◌≡◌, ◌≤◌, drop}
use Rattle.c_lex.specs.declared.directives.Along.TheVariants.{Between}
use Rattle.c_lex.specs.Front.{is_line_over}
use Rattle.c_lex.proofs.directives.is_line_over.Given as goal

abbrev pub invariant-loop-at : goal.invariant-loop-at
invariant-loop-at l = (l.at ≤ length l.src) × (is_line_over Between (drop l.from l.src) ≡ is_line_over l.along (drop l.at l.src))

abbrev pub decreases-loop-at : goal.decreases-loop-at
decreases-loop-at l = length l.src - l.at
