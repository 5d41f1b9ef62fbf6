use Rattle.std.proofs.Common.{◌≡◌, drop, length}
use Rattle.c_types.specs.Formats.{are_printed}
use Rattle.c_types.proofs.formats.are_printed.Given as goal

abbrev pub invariant-loop-i : goal.invariant-loop-i
invariant-loop-i l = (length l.widths ≡ length l.given) × (are_printed (drop l.i l.widths) (drop l.i l.given) ≡ are_printed l.widths l.given)
