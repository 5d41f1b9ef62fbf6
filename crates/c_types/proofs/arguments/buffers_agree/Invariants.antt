use Rattle.std.proofs.Common.{◌≡◌, drop}
use Rattle.c_types.specs.Arguments.{buffers_agree}
use Rattle.c_types.proofs.arguments.buffers_agree.Given as goal

abbrev pub invariant-loop-i : goal.invariant-loop-i
invariant-loop-i l = buffers_agree (drop l.i l.rows) (drop l.i l.given) ≡ buffers_agree l.rows l.given
