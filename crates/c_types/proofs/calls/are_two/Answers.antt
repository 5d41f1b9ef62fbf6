use Rattle.std.proofs.Common.{arith}
use Rattle.c_types.proofs.Two.{exactly, fewer, more}
use Rattle.c_types.proofs.calls.are_two.Goals as goal

pub returns-in-len2 : goal.returns-in-len2
returns-in-len2 c = exactly _ (omega (arith, c.in-len2.len_at_least)) (omega (arith, c.in-len2.len_below))

pub returns-in_default : goal.returns-in_default
returns-in_default c = fewer _ (omega (arith, c.in_default.len_below))

pub returns-in_default-2 : goal.returns-in_default-2
returns-in_default-2 c = more _ (omega (arith, c.in_default.len_at_least))
