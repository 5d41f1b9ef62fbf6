use Rattle.c_types.proofs.Buffers.{buffer_end}
use Rattle.c_types.proofs.arguments.buffers_agree.Goals as goal

pub returns : goal.returns
returns c = buffer_end _ _ _ _ c.min-count.ensures c.loop-i-test.false c.loop-i.invariant
