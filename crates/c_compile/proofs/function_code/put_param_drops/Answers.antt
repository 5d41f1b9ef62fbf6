use Rattle.std.proofs.Common.{refl, arith}
use Rattle.c_compile.proofs.Parameters.{param_closed, param_opened}
use Rattle.c_compile.proofs.function_code.put_param_drops.Goals as goal

pub loop-is_in_memory-preserved : goal.loop-is_in_memory-preserved
loop-is_in_memory-preserved c = (
  omega (arith, c.in_ok-slot.ensures, c.loop-is_in_memory.invariant.0),
  param_closed _ _ _ _ _ _ _ _ _ c.loop-is_in_memory-test.true refl c.loop-is_in_memory.invariant.0 c.loop-is_in_memory.invariant.1 c.in_ok-put_param_drop.ensures.code,
  param_opened _ _ _ _ _ _ _ _ c.loop-is_in_memory-test.true refl c.loop-is_in_memory.invariant.0 c.loop-is_in_memory.invariant.2 c.in_ok-put_param_drop.ensures.opened,
)
