use Rattle.c_compile.proofs.Parameters.{Saved}
use Rattle.c_compile.proofs.function_code.put_params.Given as goal

abbrev pub invariant-loop-left : goal.invariant-loop-left
invariant-loop-left l = Saved l.params l.fn.out l.fn.around l.left l.out l.around

abbrev pub decreases-loop-left : goal.decreases-loop-left
decreases-loop-left l = l.left
