use Rattle.std.proofs.Common.{length}
use Rattle.c_compile.specs.Standing.{Fits, tail_of}
use Rattle.c_compile.proofs.Blocks.{Made}
use Rattle.c_compile.proofs.statement_code.+statement.Given as goal

abbrev pub invariant-put_items-loop-left : goal.invariant-put_items-loop-left
invariant-put_items-loop-left l = Made l.end (tail_of l.fn.ending l.end) l.items l.fn.around l.fn.out l.left l.out l.around × Fits l.around (length l.out)

abbrev pub decreases-put_items-loop-left : goal.decreases-put_items-loop-left
decreases-put_items-loop-left l = l.left
