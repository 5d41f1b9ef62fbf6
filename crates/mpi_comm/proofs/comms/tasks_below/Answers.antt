use Rattle.std.proofs.Common.{refl, subst, arith}
use Rattle.std.specs.Prelude.{IfOk, ◌≡◌}
use Rattle.std.specs.List.{range_with_len}
use Rattle.std.proofs.lemmas.Iterator.{items_from_collect, YieldsList-from_range}
use Rattle.mpi_comm.proofs.comms.tasks_below.Goals as goal

pub returns : goal.returns
returns c =
    subst (λ r. IfOk r (λ list. list.items ≡ range_with_len 0 c.args.tasks)) c.in_ok-collect.was
    (items_from_collect _ c.collect.ensures.ran (YieldsList-from_range 0 _ _ refl (omega arith)))
