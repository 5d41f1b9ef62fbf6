use Rattle.std.proofs.Common.{slice_get, ap}
use Rattle.task_gate.proofs.tests.shelves.Goals as goal

pub returns : goal.returns
returns c =
    let new = c.in-Ok.ensures.passes 0 c.in-Some.mine (ap (λ l. slice_get l 0) c.in-Some.ensures) in
    (new.0, new.2)
