use Rattle.node_core.proofs.Going.{going_in}
use Rattle.node_core.proofs.parts.State.ending_after.Goals as goal

pub returns-then-is_none-3 : goal.returns-then-is_none-3
returns-then-is_none-3 c = λ setup w stands.
    going_in setup w c.args.self.now c.as_slice.result.now c.args.task c.in-Some.part.now stands c.as_slice.ensures.value c.in-Some.ensures c.if-is_none.ensures c.if-is_none-2.ensures c.if-is_none-3.ensures
