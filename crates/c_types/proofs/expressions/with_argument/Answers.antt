use Rattle.c_types.proofs.LookSteps.{argument_pushed}
use Rattle.c_types.proofs.expressions.with_argument.Goals as goal

pub returns-in_ok-push-in-Ok-clause-made : goal.returns-in_ok-push-in-Ok-clause-made
returns-in_ok-push-in-Ok-clause-made c =
    argument_pushed _ _ _ _ _ _ _ _ c.in-Ok.ensures.left c.in-Ok.ensures.right c.in_ok-converted-in-Ok.ensures c.in_ok-push-in-Ok.ensures.items
