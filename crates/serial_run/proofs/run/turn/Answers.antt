use Rattle.serial_run.proofs.Turning.{asking_want}
use Rattle.serial_run.proofs.run.turn.Goals as goal

pub answer-requires : goal.answer-requires
answer-requires c =
    asking_want c.args.task.now c.advance.new.self c.args.node.now c.in_ok-call.field-0 _ _ (cc) c.requires c.in_ok-call.ensures.code (c.in_ok-call.ensures.demands _ c.requires.had).0 c.in_ok-call.ensures.goes c.in_ok-call.ensures.asked.0
    c.in_ok-call.ensures.asks
