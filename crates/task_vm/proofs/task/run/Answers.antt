use Rattle.task_vm.proofs.Runs.{falls, follows, reached, stuck}
use Rattle.task_vm.proofs.task.run.Goals as goal

pub loop-call-smaller : goal.loop-call-smaller
loop-call-smaller c =
    falls c.args.code.now c.loop-call.machine c.step.new.self c.step.new.call c.in_ok-step.field-0 c.in_ok-step.ensures.shows c.in_ok-step.ensures.near c.in-Went.is

pub loop-call-preserved : goal.loop-call-preserved
loop-call-preserved c = record {
  lives = c.loop-call.invariant.lives;
  reached = reached c.args.code.now c.loop-call.machine c.step.new.self c.step.new.call c.in_ok-step.field-0 c.in_ok-step.ensures.shows c.in_ok-step.ensures.near c.in-Went.is
      c.loop-call.invariant.reached;
  follows = λ given f.
      follows c.args.code.now c.loop-call.machine c.step.new.self c.step.new.call c.in_ok-step.field-0 c.in_ok-step.ensures.shows c.in_ok-step.ensures.near c.in-Went.is
      given (c.loop-call.invariant.follows given f);
}

pub unreachable-requires : goal.unreachable-requires
unreachable-requires c =
    stuck c.args.code.now c.loop-call.machine c.step.new.self c.step.new.call c.in_ok-step.field-0 c.in_ok-step.ensures.shows c.in_ok-step.ensures.near c.in-Stuck.is
    c.loop-call.invariant.lives c.loop-call.invariant.reached
