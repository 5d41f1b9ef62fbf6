use Rattle.std.proofs.Common.{List}
use Rattle.mpc_values.specs.declared.answers.Answer.{Answer}
use Rattle.c_code.specs.Following.{Follows, NeverSticks}
use Rattle.task_vm.specs.States.{IsReached}
use Rattle.task_vm.proofs.Measure.{left}
use Rattle.task_vm.proofs.task.run.Given as goal

abbrev pub invariant-loop-call : goal.invariant-loop-call
invariant-loop-call l = record {
  lives : NeverSticks l.code;
  reached : IsReached l.code l.machine;
  follows : (given : List Answer) → Follows l.code given l.fn.machine → Follows l.code given l.machine;
}

abbrev pub decreases-loop-call : goal.decreases-loop-call
decreases-loop-call l = left l.machine
