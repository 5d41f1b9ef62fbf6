use Rattle.std.proofs.Common.{[], subst}
use Rattle.c_code.specs.FlatCode.{FlatCode}
use Rattle.c_code.specs.Following.{Follows}
use Rattle.task_vm.specs.States.{IsSound}
use Rattle.task_vm.specs.declared.states.State.TheVariants.{Ready}
use Rattle.task_vm.proofs.Given.{begun, begun_sound}
use Rattle.task_vm.proofs.task.Task.new.Goals as goal

pub invariant_of-result : goal.invariant_of-result
invariant_of-result c =
    subst (λ (code : FlatCode). IsSound code c.in_ok-machine.machine Ready) c.deref.ensures (begun_sound c.deref.result.now c.in_ok-machine.machine c.in_ok-machine.ensures)

pub returns-clause-begun : goal.returns-clause-begun
returns-clause-begun c =
    subst (λ (code : FlatCode). Follows code [] c.in_ok-machine.machine) c.deref.ensures (begun c.deref.result.now c.in_ok-machine.machine c.in_ok-machine.ensures)
