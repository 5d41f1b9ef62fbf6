use Rattle.std.specs.Arc.{arc_value}
use Rattle.task_vm.proofs.Given.{has_had, still_sound}
use Rattle.task_vm.proofs.task.Task.give.Goals as goal

pub invariant_of-self-2 : goal.invariant_of-self-2
invariant_of-self-2 c =
    still_sound (arc_value c.self.inside.code) c.self.inside.machine c.self.inside.state c.in-Asked.ends c.args.self.now c.args.answer c.in-Asked.is c.if-ends.false c.self.view_is
    c.self.invariant c.requires

pub returns-clause-had : goal.returns-clause-had
returns-clause-had c = λ given h o.
    has_had (arc_value c.self.inside.code) c.self.inside.machine c.self.inside.state c.in-Asked.ends c.args.self.now c.args.answer c.in-Asked.is c.if-ends.false c.self.view_is
    c.self.invariant c.requires given h
