use Rattle.task_gate.specs.Names.{gate_id}
use Rattle.task_gate.specs.Passes.{IsAt}
use Rattle.task_gate.proofs.tests.visit_often.Given as goal

abbrev pub invariant-loop-told : goal.invariant-loop-told
invariant-loop-told g l = IsAt (gate_id l.gate) l.number l.pass
