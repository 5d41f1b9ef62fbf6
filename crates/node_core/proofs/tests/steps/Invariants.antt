use Rattle.run_model.specs.Setup.{setup_of}
use Rattle.node_core.specs.Stands.{IsSpaceOf}
use Rattle.node_core.proofs.tests.steps.Given as goal

abbrev pub invariant-loop-task : goal.invariant-loop-task
invariant-loop-task g l = IsSpaceOf (setup_of l.setup) l.state.shared.space
