use Rattle.std.proofs.Common.{◌≤◌, subst, sym}
use Rattle.mpc_values.specs.declared.limits.TheConstants.{MAX_TASKS}
use Rattle.node_core.proofs.node.Node.tasks.Goals as goal

pub returns-clause-tasks : goal.returns-clause-tasks
returns-clause-tasks c = rw (← c.self.view_is) c.self.invariant.1

pub returns-clause-few : goal.returns-clause-few
returns-clause-few c = subst (λ n. n ≤ MAX_TASKS) (sym c.self.invariant.1) c.self.invariant.0.valid.few_tasks
