use Rattle.node_core.proofs.All.{same_state}
use Rattle.node_core.proofs.node.visit_with.Goals as goal

pub returns-then-is_err-clause-err : goal.returns-then-is_err-clause-err
returns-then-is_err-clause-err c = same_state c.args.state.now
