use Rattle.serial_node.proofs.Leads.{visit_laws}
use Rattle.serial_node.proofs.laws.visits_leave_runs.Goals as goal

pub returns : goal.returns
returns c = λ setup entries call line asks. visit_laws setup entries call line asks
