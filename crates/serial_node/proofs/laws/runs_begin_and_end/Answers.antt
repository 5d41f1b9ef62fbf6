use Rattle.serial_node.proofs.Leads.{run_laws}
use Rattle.serial_node.proofs.laws.runs_begin_and_end.Goals as goal

pub returns : goal.returns
returns c = run_laws
