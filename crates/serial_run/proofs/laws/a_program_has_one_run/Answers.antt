use Rattle.serial_run.proofs.OneRun.{one_run}
use Rattle.serial_run.proofs.laws.a_program_has_one_run.Goals as goal

pub returns : goal.returns
returns c = one_run
