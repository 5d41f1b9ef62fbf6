use Rattle.run_model.proofs.NeverMisfits.{known_fits, never_misfits}
use Rattle.run_model.proofs.laws.tasks_never_misfit.Goals as goal

pub returns-clause-fits : goal.returns-clause-fits
returns-clause-fits c = λ setup w task entry after step answer known e. known_fits step known answer e

pub returns-clause-never : goal.returns-clause-never
returns-clause-never c = never_misfits
