use Rattle.run_model.proofs.SeparateRuns.{separate}
use Rattle.run_model.proofs.CommRuns.{few_comms}
use Rattle.run_model.proofs.laws.numbers_are_bounded_by_entries.Goals as goal

pub returns-clause-numbered : goal.returns-clause-numbered
returns-clause-numbered c = λ setup order. (separate setup order).few

pub returns-clause-ordered : goal.returns-clause-ordered
returns-clause-ordered c = λ setup order. (separate setup order).order

pub returns-clause-communicators : goal.returns-clause-communicators
returns-clause-communicators c = λ setup one order. (few_comms setup one order).count
