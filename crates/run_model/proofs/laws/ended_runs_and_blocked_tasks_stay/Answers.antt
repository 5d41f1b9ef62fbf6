use Rattle.run_model.proofs.Ended.{ended_runs_stay, blocked_tasks_stay}
use Rattle.run_model.proofs.laws.ended_runs_and_blocked_tasks_stay.Goals as goal

pub returns-clause-ended : goal.returns-clause-ended
returns-clause-ended c = ended_runs_stay

pub returns-clause-blocked : goal.returns-clause-blocked
returns-clause-blocked c = blocked_tasks_stay
