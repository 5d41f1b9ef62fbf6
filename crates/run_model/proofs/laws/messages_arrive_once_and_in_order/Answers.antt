use Rattle.run_model.proofs.OrderlyRuns.{matched}
use Rattle.run_model.proofs.laws.messages_arrive_once_and_in_order.Goals as goal

pub returns-clause-once : goal.returns-clause-once
returns-clause-once c = λ setup order. (matched setup order).once

pub returns-clause-in_order : goal.returns-clause-in_order
returns-clause-in_order c = λ setup order. (matched setup order).fair
