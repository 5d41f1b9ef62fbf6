use Rattle.std.proofs.Common.{◌≡◌, ◌<◌, ◌-◌, ◌+◌, ◌≤◌, suc, length, filter, true, false, ap, ◌∙◌, arith}
use Rattle.std.specs.List.{range_with_len}
use Rattle.task_picks.specs.Picked.{goes}
use Rattle.task_picks.proofs.Found.{goes_is, filter_here, filter_later}
use Rattle.task_picks.proofs.finding.count.Goals as goal
use Rattle.task_picks.proofs.finding.count.Goals.{then-can_go, else-can_go}

pub loop-task-preserved : goal.loop-task-preserved
loop-task-preserved c =
    let p = goes c.args.node.now in
    let task = c.loop-task.task in
    let tasks = c.tasks-tasks.result in
    let less : task < tasks = omega arith in
    let was : length (filter p (range_with_len 0 tasks)) ≡ c.loop-task.found + length (filter p (range_with_len task (tasks - task))) = c.loop-task.invariant.counted in
    let few : c.loop-task.found ≤ task = c.loop-task.invariant.few in
    elim c.if-can_go.branch [
      | then-can_go w ↦
          let more : length (filter p (range_with_len task (tasks - task))) ≡ suc (length (filter p (range_with_len (task + 1) (tasks - (task + 1))))) = ap length (filter_here p task tasks less (goes_is c.args.node.now task true c.requires.running w.if-can_go.ensures.goes)) in
          record { counted = was ∙ (let found = w.found-is in omega (arith, more, found)); few = let found = w.found-is in omega (arith, few, found) }
      | else-can_go w ↦
          let same : length (filter p (range_with_len task (tasks - task))) ≡ length (filter p (range_with_len (task + 1) (tasks - (task + 1)))) = ap length (filter_later p task tasks less (goes_is c.args.node.now task false c.requires.running w.if-can_go.ensures.goes)) in
          record { counted = was ∙ (let found = w.found-is in omega (arith, same, found)); few = let found = w.found-is in omega (arith, few, found) }
    ]
