use Rattle.std.proofs.Common.{◌<◌, ◌-◌, ◌+◌, filter, slice_get, true, false, sym, ap, ◌∙◌, arith}
use Rattle.std.specs.List.{range_with_len}
use Rattle.task_picks.specs.Picked.{goes}
use Rattle.task_picks.proofs.Found.{goes_is, filter_here, filter_later, get_later}
use Rattle.task_picks.proofs.finding.nth.Goals as goal
use Rattle.task_picks.proofs.finding.nth.Goals.{then-can_go+else-left-eq0, else-can_go}

pub loop-task-preserved : goal.loop-task-preserved
loop-task-preserved c =
    let p = goes c.args.node.now in
    let task = c.loop-task.task in
    let tasks = c.tasks-tasks.result in
    let left = c.loop-task.left in
    let less : task < tasks = omega arith in
    let rest = filter p (range_with_len (task + 1) (tasks - (task + 1))) in
    elim c.if-can_go.branch [
      | then-can_go+else-left-eq0 w ↦
          let some : 0 < left = omega (arith, w.if-left-eq0) in
          c.loop-task.invariant ∙ ap (λ xs. slice_get xs left) (filter_here p task tasks less (goes_is c.args.node.now task true c.requires.running w.if-can_go.ensures.goes)) ∙ get_later task rest left some ∙ ap (slice_get rest) (sym w.left-is)
      | else-can_go w ↦
          c.loop-task.invariant ∙ ap (λ xs. slice_get xs left) (filter_later p task tasks less (goes_is c.args.node.now task false c.requires.running w.if-can_go.ensures.goes)) ∙ ap (slice_get rest) (sym w.left-is)
    ]
