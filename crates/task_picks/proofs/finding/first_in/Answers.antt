use Rattle.std.proofs.Common.{◌<◌, false, ◌∙◌, arith}
use Rattle.task_picks.specs.Picked.{goes}
use Rattle.task_picks.proofs.Found.{goes_is, find_later}
use Rattle.task_picks.proofs.finding.first_in.Goals as goal

pub loop-task-preserved : goal.loop-task-preserved
loop-task-preserved c =
    let p = goes c.args.node.now in
    let task = c.loop-task.task in
    let less : task < c.args.to = omega arith in
    c.loop-task.invariant ∙ find_later p task c.args.to less (goes_is c.args.node.now task false c.requires.running c.if-can_go.ensures.goes)
