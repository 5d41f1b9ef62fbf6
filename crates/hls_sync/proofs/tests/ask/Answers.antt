use Rattle.hls_sync.proofs.Rows.{given_task}
use Rattle.hls_sync.proofs.tests.ask.Goals as goal

pub enter-answer-requires : goal.enter-answer-requires
enter-answer-requires g c = given_task c.args.syncs.now c.args.task c.requires.rows c.requires.task

pub enter_nowait-answer-requires : goal.enter_nowait-answer-requires
enter_nowait-answer-requires g c = given_task c.args.syncs.now c.args.task c.requires.rows c.requires.task

pub may_go-answer-requires : goal.may_go-answer-requires
may_go-answer-requires g c = given_task c.args.syncs.now c.args.task c.requires.rows c.requires.task

pub exit-requires : goal.exit-requires
exit-requires g c = given_task c.args.syncs.now c.args.task c.requires.rows c.requires.task

pub arrive_bar-requires : goal.arrive_bar-requires
arrive_bar-requires g c = given_task c.args.syncs.now c.args.task c.requires.rows c.requires.task

pub may_leave_bar-answer-requires : goal.may_leave_bar-answer-requires
may_leave_bar-answer-requires g c = given_task c.args.syncs.now c.args.task c.requires.rows c.requires.task
