use Rattle.c_code.proofs.Following.{demands_once, follows_moved, follows_answered, asks_demanded, follows_unstuck}
use Rattle.c_code.proofs.laws.machines_follow_answers.Goals as goal

pub returns-clause-once : goal.returns-clause-once
returns-clause-once c = demands_once

pub returns-clause-moved : goal.returns-clause-moved
returns-clause-moved c = follows_moved

pub returns-clause-answered : goal.returns-clause-answered
returns-clause-answered c = follows_answered

pub returns-clause-demanded : goal.returns-clause-demanded
returns-clause-demanded c = asks_demanded

pub returns-clause-unstuck : goal.returns-clause-unstuck
returns-clause-unstuck c = follows_unstuck
