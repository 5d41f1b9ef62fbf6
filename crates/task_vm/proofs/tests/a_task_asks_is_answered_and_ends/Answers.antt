use Rattle.std.proofs.Common.{ap, ◌∙◌}
use Rattle.task_vm.specs.Tasks.{ends_task}
use Rattle.task_vm.proofs.tests.a_task_asks_is_answered_and_ends.Goals as goal

pub next_call-requires-2 : goal.next_call-requires-2
next_call-requires-2 g c = c.give.ensures.over c.in-Some.call c.in-Some.line c.in-Some.ensures.asks ∙ ap ends_task c.in-Load.is
