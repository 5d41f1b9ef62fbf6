use Rattle.std.proofs.Common.{◌≡◌, sym, ◌∙◌}
use Rattle.serial_run.proofs.Turning.{asks_next, is_built, stopped, awaits, turned, visited_node, same_node}
use Rattle.serial_run.proofs.run.answer.Goals as goal

pub visit-requires-clause-asks : goal.visit-requires-clause-asks
visit-requires-clause-asks c = asks_next _ _ _ _ c.requires

pub visit-requires-clause-built : goal.visit-requires-clause-built
visit-requires-clause-built c = is_built _ _ _ _ c.requires

pub give-requires : goal.give-requires
give-requires c = awaits _ _ _ _ c.requires _ (sym c.in_ok-answer.ensures.reply ∙ c.in-Did.is)

pub returns-in-Did-clause-turned : goal.returns-in-Did-clause-turned
returns-in-Did-clause-turned c =
    let node = c.args.node.now in
    let is : c.visit.new.self ≡ visited_node node = same_node c.visit.new.self (visited_node node) c.in_ok-answer.ensures.setup c.in_ok-answer.ensures.entries in
    turned c.args.task.now node c.args.call.now c.args.line c.requires c.in-Did.answer (sym c.in_ok-answer.ensures.reply ∙ c.in-Did.is)
    c.give.new.self c.give.ensures.code (c.give.ensures.over c.args.call.now c.args.line c.requires.asks) c.give.ensures.had c.is_finish.result c.visit.new.self c.is_finish.ensures is

pub returns-in-Stop-clause-turned : goal.returns-in-Stop-clause-turned
returns-in-Stop-clause-turned c =
    let node = c.args.node.now in
    stopped c.args.task.now node c.args.call.now c.args.line c.requires c.visit.new.self (same_node c.visit.new.self (visited_node node) c.in_ok-answer.ensures.setup c.in_ok-answer.ensures.entries)
    (sym c.in_ok-answer.ensures.reply ∙ c.in-Stop.is)
