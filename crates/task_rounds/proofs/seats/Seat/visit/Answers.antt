use Rattle.std.proofs.Common.{◌≡◌, Option, sym, subst, ◌∙◌}
use Rattle.task_vm.specs.declared.states.Want.{Want}
use Rattle.node_core.specs.declared.node.Reply.TheVariants.{Did, NotYet, Stop}
use Rattle.task_rounds.specs.Rounds.{Keeps}
use Rattle.task_rounds.proofs.Turning.{asked_next, is_built, awaits, plays_after, entries_are, others_keep, keeps_did, keeps_waits}
use Rattle.task_rounds.proofs.seats.Seat.visit.Goals as goal

pub visit-requires-clause-asks : goal.visit-requires-clause-asks
visit-requires-clause-asks c = asked_next c.args.node.now c.args.number c.requires.plays c.requires.goes c.args.self.now.task c.args.call c.args.line c.requires.asking

pub visit-requires-clause-built : goal.visit-requires-clause-built
visit-requires-clause-built c = is_built c.args.node.now c.args.number c.requires.plays c.requires.goes c.args.self.now.task c.args.call c.args.line c.requires.asking

pub give-requires : goal.give-requires
give-requires c = awaits c.args.node.now c.args.number c.requires.plays c.requires.goes c.args.self.now.task c.args.call c.args.line c.requires.asking c.in_ok-answer.field-0 c.in_ok-answer.ensures.reply c.tasks_never_misfit.ensures.fits c.in-Did.answer c.in-Did.is

pub returns-in-Did-clause-plays : goal.returns-in-Did-clause-plays
returns-in-Did-clause-plays c = plays_after c.args.node.now c.args.number c.requires.plays c.requires.goes c.visit.new.self c.in_ok-answer.ensures.setup c.in_ok-answer.ensures.entries c.in_ok-answer.ensures.stop

pub returns-in-Did-clause-keeps : goal.returns-in-Did-clause-keeps
returns-in-Did-clause-keeps c =
    subst (λ (want : Option Want). Keeps c.visit.new.self c.args.number (record { task = c.give.new.self; want = want })) (sym c.requires.want)
    (keeps_did c.args.node.now c.args.number c.requires.plays c.requires.goes c.args.self.now.task c.args.call c.args.line c.requires.asking c.in_ok-answer.field-0 c.in_ok-answer.ensures.reply c.visit.new.self c.in_ok-answer.ensures.setup c.in_ok-answer.ensures.entries c.in_ok-answer.ensures.stop c.in-Did.answer c.in-Did.is
    c.give.new.self c.give.ensures.code (c.give.ensures.over c.args.call c.args.line c.requires.asking.asks) c.give.ensures.asked c.give.ensures.had)

pub returns-in-Did-clause-others : goal.returns-in-Did-clause-others
returns-in-Did-clause-others c = others_keep c.args.node.now c.args.number c.requires.plays c.requires.goes c.visit.new.self c.in_ok-answer.ensures.setup c.in_ok-answer.ensures.entries c.in_ok-answer.ensures.stop

pub returns-in-NotYet : goal.returns-in-NotYet
returns-in-NotYet c = record {
  plays = plays_after c.args.node.now c.args.number c.requires.plays c.requires.goes c.visit.new.self c.in_ok-answer.ensures.setup c.in_ok-answer.ensures.entries c.in_ok-answer.ensures.stop;
  setup = c.in_ok-answer.ensures.setup;
  entries = entries_are c.args.node.now c.args.number c.requires.plays c.requires.goes c.visit.new.self c.in_ok-answer.ensures.setup c.in_ok-answer.ensures.entries c.in_ok-answer.ensures.stop;
  keeps = keeps_waits c.args.node.now c.args.number c.requires.plays c.requires.goes c.args.self.now.task c.args.call c.args.line c.requires.asking c.in_ok-answer.field-0 c.in_ok-answer.ensures.reply c.visit.new.self c.in_ok-answer.ensures.setup c.in_ok-answer.ensures.entries c.in_ok-answer.ensures.stop (λ answer is. let both : NotYet ≡ Did answer = sym c.in-NotYet.is ∙ is in cc);
  others = others_keep c.args.node.now c.args.number c.requires.plays c.requires.goes c.visit.new.self c.in_ok-answer.ensures.setup c.in_ok-answer.ensures.entries c.in_ok-answer.ensures.stop;
}

pub returns-in-Stop : goal.returns-in-Stop
returns-in-Stop c = record {
  plays = plays_after c.args.node.now c.args.number c.requires.plays c.requires.goes c.visit.new.self c.in_ok-answer.ensures.setup c.in_ok-answer.ensures.entries c.in_ok-answer.ensures.stop;
  setup = c.in_ok-answer.ensures.setup;
  entries = entries_are c.args.node.now c.args.number c.requires.plays c.requires.goes c.visit.new.self c.in_ok-answer.ensures.setup c.in_ok-answer.ensures.entries c.in_ok-answer.ensures.stop;
  keeps = keeps_waits c.args.node.now c.args.number c.requires.plays c.requires.goes c.args.self.now.task c.args.call c.args.line c.requires.asking c.in_ok-answer.field-0 c.in_ok-answer.ensures.reply c.visit.new.self c.in_ok-answer.ensures.setup c.in_ok-answer.ensures.entries c.in_ok-answer.ensures.stop (λ answer is. let both : Stop ≡ Did answer = sym c.in-Stop.is ∙ is in cc);
  others = others_keep c.args.node.now c.args.number c.requires.plays c.requires.goes c.visit.new.self c.in_ok-answer.ensures.setup c.in_ok-answer.ensures.entries c.in_ok-answer.ensures.stop;
}
