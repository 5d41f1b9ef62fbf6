use Rattle.std.proofs.Common.{◌-◌, sym, ap, ◌∙◌, subst}
use Rattle.task_gate.specs.History.{Adds}
use Rattle.task_gate.specs.Rule.{history_of}
use Rattle.task_gate.specs.Passes.{got, number, number_of}
use Rattle.task_gate.specs.declared.views.View.{View}
use Rattle.task_gate.proofs.Claims.{adds}
use Rattle.task_gate.proofs.gates.Gate.leave.Goals as goal

pub overflow_sub-more : goal.overflow_sub-more
overflow_sub-more g c =
    (adds (got c.args.pass.now) (g.S.Traced.history c.args.state) (number c.args.pass.now) c.item_count.result c.take_seat-seat.new.self.got c.requires.adds c.item_count.ensures (c.take_seat-seat.ensures.2 ∙ c.requires.inside.3)).0

pub give_back-requires-clause-adds : goal.give_back-requires-clause-adds
give_back-requires-clause-adds g c =
    let a = (adds (got c.args.pass.now) (g.S.Traced.history c.args.state) (number c.args.pass.now) c.item_count.result c.take_seat-seat.new.self.got c.requires.adds c.item_count.ensures (c.take_seat-seat.ensures.2 ∙ c.requires.inside.3)).1 in
    subst (λ (v : View). Adds (history_of v.stage) (g.S.Traced.history c.args.state) (number_of v.claims) (c.item_count.result - c.take_seat-seat.new.self.got)) (sym (ap (λ m. m.0) c.take_seat-seat.ensures.1)) a
