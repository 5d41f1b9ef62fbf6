use Rattle.std.proofs.Common.{◌≡◌, true, ap, sym, arith}
use Rattle.serial_model.specs.World.{World}
use Rattle.serial_model.specs.Go.{has_ended}
use Rattle.serial_model.specs.Run.{world_of}
use Rattle.serial_node.specs.Visits.{made, reply_of}
use Rattle.serial_node.proofs.Visits.{go_ended, end_here, few_here, visit_keeps, visit_makes, visit_replies, entry_pushed}
use Rattle.serial_node.proofs.node.Node.visit.Goals as goal

pub returns-then-has_ended-clause-entries : goal.returns-then-has_ended-clause-entries
returns-then-has_ended-clause-entries c =
    let w : World = world_of c.self.inside.setup c.self.inside.entries.items in
    let ended : has_ended w ≡ true = end_here _ _ c.self.inside.state c.self.invariant true (c.if-has_ended.ensures w.answers) in
    rw (← c.self.view_is) (ap (made c.self.inside.entries.items) (sym (go_ended c.self.inside.setup w ended)))

pub returns-then-has_ended-clause-reply : goal.returns-then-has_ended-clause-reply
returns-then-has_ended-clause-reply c =
    let w : World = world_of c.self.inside.setup c.self.inside.entries.items in
    let ended : has_ended w ≡ true = end_here _ _ c.self.inside.state c.self.invariant true (c.if-has_ended.ensures w.answers) in
    rw (← c.self.view_is) (ap (reply_of (has_ended w)) (sym (go_ended c.self.inside.setup w ended)))

pub step-requires-clause-room : goal.step-requires-clause-room
step-requires-clause-room c =
    let few = few_here c.self.inside.setup c.self.inside.entries.items c.self.inside.state c.self.invariant
    (c.if-has_ended.ensures (world_of c.self.inside.setup c.self.inside.entries.items).answers) in
    omega (arith, few.0, few.1)

pub step-requires-clause-few : goal.step-requires-clause-few
step-requires-clause-few c =
    (few_here c.self.inside.setup c.self.inside.entries.items c.self.inside.state c.self.invariant
    (c.if-has_ended.ensures (world_of c.self.inside.setup c.self.inside.entries.items).answers)).0

pub invariant_of-self-2 : goal.invariant_of-self-2
invariant_of-self-2 c =
    let w : World = world_of c.self.inside.setup c.self.inside.entries.items in
    visit_keeps c.self.inside.setup c.self.inside.entries.items c.self.inside.state c.step.new.self c.self.invariant c.args.call.now c.args.line c.in_ok-out.out
    (rw (← c.self.view_is) at c.requires.asks) (c.if-has_ended.ensures w.answers) (c.in_ok-out.ensures.ok w.answers) c.push_reserved.new.self.items
    (entry_pushed _ _ _ c.args.task c.number.result c.args.call.now c.args.line c.in_ok-out.out c.in_ok-reserve.ensures.items c.push_reserved.ensures.items c.requires.task c.number.ensures)

pub returns-clause-entries : goal.returns-clause-entries
returns-clause-entries c =
    let w : World = world_of c.self.inside.setup c.self.inside.entries.items in
    rw (← c.self.view_is) (visit_makes c.self.inside.setup c.self.inside.entries.items c.self.inside.state c.step.new.self c.self.invariant c.args.call.now c.args.line c.in_ok-out.out
    (rw (← c.self.view_is) at c.requires.asks) (c.if-has_ended.ensures w.answers) (c.in_ok-out.ensures.ok w.answers) c.push_reserved.new.self.items
    (entry_pushed _ _ _ c.args.task c.number.result c.args.call.now c.args.line c.in_ok-out.out c.in_ok-reserve.ensures.items c.push_reserved.ensures.items c.requires.task c.number.ensures))

pub returns-clause-reply : goal.returns-clause-reply
returns-clause-reply c =
    let w : World = world_of c.self.inside.setup c.self.inside.entries.items in
    rw (← c.self.view_is, c.reply_to.ensures) (visit_replies c.self.inside.setup c.self.inside.entries.items c.self.inside.state c.step.new.self c.self.invariant c.args.call.now c.args.line
    c.in_ok-out.out (rw (← c.self.view_is) at c.requires.asks) (c.if-has_ended.ensures w.answers) (c.in_ok-out.ensures.ok w.answers))
