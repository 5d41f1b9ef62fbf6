use Rattle.std.proofs.Common.{◌∙◌, sym, length, arith, ap}
use Rattle.serial_node.proofs.Changes.{none_taken, one_taken, words_taken}
use Rattle.serial_node.proofs.places.Places.remove.Goals as goal

pub returns-in_default : goal.returns-in_default
returns-in_default c =
    rw (← c.self.view_is) (none_taken c.self.inside.variables.items c.self.inside.made.items c.take_made.new.made.items c.args.number
    (sym c.take_made.ensures.taken ∙ c.in_default.is) c.in_default.ensures.left)

pub overflow_cast-self : goal.overflow_cast-self
overflow_cast-self c =
    let sums = words_taken c.self.inside.variables.items c.self.inside.made.items c.take_made.new.made.items c.args.number c.in-Some.object (sym c.take_made.ensures.taken ∙ c.in-Some.is) c.in-Some.ensures.left in
    let len = ap length c.words.ensures in
    let live = c.self.invariant in
    omega (arith, c.self.ranges)

pub overflow_sub-self : goal.overflow_sub-self
overflow_sub-self c =
    let sums = words_taken c.self.inside.variables.items c.self.inside.made.items c.take_made.new.made.items c.args.number c.in-Some.object (sym c.take_made.ensures.taken ∙ c.in-Some.is) c.in-Some.ensures.left in
    let len = ap length c.words.ensures in
    let live = c.self.invariant in
    omega arith

pub invariant_of-self-2 : goal.invariant_of-self-2
invariant_of-self-2 c =
    let sums = words_taken c.self.inside.variables.items c.self.inside.made.items c.take_made.new.made.items c.args.number c.in-Some.object (sym c.take_made.ensures.taken ∙ c.in-Some.is) c.in-Some.ensures.left in
    let len = ap length c.words.ensures in
    let live = c.self.invariant in
    omega arith

pub returns : goal.returns
returns c = rw (← c.self.view_is) (one_taken c.self.inside.variables.items c.self.inside.made.items c.take_made.new.made.items c.args.number c.in-Some.object (sym c.take_made.ensures.taken ∙ c.in-Some.is) c.in-Some.ensures.left)
