use Rattle.std.proofs.lemmas.List.{length-set}
use Rattle.serial_memory.specs.Access.{with_word}
use Rattle.serial_node.proofs.Changes.{variable_changed, made_changed, held_changed}
use Rattle.serial_node.proofs.places.Places.set_word.Goals as goal

pub invariant_of-self-in-Dyn : goal.invariant_of-self-in-Dyn
invariant_of-self-in-Dyn c =
    rw c.self.invariant (held_changed c.self.inside.variables.items c.self.inside.made.items (λ object. with_word object c.args.at c.args.word) c.in-Dyn.number c.set_made.new.made.items
    (λ object. simp length-set) c.set_made.ensures)

pub returns-in-Glob : goal.returns-in-Glob
returns-in-Glob c =
    rw (← c.self.view_is, c.in-Glob.is) (variable_changed c.self.inside.variables.items c.self.inside.made.items (λ object. with_word object c.args.at c.args.word) c.in-Glob.number
    c.set_variable.new.variables.items c.set_variable.ensures)

pub returns-in-Dyn : goal.returns-in-Dyn
returns-in-Dyn c =
    rw (← c.self.view_is, c.in-Dyn.is) (made_changed c.self.inside.variables.items c.self.inside.made.items (λ object. with_word object c.args.at c.args.word) c.in-Dyn.number
    c.set_made.new.made.items c.set_made.ensures)
