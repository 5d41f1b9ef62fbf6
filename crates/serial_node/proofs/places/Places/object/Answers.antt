use Rattle.std.proofs.Common.{◌∙◌, sym}
use Rattle.serial_node.proofs.Placed.{variable_at, dyn_at}
use Rattle.serial_node.proofs.places.Places.object.Goals as goal

pub returns-in-Glob : goal.returns-in-Glob
returns-in-Glob c =
    let at = variable_at c.self.inside.variables.items c.self.inside.made.items c.in-Glob.number in
    rw (← c.self.view_is, c.in-Glob.is) (rw c.as_slice.ensures.value at c.variable_at.ensures ∙ sym at)

pub returns-in-Dyn : goal.returns-in-Dyn
returns-in-Dyn c =
    let at = dyn_at c.self.inside.variables.items c.self.inside.made.items c.in-Dyn.number in
    rw (← c.self.view_is, c.in-Dyn.is) (rw c.as_slice-in-Dyn.ensures.value at c.slot_at.ensures ∙ sym at)
