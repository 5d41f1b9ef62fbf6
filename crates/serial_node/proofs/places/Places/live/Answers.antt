use Rattle.std.proofs.Common.{◌∙◌, sym}
use Rattle.serial_node.proofs.Placed.{live_here}
use Rattle.serial_node.proofs.places.Places.live.Goals as goal

pub returns : goal.returns
returns c = rw (← c.self.view_is) (c.self.invariant ∙ sym (live_here c.self.inside.variables.items c.self.inside.made.items))
