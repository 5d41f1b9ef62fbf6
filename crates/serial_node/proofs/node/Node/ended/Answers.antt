use Rattle.std.proofs.Common.{◌∙◌, ap, sym}
use Rattle.serial_model.specs.Run.{ending, world_of}
use Rattle.serial_node.proofs.node.Node.ended.Goals as goal

pub returns : goal.returns
returns c =
    rw (← c.self.view_is) (c.ending.ensures (world_of c.self.inside.setup c.self.inside.entries.items).answers ∙ sym (ap ending c.self.invariant.world))
