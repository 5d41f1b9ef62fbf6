use Rattle.std.proofs.Common.{◌∷◌, ◌++◌, [], ◌∙◌, ap, sym}
use Rattle.serial_model.specs.Run.{ending, world_of}
use Rattle.serial_model.specs.World.{World}
use Rattle.serial_node.proofs.Records.{records}
use Rattle.serial_node.proofs.node.Node.into_record.Goals as goal

pub returns-clause-end : goal.returns-clause-end
returns-clause-end c =
    rw (← c.self.view_is) (c.ending-end.ensures (world_of c.self.inside.setup c.self.inside.entries.items).answers ∙ sym (ap ending c.self.invariant.world))

pub returns-clause-records : goal.returns-clause-records
returns-clause-records c =
    let w : World = world_of c.self.inside.setup c.self.inside.entries.items in
    records c.self.inside.setup c.self.inside.entries.items c.self.inside.state c.self.invariant c.of.result c.ending-end.result c.of-2.result c.of.ensures
    (c.ending-end.ensures w.answers ∙ sym (ap ending c.self.invariant.world)) (rw (← c.self.view_is) at c.requires)
    (c.of-2.ensures ∙ c.in_ok-push.ensures.items ∙ ap (λ ends. ends ++ c.rank_end.result ∷ []) c.new-ranks.ensures.items ∙ ap (λ e. e ∷ []) c.rank_end.ensures)
