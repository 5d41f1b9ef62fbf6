use Rattle.std.proofs.Common.{◌∙◌}
use Rattle.run_model.specs.Setup.{setup_of}
use Rattle.node_core.proofs.Visiting.{how_is}
use Rattle.node_core.proofs.node.Node.ended.Goals as goal

pub returns : goal.returns
returns c =
    rw (← c.self.view_is) (c.how_stands.ensures ∙ how_is (setup_of c.self.inside.setup) c.self.inside.journal.entries c.self.inside.state c.self.inside.end c.self.inside.stop c.self.invariant.0)
