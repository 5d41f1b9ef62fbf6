use Rattle.std.proofs.Common.{◌∙◌}
use Rattle.c_parse.proofs.Depths.{inner_depth}
use Rattle.c_parse.proofs.bodies.Statements.inner.Goals as goal

pub returns : goal.returns
returns g c = c.saturating_sub.ensures ∙ inner_depth c.args.self.now.depth
