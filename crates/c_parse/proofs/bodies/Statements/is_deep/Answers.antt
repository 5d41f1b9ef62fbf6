use Rattle.c_parse.proofs.Depths.{is_deep_inside}
use Rattle.c_parse.proofs.bodies.Statements.is_deep.Goals as goal

pub returns : goal.returns
returns g c = is_deep_inside c.args.self.now.depth
