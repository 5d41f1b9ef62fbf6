use Rattle.std.proofs.Common.{arith}
use Rattle.c_parse.proofs.Depths.{no_inside, one_inside}
use Rattle.c_parse.proofs.bodies.Statements.below.Goals as goal

pub returns-then-self-eq0 : goal.returns-then-self-eq0
returns-then-self-eq0 g c = no_inside c.args.self.now.depth c.args.cursor.now (omega arith)

pub returns : goal.returns
returns g c = rw (one_inside c.args.self.now.depth c.args.cursor.now (omega arith)) (c.requires.reads _ _ _ _ _ c.stmt.ensures)
