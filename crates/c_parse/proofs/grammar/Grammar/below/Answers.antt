use Rattle.std.proofs.Common.{arith}
use Rattle.c_parse.proofs.Depths.{no_nest, one_nest}
use Rattle.c_parse.proofs.grammar.Grammar.below.Goals as goal

pub returns-then-self-eq0 : goal.returns-then-self-eq0
returns-then-self-eq0 g c = no_nest c.args.self.now.depth c.args.part c.args.cursor.now (omega arith)

pub returns : goal.returns
returns g c = rw (one_nest c.args.self.now.depth c.args.part c.args.cursor.now (omega arith)) (c.requires.reads _ _ _ _ _ _ c.expr.ensures)
