use Rattle.c_parse.proofs.Depths.{is_deep}
use Rattle.c_parse.proofs.grammar.Grammar.is_deep.Goals as goal

pub returns : goal.returns
returns g c = is_deep c.args.self.now.depth
