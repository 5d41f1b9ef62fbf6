use Rattle.c_tree.proofs.SyntaxRows.{block_is}
use Rattle.c_parse.proofs.nodes.block.Goals as goal

pub returns : goal.returns
returns c = block_is c.args.body.at c.args.body.items c.args.body.end_line
