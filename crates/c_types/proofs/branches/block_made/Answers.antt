use Rattle.c_types.proofs.Passes.{block_of_items}
use Rattle.c_types.proofs.branches.block_made.Goals as goal

pub returns : goal.returns
returns c = block_of_items c.args.items c.args.end_line
