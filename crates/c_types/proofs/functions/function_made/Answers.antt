use Rattle.c_types.proofs.Passes.{definition_of_items}
use Rattle.c_types.proofs.functions.function_made.Goals as goal

pub returns : goal.returns
returns c = definition_of_items c.args.params c.args.slots c.args.items c.args.ending c.args.end_line
