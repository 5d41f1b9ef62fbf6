use Rattle.c_parse.proofs.Calls.{call_read}
use Rattle.c_parse.proofs.nodes.call.Goals as goal

pub returns : goal.returns
returns c = call_read c.args.at c.args.name c.args.arguments
