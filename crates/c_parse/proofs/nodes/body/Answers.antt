use Rattle.std.proofs.Common.{ap}
use Rattle.c_tree.specs.Syntax as x
use Rattle.c_parse.proofs.ItemRows.{same_items}
use Rattle.c_parse.proofs.nodes.body.Goals as goal

pub returns : goal.returns
returns c = ap (λ is. let b : x.Body = record { at = c.args.at; items = is; end_line = c.args.end_line } in b) (same_items c.args.items.items)
