use Rattle.std.proofs.Common.{◌∙◌, sym}
use Rattle.node_core.proofs.Going.{finished_is}
use Rattle.node_core.proofs.ends.all_finished.Goals as goal

pub returns : goal.returns
returns c = c.all_have_exits.ensures ∙ sym (finished_is c.args.parts.now)
