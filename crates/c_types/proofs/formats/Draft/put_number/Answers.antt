use Rattle.std.proofs.Common.{ap, Vec, Global}
use Rattle.c_tree.specs.declared.program.Width.{Width}
use Rattle.c_types.proofs.DraftSteps.{number_put}
use Rattle.c_types.proofs.formats.Draft.put_number.Goals as goal

pub returns : goal.returns
returns c =
    number_put c.args.self.now _ _ _ _ _ _ c.in_ok-end_run.ensures.pieces c.in_ok-end_run.ensures.run (ap (λ (v : Vec Width Global). v.items) c.in_ok-end_run.ensures.widths) c.in_ok-push.ensures.items c.in_ok-push-2.ensures.items
