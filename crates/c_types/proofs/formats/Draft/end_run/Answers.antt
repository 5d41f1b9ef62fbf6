use Rattle.std.proofs.Common.{ap, ◌∙◌, Vec, Global, ℕ}
use Rattle.c_types.proofs.DraftSteps.{run_ended, has_items}
use Rattle.c_types.proofs.formats.Draft.end_run.Goals as goal

pub returns-in_ok-push-clause-pieces : goal.returns-in_ok-push-clause-pieces
returns-in_ok-push-clause-pieces c =
    run_ended c.args.self.now.pieces.items _ c.args.self.now.run.items _ (has_items c.args.self.now.run _ c.is_empty.ensures c.if-not-is_empty.true)
    (c.of.ensures ∙ ap (λ (v : Vec ℕ Global). v.items) c.replace-run.ensures.value) c.in_ok-push.ensures.items
