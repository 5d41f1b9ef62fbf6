use Rattle.std.proofs.Common.{◌&&◌, sym, ap, ◌∙◌}
use Rattle.hls_sync.proofs.Steps.{may_go_found}
use Rattle.hls_sync.proofs.syncs.HlsSync.may_go.Goals as goal

pub returns-then-latest : goal.returns-then-latest
returns-then-latest c = λ site visits exits single at_site shown.
    ap (λ w. w && c.latest-latest.result.free) (sym c.if-latest.true)
    ∙ may_go_found c.args.self.now c.find-k.result c.args.construct c.args.inst c.args.task c.find-k.ensures.seat c.latest-latest.ensures.few c.latest-latest.result.whole c.latest-latest.result.free c.latest-latest.ensures.whole c.latest-latest.ensures.free site visits exits single at_site shown

pub returns-else-latest : goal.returns-else-latest
returns-else-latest c = λ site visits exits single at_site shown.
    c.if-latest.false
    ∙ (ap (λ w. w && c.latest-latest.result.free) (sym c.if-latest.false)
    ∙ may_go_found c.args.self.now c.find-k.result c.args.construct c.args.inst c.args.task c.find-k.ensures.seat c.latest-latest.ensures.few c.latest-latest.result.whole c.latest-latest.result.free c.latest-latest.ensures.whole c.latest-latest.ensures.free site visits exits single at_site shown)
