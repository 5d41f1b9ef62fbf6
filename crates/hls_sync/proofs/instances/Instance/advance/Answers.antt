use Rattle.std.proofs.Common.{◌≡◌, ◌<◌, length, get_or, set, subst, sym, ap, ◌∙◌, arith}
use Rattle.hls_sync.specs.Turnouts.{Turnout, reached, IsFalling}
use Rattle.hls_sync.proofs.Counts.{falling_advanced}
use Rattle.hls_sync.proofs.instances.Instance.advance.Goals as goal

pub invariant_of-self : goal.invariant_of-self
invariant_of-self c =
    let counts_is : c.self.inside.counts.items ≡ c.args.self.now.counts = ap (λ (t : Turnout). t.counts) c.self.view_is in
    let place_is : c.place_of-place.result ≡ reached c.self.inside.counts.items c.args.came = c.place_of-place.ensures ∙ ap (λ cs. reached cs c.args.came) c.as_slice.ensures.value in
    let there : reached c.self.inside.counts.items c.args.came < length c.self.inside.counts.items = subst (λ cs. reached cs c.args.came < length cs) (sym counts_is) c.requires.there in
    let one : get_or c.self.inside.counts.items (reached c.self.inside.counts.items c.args.came) 0 ≡ c.args.came = subst (λ cs. get_or cs (reached cs c.args.came) 0 ≡ c.args.came) (sym counts_is) c.requires.one in
    subst (λ p. IsFalling (set c.self.inside.counts.items p c.saturating_add.result)) (sym place_is)
    (subst (λ n. IsFalling (set c.self.inside.counts.items (reached c.self.inside.counts.items c.args.came) n)) (sym c.saturating_add.ensures)
    (falling_advanced c.self.inside.counts.items c.args.came (omega (arith, c.ranges.came.fits)) c.self.invariant there one))
