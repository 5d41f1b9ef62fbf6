use Rattle.std.proofs.Common.{◌≡◌, ℕ, Some, None, subst, sym, ◌∙◌}
use Rattle.std.specs.BTreeMap.{get}
use Rattle.hls_sync.specs.Syncs.{Syncs, IsGiven, IsSeat}
use Rattle.hls_sync.specs.Numbers.{pair_cmp}
use Rattle.hls_sync.specs.Kept.{seen_of}
use Rattle.hls_sync.proofs.Opened.{given_seat, found_seat}
use Rattle.hls_sync.proofs.syncs.HlsSync.find.Goals as goal

pub returns-in-Some-clause-seat : goal.returns-in-Some-clause-seat
returns-in-Some-clause-seat c =
    let given : IsGiven (seen_of c.self.inside) c.args.construct c.args.inst c.args.task = subst (λ (w : Syncs). IsGiven w c.args.construct c.args.inst c.args.task) (sym c.self.view_is) c.requires in
    let seat : IsSeat (seen_of c.self.inside) given.0 c.args.construct c.args.inst c.args.task = given_seat (seen_of c.self.inside) c.args.construct c.args.inst c.args.task given in
    let found : get pair_cmp c.self.inside.index (c.args.construct, c.args.task) ≡ Some given.0 = found_seat (seen_of c.self.inside) c.self.inside.index c.self.invariant.finds given.0 c.args.construct c.args.inst c.args.task seat in
    let both : Some c.in-Some.seat.now ≡ Some given.0 = c.in-Some.ensures.value ∙ found in
    let same : given.0 ≡ c.in-Some.seat.now = cc in
    subst (λ (w : Syncs). IsSeat w c.in-Some.seat.now c.args.construct c.args.inst c.args.task) c.self.view_is
    (subst (λ (k : ℕ). IsSeat (seen_of c.self.inside) k c.args.construct c.args.inst c.args.task) same seat)

pub returns-in-None-clause-seat : goal.returns-in-None-clause-seat
returns-in-None-clause-seat c =
    let given : IsGiven (seen_of c.self.inside) c.args.construct c.args.inst c.args.task = subst (λ (w : Syncs). IsGiven w c.args.construct c.args.inst c.args.task) (sym c.self.view_is) c.requires in
    let seat : IsSeat (seen_of c.self.inside) given.0 c.args.construct c.args.inst c.args.task = given_seat (seen_of c.self.inside) c.args.construct c.args.inst c.args.task given in
    let found : get pair_cmp c.self.inside.index (c.args.construct, c.args.task) ≡ Some given.0 = found_seat (seen_of c.self.inside) c.self.inside.index c.self.invariant.finds given.0 c.args.construct c.args.inst c.args.task seat in
    let never : None ≡ Some given.0 = c.in-None.ensures.value ∙ found in
    absurd (cc)
