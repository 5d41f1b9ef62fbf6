use Rattle.std.proofs.Common.{◌≡◌, ◌+◌, ◌-◌, subst, sym}
use Rattle.object_heap.specs.Layout.{Layout, HasPlaces}
use Rattle.object_heap.specs.Objects.{with_words}
use Rattle.object_heap.specs.Kept.{seen_of}
use Rattle.object_heap.specs.Changes.{Edits, base_of}
use Rattle.object_heap.specs.Copies.{IsOneCopy, LosesCopy, copy_words}
use Rattle.object_heap.proofs.Heaps.{span_row, place_is}
use Rattle.object_heap.proofs.Messages.{with_region, land_apart, land_kept, land_edits, land_loses}
use Rattle.object_heap.proofs.heap.Heap.land.Goals as goal

pub land-requires-clause-apart : goal.land-requires-clause-apart
land-requires-clause-apart c =
    let to_row = span_row (seen_of c.self.inside) c.args.to (subst (λ (h : Layout). HasPlaces h c.args.to) (sym c.self.view_is) c.requires.target) in
    let to_place = place_is (seen_of c.self.inside) c.args.to.key c.args.to.at c.place-target.result to_row.0 to_row.1 (subst (λ (h : Layout). c.place-target.result ≡ base_of h c.args.to.key + c.args.to.at) (sym c.self.view_is) c.place-target.ensures) in
    let one = subst (λ (h : Layout). IsOneCopy h c.args.held) (sym c.self.view_is) c.requires.copy in
    land_apart (seen_of c.self.inside) c.args.held one to_row.0 c.args.to to_row.1 to_row.2 c.requires.fits c.place-target.result to_place

pub invariant_of-self : goal.invariant_of-self
invariant_of-self c =
    let to_row = span_row (seen_of c.self.inside) c.args.to (subst (λ (h : Layout). HasPlaces h c.args.to) (sym c.self.view_is) c.requires.target) in
    let to_place = place_is (seen_of c.self.inside) c.args.to.key c.args.to.at c.place-target.result to_row.0 to_row.1 (subst (λ (h : Layout). c.place-target.result ≡ base_of h c.args.to.key + c.args.to.at) (sym c.self.view_is) c.place-target.ensures) in
    let one = subst (λ (h : Layout). IsOneCopy h c.args.held) (sym c.self.view_is) c.requires.copy in
    land_kept c.self.inside c.land.new.region c.self.invariant c.args.held one to_row.0 c.args.to to_row.1 to_row.2 c.requires.fits c.place-target.result to_place c.land.ensures.lands c.land.ensures.ranges

pub returns-clause-edits : goal.returns-clause-edits
returns-clause-edits c =
    let to_row = span_row (seen_of c.self.inside) c.args.to (subst (λ (h : Layout). HasPlaces h c.args.to) (sym c.self.view_is) c.requires.target) in
    let to_place = place_is (seen_of c.self.inside) c.args.to.key c.args.to.at c.place-target.result to_row.0 to_row.1 (subst (λ (h : Layout). c.place-target.result ≡ base_of h c.args.to.key + c.args.to.at) (sym c.self.view_is) c.place-target.ensures) in
    let one = subst (λ (h : Layout). IsOneCopy h c.args.held) (sym c.self.view_is) c.requires.copy in
    subst (λ (h : Layout). Edits h (seen_of (with_region c.self.inside c.land.new.region (c.self.inside.copies - 1))) c.args.to.key (λ object. with_words object c.args.to.at (copy_words h c.args.held))) c.self.view_is
    (land_edits c.self.inside c.land.new.region c.self.invariant c.args.held one to_row.0 c.args.to to_row.1 to_row.2 c.requires.fits c.place-target.result to_place c.land.ensures.lands c.land.ensures.ranges)

pub returns-clause-loses : goal.returns-clause-loses
returns-clause-loses c =
    let to_row = span_row (seen_of c.self.inside) c.args.to (subst (λ (h : Layout). HasPlaces h c.args.to) (sym c.self.view_is) c.requires.target) in
    let to_place = place_is (seen_of c.self.inside) c.args.to.key c.args.to.at c.place-target.result to_row.0 to_row.1 (subst (λ (h : Layout). c.place-target.result ≡ base_of h c.args.to.key + c.args.to.at) (sym c.self.view_is) c.place-target.ensures) in
    let one = subst (λ (h : Layout). IsOneCopy h c.args.held) (sym c.self.view_is) c.requires.copy in
    subst (λ (h : Layout). LosesCopy h (seen_of (with_region c.self.inside c.land.new.region (c.self.inside.copies - 1))) c.args.held) c.self.view_is
    (land_loses c.self.inside c.land.new.region c.self.invariant c.args.held one to_row.0 c.args.to to_row.1 to_row.2 c.requires.fits c.place-target.result to_place c.land.ensures.lands c.land.ensures.ranges)
