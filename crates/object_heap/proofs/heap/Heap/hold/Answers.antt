use Rattle.std.proofs.Common.{◌≡◌, ◌+◌, subst, sym}
use Rattle.object_heap.specs.Layout.{Layout, HasPlaces}
use Rattle.object_heap.specs.Objects.{span_words}
use Rattle.object_heap.specs.Kept.{seen_of}
use Rattle.object_heap.specs.Changes.{KeepsObjects, base_of}
use Rattle.object_heap.specs.Copies.{GainsCopy, copy_words}
use Rattle.object_heap.proofs.Heaps.{span_row, place_is}
use Rattle.object_heap.proofs.Messages.{with_region, hold_kept, hold_words, hold_objects, hold_gains}
use Rattle.object_heap.proofs.heap.Heap.hold.Goals as goal

pub invariant_of-self-2 : goal.invariant_of-self-2
invariant_of-self-2 c =
    let from_row = span_row (seen_of c.self.inside) c.args.from (subst (λ (h : Layout). HasPlaces h c.args.from) (sym c.self.view_is) c.requires) in
    let from_place = place_is (seen_of c.self.inside) c.args.from.key c.args.from.at c.place-source.result from_row.0 from_row.1 (subst (λ (h : Layout). c.place-source.result ≡ base_of h c.args.from.key + c.args.from.at) (sym c.self.view_is) c.place-source.ensures) in
    let holds = c.in_ok-held.ensures in
    let count : c.in-Some.copies ≡ c.self.inside.copies + 1 = c.in-Some.ensures.1 in
    hold_kept c.self.inside c.hold.new.region c.in-Some.copies c.self.invariant from_row.0 c.args.from from_row.1 from_row.2 c.requires.some c.place-source.result from_place c.in_ok-held.held holds.len holds.first.free holds.holds count holds.ranges

pub returns-clause-words : goal.returns-clause-words
returns-clause-words c =
    let from_row = span_row (seen_of c.self.inside) c.args.from (subst (λ (h : Layout). HasPlaces h c.args.from) (sym c.self.view_is) c.requires) in
    let from_place = place_is (seen_of c.self.inside) c.args.from.key c.args.from.at c.place-source.result from_row.0 from_row.1 (subst (λ (h : Layout). c.place-source.result ≡ base_of h c.args.from.key + c.args.from.at) (sym c.self.view_is) c.place-source.ensures) in
    let holds = c.in_ok-held.ensures in
    let count : c.in-Some.copies ≡ c.self.inside.copies + 1 = c.in-Some.ensures.1 in
    subst (λ (h : Layout). copy_words (seen_of (with_region c.self.inside c.hold.new.region c.in-Some.copies)) c.in_ok-held.held ≡ span_words h c.args.from) c.self.view_is
    (hold_words c.self.inside c.hold.new.region c.in-Some.copies c.self.invariant from_row.0 c.args.from from_row.1 from_row.2 c.requires.some c.place-source.result from_place c.in_ok-held.held holds.len holds.first.free holds.holds count)

pub returns-clause-gains : goal.returns-clause-gains
returns-clause-gains c =
    let from_row = span_row (seen_of c.self.inside) c.args.from (subst (λ (h : Layout). HasPlaces h c.args.from) (sym c.self.view_is) c.requires) in
    let from_place = place_is (seen_of c.self.inside) c.args.from.key c.args.from.at c.place-source.result from_row.0 from_row.1 (subst (λ (h : Layout). c.place-source.result ≡ base_of h c.args.from.key + c.args.from.at) (sym c.self.view_is) c.place-source.ensures) in
    let holds = c.in_ok-held.ensures in
    let count : c.in-Some.copies ≡ c.self.inside.copies + 1 = c.in-Some.ensures.1 in
    subst (λ (h : Layout). GainsCopy h (seen_of (with_region c.self.inside c.hold.new.region c.in-Some.copies)) c.in_ok-held.held) c.self.view_is
    (hold_gains c.self.inside c.hold.new.region c.in-Some.copies c.self.invariant from_row.0 c.args.from from_row.1 from_row.2 c.requires.some c.place-source.result from_place c.in_ok-held.held holds.len holds.first.free holds.holds count)

pub returns-clause-objects : goal.returns-clause-objects
returns-clause-objects c =
    let from_row = span_row (seen_of c.self.inside) c.args.from (subst (λ (h : Layout). HasPlaces h c.args.from) (sym c.self.view_is) c.requires) in
    let from_place = place_is (seen_of c.self.inside) c.args.from.key c.args.from.at c.place-source.result from_row.0 from_row.1 (subst (λ (h : Layout). c.place-source.result ≡ base_of h c.args.from.key + c.args.from.at) (sym c.self.view_is) c.place-source.ensures) in
    let holds = c.in_ok-held.ensures in
    let count : c.in-Some.copies ≡ c.self.inside.copies + 1 = c.in-Some.ensures.1 in
    subst (λ (h : Layout). KeepsObjects h (seen_of (with_region c.self.inside c.hold.new.region c.in-Some.copies))) c.self.view_is
    (hold_objects c.self.inside c.hold.new.region c.in-Some.copies c.self.invariant from_row.0 c.args.from from_row.1 from_row.2 c.requires.some c.place-source.result from_place c.in_ok-held.held holds.len holds.first.free holds.holds count)
