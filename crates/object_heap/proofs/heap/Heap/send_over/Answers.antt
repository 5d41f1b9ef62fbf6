use Rattle.std.proofs.Common.{◌≡◌, ◌+◌, ◌≤◌, ◌⊎◌, subst, sym}
use Rattle.block_table.specs.Rows.{AreMarked, is_send, is_receive}
use Rattle.object_heap.specs.Layout.{Layout, HasPlaces}
use Rattle.object_heap.specs.Objects.{with_words, span_words}
use Rattle.object_heap.specs.Kept.{seen_of}
use Rattle.object_heap.specs.Changes.{Edits, base_of}
use Rattle.object_heap.specs.Copies.{KeepsCopies}
use Rattle.object_heap.proofs.Heaps.{span_row, place_is}
use Rattle.object_heap.proofs.Messages.{with_region, message_apart, sent_kept, sent_edits, sent_copies}
use Rattle.object_heap.proofs.heap.Heap.send_over.Goals as goal

pub direct-requires-clause-apart : goal.direct-requires-clause-apart
direct-requires-clause-apart c =
    let from_row = span_row (seen_of c.self.inside) c.args.from (subst (λ (h : Layout). HasPlaces h c.args.from) (sym c.self.view_is) c.requires.source) in
    let to_row = span_row (seen_of c.self.inside) c.args.to (subst (λ (h : Layout). HasPlaces h c.args.to) (sym c.self.view_is) c.requires.target) in
    let from_place = place_is (seen_of c.self.inside) c.args.from.key c.args.from.at c.place-source.result from_row.0 from_row.1 (subst (λ (h : Layout). c.place-source.result ≡ base_of h c.args.from.key + c.args.from.at) (sym c.self.view_is) c.place-source.ensures) in
    let to_place = place_is (seen_of c.self.inside) c.args.to.key c.args.to.at c.place-target.result to_row.0 to_row.1 (subst (λ (h : Layout). c.place-target.result ≡ base_of h c.args.to.key + c.args.to.at) (sym c.self.view_is) c.place-target.ensures) in
    subst (λ n. (n + c.args.from.len ≤ c.place-target.result) ⊎ (c.place-target.result + c.args.from.len ≤ n)) (sym from_place)
    (subst (λ n. (from_row.0.base + c.args.from.at + c.args.from.len ≤ n) ⊎ (n + c.args.from.len ≤ from_row.0.base + c.args.from.at)) (sym to_place)
    (message_apart (seen_of c.self.inside) from_row.0 to_row.0 c.args.from c.args.to c.self.invariant.sound from_row.1 to_row.1 from_row.2 to_row.2 c.requires.source.some c.requires.fits
    (subst (λ (h : Layout). AreMarked h.rows c.args.from.key c.args.from.at c.args.from.len is_send) (sym c.self.view_is) c.requires.sent)
    (subst (λ (h : Layout). AreMarked h.rows c.args.to.key c.args.to.at c.args.to.len is_receive) (sym c.self.view_is) c.requires.received)))

pub invariant_of-self : goal.invariant_of-self
invariant_of-self c =
    let from_row = span_row (seen_of c.self.inside) c.args.from (subst (λ (h : Layout). HasPlaces h c.args.from) (sym c.self.view_is) c.requires.source) in
    let to_row = span_row (seen_of c.self.inside) c.args.to (subst (λ (h : Layout). HasPlaces h c.args.to) (sym c.self.view_is) c.requires.target) in
    let from_place = place_is (seen_of c.self.inside) c.args.from.key c.args.from.at c.place-source.result from_row.0 from_row.1 (subst (λ (h : Layout). c.place-source.result ≡ base_of h c.args.from.key + c.args.from.at) (sym c.self.view_is) c.place-source.ensures) in
    let to_place = place_is (seen_of c.self.inside) c.args.to.key c.args.to.at c.place-target.result to_row.0 to_row.1 (subst (λ (h : Layout). c.place-target.result ≡ base_of h c.args.to.key + c.args.to.at) (sym c.self.view_is) c.place-target.ensures) in
    sent_kept c.self.inside c.direct.new.region c.self.invariant from_row.0 to_row.0 c.args.from c.args.to from_row.1 to_row.1 from_row.2 to_row.2 c.requires.fits c.place-source.result c.place-target.result from_place to_place c.direct.ensures.shifts c.direct.ensures.ranges

pub returns-clause-edits : goal.returns-clause-edits
returns-clause-edits c =
    let from_row = span_row (seen_of c.self.inside) c.args.from (subst (λ (h : Layout). HasPlaces h c.args.from) (sym c.self.view_is) c.requires.source) in
    let to_row = span_row (seen_of c.self.inside) c.args.to (subst (λ (h : Layout). HasPlaces h c.args.to) (sym c.self.view_is) c.requires.target) in
    let from_place = place_is (seen_of c.self.inside) c.args.from.key c.args.from.at c.place-source.result from_row.0 from_row.1 (subst (λ (h : Layout). c.place-source.result ≡ base_of h c.args.from.key + c.args.from.at) (sym c.self.view_is) c.place-source.ensures) in
    let to_place = place_is (seen_of c.self.inside) c.args.to.key c.args.to.at c.place-target.result to_row.0 to_row.1 (subst (λ (h : Layout). c.place-target.result ≡ base_of h c.args.to.key + c.args.to.at) (sym c.self.view_is) c.place-target.ensures) in
    subst (λ (h : Layout). Edits h (seen_of (with_region c.self.inside c.direct.new.region c.self.inside.copies)) c.args.to.key (λ object. with_words object c.args.to.at (span_words h c.args.from))) c.self.view_is
    (sent_edits c.self.inside c.direct.new.region c.self.invariant from_row.0 to_row.0 c.args.from c.args.to from_row.1 to_row.1 from_row.2 to_row.2 c.requires.fits c.place-source.result c.place-target.result from_place to_place c.direct.ensures.shifts)

pub returns-clause-copies : goal.returns-clause-copies
returns-clause-copies c =
    let from_row = span_row (seen_of c.self.inside) c.args.from (subst (λ (h : Layout). HasPlaces h c.args.from) (sym c.self.view_is) c.requires.source) in
    let to_row = span_row (seen_of c.self.inside) c.args.to (subst (λ (h : Layout). HasPlaces h c.args.to) (sym c.self.view_is) c.requires.target) in
    let from_place = place_is (seen_of c.self.inside) c.args.from.key c.args.from.at c.place-source.result from_row.0 from_row.1 (subst (λ (h : Layout). c.place-source.result ≡ base_of h c.args.from.key + c.args.from.at) (sym c.self.view_is) c.place-source.ensures) in
    let to_place = place_is (seen_of c.self.inside) c.args.to.key c.args.to.at c.place-target.result to_row.0 to_row.1 (subst (λ (h : Layout). c.place-target.result ≡ base_of h c.args.to.key + c.args.to.at) (sym c.self.view_is) c.place-target.ensures) in
    subst (λ (h : Layout). KeepsCopies h (seen_of (with_region c.self.inside c.direct.new.region c.self.inside.copies))) c.self.view_is
    (sent_copies c.self.inside c.direct.new.region c.self.invariant from_row.0 to_row.0 c.args.from c.args.to from_row.1 to_row.1 from_row.2 to_row.2 c.requires.fits c.place-source.result c.place-target.result from_place to_place c.direct.ensures.shifts)
