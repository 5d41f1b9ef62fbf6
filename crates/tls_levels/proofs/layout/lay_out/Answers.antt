use Rattle.std.proofs.Common.{refl, ap, ◌∙◌, length-set, arith}
use Rattle.std.proofs.lemmas.List.{get_or_read, take_all}
use Rattle.std.proofs.lemmas.List.FromFn.{fill_by_all}
use Rattle.topology.proofs.Ranges.{map-range_next}
use Rattle.tls_levels.specs.Images.{words_in, offset_in}
use Rattle.tls_levels.proofs.ImageLaws.{next_within, totals_next, offset_in-next}
use Rattle.tls_levels.proofs.layout.lay_out.Goals as goal

pub overflow_add-at : goal.overflow_add-at
overflow_add-at c =
    let kind = c.image_number-kind.result in
    let seven = c.loop-shape.invariant.seven in
    let read = get_or_read c.loop-shape.totals.items kind _ (omega arith) c.index-at.ensures 0 in
    let words = c.loop-shape.invariant.words kind c.image_number-kind.ensures.small in
    let within = next_within c.args.shapes.now c.loop-shape.shape-index kind (omega arith) in
    omega (arith, read, words, within, c.requires)

pub loop-shape-preserved : goal.loop-shape-preserved
loop-shape-preserved c =
    let shapes = c.args.shapes.now in
    let i = c.loop-shape.shape-index in
    let kind = c.image_number-kind.result in
    let seven = c.loop-shape.invariant.seven in
    let is = c.image_number-kind.ensures.value in
    let read = get_or_read c.loop-shape.totals.items kind _ (omega arith) c.index-at.ensures 0 in
    record {
      seven = length-set _ _ _ ∙ seven;
      words = λ k h. totals_next shapes i c.loop-shape.totals.items _ kind (omega arith) is (omega arith) read k (c.loop-shape.invariant.words k h);
      starts =
          rw (c.in_ok-push.ensures.items, c.loop-shape.invariant.starts, read, c.loop-shape.invariant.words kind c.image_number-kind.ensures.small, offset_in-next shapes i kind (omega arith) is, map-range_next (offset_in shapes) i) refl;
    }

pub returns-clause-totals : goal.returns-clause-totals
returns-clause-totals c =
    let shapes = c.args.shapes.now in
    let all = take_all c.loop-shape.shape-index shapes (omega arith) in
    fill_by_all (words_in shapes) c.loop-shape.totals.items 7 0 c.loop-shape.invariant.seven (λ k h. c.loop-shape.invariant.words k h ∙ ap (λ s. words_in s k) all)
