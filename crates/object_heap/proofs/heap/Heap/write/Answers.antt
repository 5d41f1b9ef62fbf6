use Rattle.std.proofs.Common.{◌≡◌, ◌∙◌, ◌+◌, ◌<◌, subst, sym, ap}
use Rattle.memory_model.specs.Access.{with_word}
use Rattle.block_table.specs.Rows.{IsLive, live}
use Rattle.word_region.specs.Places.{Places}
use Rattle.object_heap.specs.Layout.{Layout}
use Rattle.object_heap.specs.Kept.{seen_of}
use Rattle.object_heap.specs.Changes.{Edits, base_of}
use Rattle.object_heap.specs.Copies.{KeepsCopies}
use Rattle.object_heap.proofs.Rows.{live_row}
use Rattle.object_heap.proofs.Heaps.{base_is}
use Rattle.object_heap.proofs.Messages.{with_region, write_edits, write_copies}
use Rattle.object_heap.proofs.heap.Heap.write.Goals as goal

pub returns-clause-edits : goal.returns-clause-edits
returns-clause-edits c =
    let row = live_row (λ row. c.args.at < row.len) (live c.self.inside.table c.args.key)
    (subst (λ (h : Layout). IsLive h.rows c.args.key (λ row. c.args.at < row.len)) (sym c.self.view_is) c.requires) in
    let place : c.place-place.result ≡ row.0.base + c.args.at =
    subst (λ (h : Layout). c.place-place.result ≡ base_of h c.args.key + c.args.at) (sym c.self.view_is) c.place-place.ensures
    ∙ ap (λ n. n + c.args.at) (base_is (seen_of c.self.inside) c.args.key row.0 row.1) in
    subst (λ (h : Layout). Edits h (seen_of (with_region c.self.inside c.write.new.self c.self.inside.copies)) c.args.key (λ object. with_word object c.args.at c.args.word)) c.self.view_is
    (subst (λ (region : Places). Edits (seen_of c.self.inside) (seen_of (with_region c.self.inside region c.self.inside.copies)) c.args.key (λ object. with_word object c.args.at c.args.word)) (sym c.write.ensures)
    (write_edits c.self.inside c.args.key c.args.at c.place-place.result c.args.word c.self.invariant row.0 row.1 row.2 place))

pub returns-clause-copies : goal.returns-clause-copies
returns-clause-copies c =
    let row = live_row (λ row. c.args.at < row.len) (live c.self.inside.table c.args.key)
    (subst (λ (h : Layout). IsLive h.rows c.args.key (λ row. c.args.at < row.len)) (sym c.self.view_is) c.requires) in
    let place : c.place-place.result ≡ row.0.base + c.args.at =
    subst (λ (h : Layout). c.place-place.result ≡ base_of h c.args.key + c.args.at) (sym c.self.view_is) c.place-place.ensures
    ∙ ap (λ n. n + c.args.at) (base_is (seen_of c.self.inside) c.args.key row.0 row.1) in
    subst (λ (h : Layout). KeepsCopies h (seen_of (with_region c.self.inside c.write.new.self c.self.inside.copies))) c.self.view_is
    (subst (λ (region : Places). KeepsCopies (seen_of c.self.inside) (seen_of (with_region c.self.inside region c.self.inside.copies))) (sym c.write.ensures)
    (write_copies c.self.inside c.args.key c.args.at c.place-place.result c.args.word c.self.invariant row.0 row.1 row.2 place))
