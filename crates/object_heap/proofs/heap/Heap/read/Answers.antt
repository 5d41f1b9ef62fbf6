use Rattle.std.proofs.Common.{◌≡◌, ◌∙◌, ◌+◌, ◌<◌, Some, slice_get, subst, sym, ap}
use Rattle.mpc_values.specs.declared.values.Obj.{Obj}
use Rattle.mpc_values.specs.declared.owners.Owner.{Owner}
use Rattle.memory_model.specs.Memory.{Object}
use Rattle.block_table.specs.Rows.{IsLive, IsNamed, live}
use Rattle.word_region.specs.Places.{cell}
use Rattle.object_heap.specs.Layout.{Layout}
use Rattle.object_heap.specs.Kept.{seen_of}
use Rattle.object_heap.specs.Objects.{object_in}
use Rattle.object_heap.specs.Changes.{base_of}
use Rattle.object_heap.proofs.Rows.{live_row}
use Rattle.object_heap.proofs.Heaps.{base_is, read_word}
use Rattle.object_heap.proofs.heap.Heap.read.Goals as goal

pub returns : goal.returns
returns c =
    let row = live_row (λ row. c.args.at < row.len) (live c.self.inside.table c.args.key)
    (subst (λ (h : Layout). IsLive h.rows c.args.key (λ row. c.args.at < row.len)) (sym c.self.view_is) c.requires) in
    let place : c.place-place.result ≡ row.0.base + c.args.at =
    subst (λ (h : Layout). c.place-place.result ≡ base_of h c.args.key + c.args.at) (sym c.self.view_is) c.place-place.ensures
    ∙ ap (λ n. n + c.args.at) (base_is (seen_of c.self.inside) c.args.key row.0 row.1) in
    subst (λ (h : Layout). (owner : Owner) (obj : Obj) (object : Object) → IsNamed h.rows c.args.key owner obj → object_in h owner obj ≡ Some object → Some c.read.result ≡ slice_get object.words c.args.at) c.self.view_is
    (λ owner obj object named is.
    read_word (seen_of c.self.inside) c.args.key row.0 owner obj object c.args.at c.read.result c.self.invariant.sound.named named row.1 is row.2 (c.read.ensures ∙ ap (cell c.self.inside.region.cells) place))
