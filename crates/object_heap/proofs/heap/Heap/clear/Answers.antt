use Rattle.std.proofs.Common.{◌≡◌, ◌∙◌, not, length, Some, IsSomeAnd, subst, sym, ap}
use Rattle.memory_model.specs.Memory.{Object}
use Rattle.memory_model.specs.Marks.{barred_to_stores, is_some_place}
use Rattle.mpc_values.specs.declared.values.Obj.{Obj}
use Rattle.mpc_values.specs.declared.owners.Owner.{Owner}
use Rattle.block_table.specs.Rows.{IsNamed}
use Rattle.object_heap.specs.Layout.{Layout}
use Rattle.object_heap.specs.Kept.{seen_of}
use Rattle.object_heap.specs.Objects.{object_in}
use Rattle.object_heap.specs.Marks.{marks_in}
use Rattle.object_heap.proofs.Heaps.{named_row, named_object}
use Rattle.object_heap.proofs.Marked.{clear_object}
use Rattle.object_heap.proofs.heap.Heap.clear.Goals as goal

pub returns-clause-places : goal.returns-clause-places
returns-clause-places c =
    subst (λ (h : Layout). (owner : Owner) (obj : Obj) (object : Object) → IsNamed h.rows c.args.key owner obj → object_in h owner obj ≡ Some object
    → c.clear.result ≡ not (is_some_place (barred_to_stores (marks_in h)) owner obj 0 (length object.words))) c.self.view_is
    (λ owner obj object named is.
    let row = named_row c.self.inside.table c.args.key owner obj named in
    let size = subst (λ o. IsSomeAnd o (λ x. (x.kind ≡ row.0.kind) × (length x.words ≡ row.0.len))) is
    (named_object (seen_of c.self.inside) c.args.key row.0 owner obj c.self.invariant.sound.named named row.1) in
    clear_object (seen_of c.self.inside) c.args.key row.0 owner obj c.clear.result c.self.invariant.sound named row.1 (λ e. c.clear.ensures.0 e) (λ all. c.clear.ensures.1 all)
    ∙ ap (λ n. not (is_some_place (barred_to_stores (marks_in (seen_of c.self.inside))) owner obj 0 n)) (sym size.1))
