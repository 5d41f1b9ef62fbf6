use Rattle.std.proofs.Common.{◌≡◌, length, IsSomeAnd, subst, sym}
use Rattle.mpc_values.specs.declared.values.Obj.{Obj}
use Rattle.mpc_values.specs.declared.owners.Owner.{Owner}
use Rattle.block_table.specs.Rows.{IsNamed}
use Rattle.object_heap.specs.Layout.{Layout}
use Rattle.object_heap.specs.Kept.{seen_of}
use Rattle.object_heap.specs.Objects.{object_in}
use Rattle.object_heap.proofs.Heaps.{named_object}
use Rattle.object_heap.proofs.heap.Heap.row.Goals as goal

pub returns-clause-object : goal.returns-clause-object
returns-clause-object c =
    subst (λ (h : Layout). (owner : Owner) (obj : Obj) → IsNamed h.rows c.args.key owner obj
    → IsSomeAnd (object_in h owner obj) (λ object. (object.kind ≡ c.row.result.kind) × (length object.words ≡ c.row.result.len))) c.self.view_is
    (λ owner obj named. named_object (seen_of c.self.inside) c.args.key c.row.result owner obj c.self.invariant.sound.named named (sym c.row.ensures))
