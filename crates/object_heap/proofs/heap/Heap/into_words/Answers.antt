use Rattle.std.proofs.Common.{subst}
use Rattle.block_table.specs.Rows.{rows_of}
use Rattle.object_heap.specs.Layout.{Layout}
use Rattle.object_heap.specs.Kept.{seen_of}
use Rattle.object_heap.specs.Maps.{MapAgrees}
use Rattle.object_heap.proofs.Listed.{map_agrees}
use Rattle.object_heap.proofs.heap.Heap.into_words.Goals as goal

pub returns-clause-map : goal.returns-clause-map
returns-clause-map c =
    subst (λ (h : Layout). MapAgrees (rows_of h.rows) c.into_words.result.items h) c.self.view_is
    (map_agrees (seen_of c.self.inside) c.self.inside.region.ranges c.into_words.result.items c.self.invariant.sound c.into_words.ensures)
