use Rattle.std.proofs.Common.{◌+◌, ◌≤◌, subst, sym}
use Rattle.block_table.specs.Rows.{IsLive, with_send}
use Rattle.object_heap.specs.Layout.{Layout}
use Rattle.object_heap.specs.Kept.{seen_of}
use Rattle.object_heap.specs.Marks.{Remarks}
use Rattle.object_heap.specs.Changes.{KeepsObjects}
use Rattle.object_heap.specs.Copies.{KeepsCopies}
use Rattle.object_heap.proofs.Heaps.{remarks}
use Rattle.object_heap.proofs.Marked.{with_table, marked_kept, marked_objects, marked_copies}
use Rattle.object_heap.proofs.heap.Heap.mark_send.Goals as goal

pub invariant_of-self : goal.invariant_of-self
invariant_of-self c =
    marked_kept c.self.inside c.mark_send.new.self c.args.key c.args.at c.args.len with_send c.self.invariant c.mark_send.ensures
    (subst (λ (h : Layout). IsLive h.rows c.args.key (λ row. c.args.at + c.args.len ≤ row.len)) (sym c.self.view_is) c.requires.within)

pub returns-clause-marks : goal.returns-clause-marks
returns-clause-marks c =
    subst (λ (h : Layout). Remarks h (seen_of (with_table c.self.inside c.mark_send.new.self)) c.args.key c.args.at c.args.len with_send) c.self.view_is
    (remarks (seen_of c.self.inside) (seen_of (with_table c.self.inside c.mark_send.new.self)) c.args.key c.args.at c.args.len with_send c.self.invariant.sound.named c.mark_send.ensures)

pub returns-clause-objects : goal.returns-clause-objects
returns-clause-objects c =
    subst (λ (h : Layout). KeepsObjects h (seen_of (with_table c.self.inside c.mark_send.new.self))) c.self.view_is
    (marked_objects c.self.inside c.mark_send.new.self c.args.key c.args.at c.args.len with_send c.self.invariant c.mark_send.ensures)

pub returns-clause-copies : goal.returns-clause-copies
returns-clause-copies c =
    subst (λ (h : Layout). KeepsCopies h (seen_of (with_table c.self.inside c.mark_send.new.self))) c.self.view_is
    (marked_copies c.self.inside c.mark_send.new.self c.args.key c.args.at c.args.len with_send c.self.invariant c.mark_send.ensures)
