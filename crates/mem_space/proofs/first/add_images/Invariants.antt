use Rattle.std.proofs.Common.{take}
use Rattle.object_heap.specs.Marks.{KeepsMarks}
use Rattle.object_heap.specs.Copies.{KeepsCopies}
use Rattle.mem_space.specs.First.{HasFirst}
use Rattle.mem_space.proofs.first.add_images.Given as goal

abbrev pub invariant-loop-owner : goal.invariant-loop-owner
invariant-loop-owner l = record {
  has : HasFirst l.globals (take l.owner-index l.owners) l.heap;
  marks : KeepsMarks l.fn.heap l.heap;
  copies : KeepsCopies l.fn.heap l.heap;
}
