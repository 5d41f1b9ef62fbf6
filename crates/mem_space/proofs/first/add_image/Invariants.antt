use Rattle.std.proofs.Common.{◌≡◌, List}
use Rattle.mpc_values.specs.declared.owners.Owner.{Owner}
use Rattle.object_heap.specs.Marks.{KeepsMarks}
use Rattle.object_heap.specs.Copies.{KeepsCopies}
use Rattle.mem_space.specs.First.{HasFirst}
use Rattle.mem_space.proofs.Images.{HasSome}
use Rattle.mem_space.proofs.first.add_image.Given as goal

abbrev pub invariant-loop-var : goal.invariant-loop-var
invariant-loop-var l = record {
  number : l.number ≡ l.var-index;
  has : (before : List Owner) → HasFirst l.globals before l.fn.heap → HasSome l.globals before l.owner l.var-index l.heap;
  marks : KeepsMarks l.fn.heap l.heap;
  copies : KeepsCopies l.fn.heap l.heap;
}
