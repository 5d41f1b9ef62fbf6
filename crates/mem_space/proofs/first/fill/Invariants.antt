use Rattle.std.proofs.Common.{◌≡◌, ◌++◌, length, take, drop, Some}
use Rattle.mpc_values.specs.declared.values.Obj.{Obj}
use Rattle.mpc_values.specs.declared.owners.Owner.{Owner}
use Rattle.memory_model.specs.Memory.{Object}
use Rattle.block_table.specs.Rows.{IsNamed}
use Rattle.object_heap.specs.Objects.{object_in}
use Rattle.object_heap.specs.Marks.{KeepsMarks}
use Rattle.object_heap.specs.Copies.{KeepsCopies}
use Rattle.object_heap.specs.Changes.{Puts}
use Rattle.mem_space.proofs.first.fill.Given as goal

abbrev pub invariant-loop-word : goal.invariant-loop-word
invariant-loop-word l = record {
  at : l.at ≡ l.word-index;
  rows : l.heap.rows ≡ l.fn.heap.rows;
  puts : (owner : Owner) (obj : Obj) (object : Object) → IsNamed l.fn.heap.rows l.fn.key owner obj → object_in l.fn.heap owner obj ≡ Some object → length object.words ≡ length l.words
      → Puts l.fn.heap l.heap owner obj (Some (record { kind = object.kind; words = take l.word-index l.words ++ drop l.word-index object.words }));
  marks : KeepsMarks l.fn.heap l.heap;
  copies : KeepsCopies l.fn.heap l.heap;
}
