-- Copies of messages. No list of them is kept: what is said holds of every list of all copies that the heap has.
use Rattle.std.specs.Prelude.{◌≡◌, Some}
use Rattle.memory_model.specs.declared.kinds.Span.{Span}
use Rattle.memory_model.specs.Memory.{Memory}
use Rattle.memory_model.specs.Ranges.{words_at, with_words_at}
use Rattle.block_table.specs.declared.rows.Span as row
use Rattle.mpi_copy.specs.declared.Held.{Held}
use Rattle.object_heap.specs.Objects.{Shows}
use Rattle.object_heap.specs.Marks.{KeepsMarks}
use Rattle.object_heap.specs.Changes.{KeepsObjects}
use Rattle.object_heap.specs.Copies.{copy_words, GainsCopy, LosesCopy}
use Rattle.mem_space.specs.Spaces.{Space}
use Rattle.mem_space.specs.Places.{IsPlaces, Keeps}

-- There is one copy more, which has the words of some places, and nothing else is changed.
pub record Holds (old new : Space) (from : row.Span) (held : Held) : Type 0 where
  pub len : held.len ≡ from.len
  pub words : (m : Memory) (source : Span) → Shows old.heap m → IsPlaces old from source → copy_words new.heap held ≡ words_at m (Some source)
  pub copies : GainsCopy old.heap new.heap held
  pub objects : KeepsObjects old.heap new.heap
  pub marks : KeepsMarks old.heap new.heap
  pub made : new.made ≡ old.made
  pub rest : Keeps old new

-- The first of some places have the words of a copy, which is gone, and nothing else is changed.
pub record Lands (old new : Space) (held : Held) (to : row.Span) : Type 0 where
  pub words : (m : Memory) (target : Span) → Shows old.heap m → IsPlaces old to target → Shows new.heap (with_words_at m (Some target) (copy_words old.heap held))
  pub copies : LosesCopy old.heap new.heap held
  pub marks : KeepsMarks old.heap new.heap
  pub made : new.made ≡ old.made
  pub rest : Keeps old new

-- A copy is gone, and nothing else is changed.
pub record Discards (old new : Space) (held : Held) : Type 0 where
  pub copies : LosesCopy old.heap new.heap held
  pub objects : KeepsObjects old.heap new.heap
  pub marks : KeepsMarks old.heap new.heap
  pub made : new.made ≡ old.made
  pub rest : Keeps old new
