-- Places of objects, by their rows' keys, their marks, and what calls leave as it is.
use Rattle.std.specs.Prelude.{◌≡◌, ◌≢◌, ℕ, ◌+◌, ◌<◌, ◌≤◌, Bool, true, if◌then◌else◌, is_some, Ok, Some}
use Rattle.mpc_values.specs.declared.values.Word.{Word}
use Rattle.mpc_values.specs.declared.values.Word.TheVariants.{Ptr}
use Rattle.mpc_values.specs.declared.values.Obj.{Obj}
use Rattle.mpc_values.specs.declared.owners.Owner.{Owner}
use Rattle.memory_model.specs.declared.kinds.Span.{Span}
use Rattle.memory_model.specs.Memory.{Memory}
use Rattle.memory_model.specs.Marks.{Places}
use Rattle.memory_model.specs.Ranges.{span_of, words_at, with_words_at}
use Rattle.block_table.specs.declared.rows.Span as row
use Rattle.block_table.specs.declared.rows.Mark.{Mark}
use Rattle.block_table.specs.declared.rows.Mark.TheVariants.{Free, Sends, Receive}
use Rattle.block_table.specs.Rows.{is_in}
use Rattle.block_table.specs.Index.{IsSame}
use Rattle.object_heap.specs.Layout.{IsSpan}
use Rattle.object_heap.specs.Objects.{object_in, Shows}
use Rattle.object_heap.specs.Marks.{mark_of, KeepsMarks}
use Rattle.object_heap.specs.Changes as heap
use Rattle.object_heap.specs.Changes.{KeepsObjects}
use Rattle.object_heap.specs.Copies.{KeepsCopies}
use Rattle.mem_space.specs.Spaces.{Space, made_in, owner_for}

-- the part of a row is these places of the object that the row is of
pub record IsPlaces (s : Space) (span : row.Span) (places : Span) : Type 0 where
  pub there : IsSpan s.heap span places.owner places.obj
  pub at : span.at ≡ places.at
  pub count : span.len ≡ places.count

-- the object of this name lives
abbrev pub Lives : Space → Owner → Obj → Type 0
Lives s owner obj = is_some (object_in s.heap owner obj) ≡ true

-- Each place of a span has a mark that passes a test.
pub record IsMarked (s : Space) (span : row.Span) (test : Mark → Bool) : Type 0 where
  pub places : Span
  pub there : IsPlaces s span places
  pub marked : (p : ℕ) → places.at ≤ p → p < places.at + places.count → test (mark_of s.heap places.owner places.obj p) ≡ true

-- how many sends have a place
abbrev pub sends : Mark → ℕ
sends Free = 0
sends (Sends n) = n
sends Receive = 0

-- No place that a word names has as many send marks as can be counted.
abbrev pub CanCount : Space → ℕ → Word → ℕ → Type 0
CanCount s task at count = (obj : Obj) (place p : ℕ) → at ≡ Ptr obj place → place ≤ p → p < place + count → sends (mark_of s.heap (owner_for s.sharing task obj) obj p) < 4294967295

-- What every call leaves: who shares variables, the quota, and each span of an object that lives still.
pub record Keeps (old new : Space) : Type 0 where
  pub sharing : new.sharing ≡ old.sharing
  pub quota : new.quota ≡ old.quota
  pub spans : (span : row.Span) (places : Span) → IsPlaces old span places → Lives new places.owner places.obj → IsPlaces new span places

-- All is as it was, but for places behind all others that nobody holds.
pub record IsAsBefore (old new : Space) : Type 0 where
  pub places : heap.IsAsBefore old.heap new.heap
  pub objects : KeepsObjects old.heap new.heap
  pub sharing : new.sharing ≡ old.sharing
  pub quota : new.quota ≡ old.quota
  pub made : new.made ≡ old.made

-- What an access of a task leaves: marks, copies of messages, and how many objects the others made.
pub record AccessKeeps (old new : Space) (task : ℕ) : Type 0 where
  pub rest : Keeps old new
  pub marks : KeepsMarks old.heap new.heap
  pub copies : KeepsCopies old.heap new.heap
  pub made : (other : ℕ) → other ≢ task → made_in new other ≡ made_in old other

-- The marks of some places are changed, and nothing else is.
pub record Remarks (old new : Space) (places : Span) (change : Mark → Mark) : Type 0 where
  pub here : (p : ℕ) → mark_of new.heap places.owner places.obj p ≡ (if is_in places.at places.count p then change (mark_of old.heap places.owner places.obj p) else mark_of old.heap places.owner places.obj p)
  pub others : (owner : Owner) (obj : Obj) (p : ℕ) → (IsSame owner obj places.owner places.obj → ⊥) → mark_of new.heap owner obj p ≡ mark_of old.heap owner obj p
  pub objects : KeepsObjects old.heap new.heap
  pub copies : KeepsCopies old.heap new.heap
  pub made : new.made ≡ old.made
  pub rest : Keeps old new

-- The places that a word names for a task are named without a fault, in every memory that the space showed, and the
-- span is of them; their marks are changed, and nothing else is.
pub record Pends (old new : Space) (task : ℕ) (at : Word) (count : ℕ) (barred : Places) (change : Mark → Mark) (span : row.Span) : Type 0 where
  pub places : Span
  pub named : (m : Memory) → Shows old.heap m → span_of (owner_for old.sharing task) barred m at count ≡ Ok (Some places)
  pub there : IsPlaces new span places
  pub len : span.len ≡ count
  pub marks : Remarks old new places change

-- The first of some places have the words of other places, and nothing else is changed.
pub record SendsOver (old new : Space) (from to : row.Span) : Type 0 where
  pub words : (m : Memory) (source target : Span) → Shows old.heap m → IsPlaces old from source → IsPlaces old to target → Shows new.heap (with_words_at m (Some target) (words_at m (Some source)))
  pub marks : KeepsMarks old.heap new.heap
  pub copies : KeepsCopies old.heap new.heap
  pub made : new.made ≡ old.made
  pub rest : Keeps old new
