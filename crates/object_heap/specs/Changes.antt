-- What calls change of the objects, and what they leave.
use Rattle.std.specs.Prelude.{◌≡◌, ◌≢◌, ℕ, ◌≤◌, length, replicate, Option, Some, None}
use Rattle.mpc_values.specs.declared.values.Obj.{Obj}
use Rattle.mpc_values.specs.declared.owners.Owner.{Owner}
use Rattle.memory_model.specs.declared.kinds.Kind.{Kind}
use Rattle.memory_model.specs.Memory.{Object}
use Rattle.block_table.specs.declared.rows.Row.{Row}
use Rattle.block_table.specs.declared.rows.Span.{Span}
use Rattle.block_table.specs.declared.rows.Mark.TheVariants.{Free}
use Rattle.block_table.specs.Rows.{live, IsNamed, Changes}
use Rattle.block_table.specs.Index.{IsSame}
use Rattle.word_region.specs.Places.{cell, IsFirstFit, Takes, Releases}
use Rattle.object_heap.specs.Layout.{Layout, row_of, IsSpan}
use Rattle.object_heap.specs.Objects.{object_in}

-- An object of an owner is this now, or does not live any more, and every other is as it was.
pub record Puts (old new : Layout) (owner : Owner) (obj : Obj) (object : Option Object) : Type 0 where
  pub here : object_in new owner obj ≡ object
  pub others : (other : Owner) (another : Obj) → (IsSame other another owner obj → ⊥) → object_in new other another ≡ object_in old other another

-- The object of a key is changed so, and nothing else is.
pub record Edits (old new : Layout) (key : ℕ) (change : Object → Object) : Type 0 where
  pub rows : new.rows ≡ old.rows
  pub object : (owner : Owner) (obj : Obj) (object : Object) → IsNamed old.rows key owner obj → object_in old owner obj ≡ Some object
      → Puts old new owner obj (Some (change object))

-- every object is as it was
abbrev pub KeepsObjects : Layout → Layout → Type 0
KeepsObjects old new = (owner : Owner) (obj : Obj) → object_in new owner obj ≡ object_in old owner obj

-- every span is of the object that it was of
abbrev pub KeepsSpans : Layout → Layout → Type 0
KeepsSpans old new = (span : Span) (owner : Owner) (obj : Obj) → IsSpan old span owner obj → IsSpan new span owner obj

-- every span of another key is of the object that it was of
abbrev pub KeepsOtherSpans : Layout → Layout → ℕ → Type 0
KeepsOtherSpans old new key =
    (span : Span) (owner : Owner) (obj : Obj) → span.key ≢ key → IsSpan old span owner obj → IsSpan new span owner obj

-- the first place of a key's row
abbrev pub base_in : Option Row → ℕ
base_in None = 0
base_in (Some row) = row.base

abbrev pub base_of : Layout → ℕ → ℕ
base_of h key = base_in (row_of h key)

-- The key, which was of no live row, is that of a new row without marks. Its places are the first that fit; a row without
-- words begins at 0 and has none.
pub record Adds (old new : Layout) (key : ℕ) (owner : Owner) (obj : Obj) (kind : Kind) (len : ℕ) : Type 0 where
  pub vacant : live old.rows key ≡ None
  pub row : Changes old.rows new.rows key (Some (record {
    row = record { owner = owner; obj = obj; kind = kind; base = base_of new key; len = len };
    marks = replicate len Free;
  }))
  pub first : IsFirstFit old.cells len (base_of new key)
  pub takes : Takes old.cells new.cells (base_of new key) len

-- The key is of no live row any more, and the places of its row are free.
pub record Closes (old new : Layout) (key : ℕ) : Type 0 where
  pub row : Changes old.rows new.rows key None
  pub releases : (row : Row) → row_of old key ≡ Some row → Releases old.cells new.cells row.base row.len

-- All is as it was, but for places at the end that nobody holds.
pub record IsAsBefore (old new : Layout) : Type 0 where
  pub rows : new.rows ≡ old.rows
  pub cells : (p : ℕ) → cell new.cells p ≡ cell old.cells p
  pub end : length old.cells ≤ length new.cells
  pub copies : new.copies ≡ old.copies
