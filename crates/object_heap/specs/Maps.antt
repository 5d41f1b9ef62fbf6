-- When a list of rows and a list of words stand for the objects of a heap.
use Rattle.std.specs.Prelude.{◌≡◌, ℕ, ◌+◌, ◌<◌, ◌≤◌, List, length, take, drop, slice_get, Some, IsSomeAnd}
use Rattle.mpc_values.specs.declared.values.Word.{Word}
use Rattle.mpc_values.specs.declared.values.Obj.{Obj}
use Rattle.mpc_values.specs.declared.owners.Owner.{Owner}
use Rattle.memory_model.specs.Memory.{Object}
use Rattle.block_table.specs.declared.rows.Row.{Row}
use Rattle.object_heap.specs.Layout.{Layout}
use Rattle.object_heap.specs.Objects.{object_in}

-- the row is that of this object
abbrev pub IsRowOf : Row → Owner → Obj → Type 0
IsRowOf row owner obj = (row.owner ≡ owner) × (row.obj ≡ obj)

-- the place is one of the row
abbrev pub IsIn : ℕ → Row → Type 0
IsIn place row = (row.base ≤ place) × (place < row.base + row.len)

-- no place is one of both rows; a row without places has none
abbrev pub AreRowsApart : Row → Row → Type 0
AreRowsApart a b = (place : ℕ) → IsIn place a → IsIn place b → ⊥

-- The rows and the words stand for the heap's objects: there is one row for each live object and no other, with its length;
-- the ranges of two rows have no place in common; and each place holds the object's word.
pub record MapAgrees (rows : List Row) (words : List Word) (h : Layout) : Type 0 where
  pub each : (owner : Owner) (obj : Obj) (object : Object) → object_in h owner obj ≡ Some object
      → (i : ℕ) × (row : Row) × (slice_get rows i ≡ Some row) × IsRowOf row owner obj
  pub live : (i : ℕ) (row : Row) → slice_get rows i ≡ Some row
      → IsSomeAnd (object_in h row.owner row.obj) (λ object. (length object.words ≡ row.len) × (take row.len (drop row.base words) ≡ object.words))
  pub within : (i : ℕ) (row : Row) → slice_get rows i ≡ Some row → row.base + row.len ≤ length words
  pub one : (i j : ℕ) (row other : Row) → i < j → slice_get rows i ≡ Some row → slice_get rows j ≡ Some other
      → (IsRowOf other row.owner row.obj → ⊥) × AreRowsApart row other
