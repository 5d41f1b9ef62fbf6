-- What contracts see of a table: the live rows by their keys, each with the marks of its places.
use Rattle.std.specs.Prelude.{◌≡◌, ◌≢◌, ℕ, ◌+◌, ◌-◌, ◌<◌, ◌≤◌, Bool, true, false, ◌&&◌, nat_le, nat_lt, if◌then◌else◌, List, slice_index_or, Option, Some, None, IsSomeAnd, filter_map}
use Rattle.mpc_values.specs.declared.values.Obj.{Obj}
use Rattle.mpc_values.specs.declared.owners.Owner.{Owner}
use Rattle.block_table.specs.declared.rows.Row.{Row}
use Rattle.block_table.specs.declared.rows.Mark.{Mark}
use Rattle.block_table.specs.declared.rows.Mark.TheVariants.{Free, Sends, Receive}

-- A live row, and the mark of each of its places.
pub record Live : Type 0 where
  pub row : Row
  pub marks : List Mark

-- The row of each key from 0 on, or none where the key is of no live row.
abbrev pub Rows : Type 0
Rows = List (Option Live)

-- the live row of a key
abbrev pub live : Rows → ℕ → Option Live
live rows key = slice_index_or rows key None

-- the key is of a live row, of which this holds
abbrev pub IsLive : Rows → ℕ → (Row → Type 0) → Type 0
IsLive rows key P = IsSomeAnd (live rows key) (λ l. P l.row)

-- the key is of the row of this object of this owner
abbrev pub IsNamed : Rows → ℕ → Owner → Obj → Type 0
IsNamed rows key owner obj = IsLive rows key (λ row. (row.owner ≡ owner) × (row.obj ≡ obj))

-- no live row is of this object of this owner
abbrev pub IsNoName : Rows → Owner → Obj → Type 0
IsNoName rows owner obj = (key : ℕ) → IsNamed rows key owner obj → ⊥

-- an object of an owner has one live row at most
abbrev pub IsNamedOnce : Rows → Type 0
IsNamedOnce rows = (key other : ℕ) (owner : Owner) (obj : Obj) → IsNamed rows key owner obj → IsNamed rows other owner obj → key ≡ other

-- the mark of a place; that of a place that is not there is Free
abbrev pub mark_in : Option Live → ℕ → Mark
mark_in None p = Free
mark_in (Some l) p = slice_index_or l.marks p Free

-- the mark of a place of a key's row
abbrev pub mark_at : Rows → ℕ → ℕ → Mark
mark_at rows key p = mark_in (live rows key) p

-- The key has this, and every other key what it had.
pub record Changes (old new : Rows) (key : ℕ) (slot : Option Live) : Type 0 where
  pub changed : live new key ≡ slot
  pub others : (other : ℕ) → other ≢ key → live new other ≡ live old other

-- the place is one of so many from a number on
abbrev pub is_in : ℕ → ℕ → ℕ → Bool
is_in at len p = nat_le at p && nat_lt p (at + len)

-- the row of a key
abbrev pub row_in : Option Live → Option Row
row_in None = None
row_in (Some l) = Some l.row

-- The marks of the places of a range are changed, and nothing else is.
pub record Marks (old new : Rows) (key at len : ℕ) (change : Mark → Mark) : Type 0 where
  pub marks : (p : ℕ) → mark_at new key p ≡ (if is_in at len p then change (mark_at old key p) else mark_at old key p)
  pub row : row_in (live new key) ≡ row_in (live old key)
  pub others : (other : ℕ) → other ≢ key → live new other ≡ live old other

-- one send more
abbrev pub with_send : Mark → Mark
with_send Free = Sends 1
with_send (Sends n) = Sends (n + 1)
with_send Receive = Receive

-- one send less; the place is free after the last
abbrev pub without_send : Mark → Mark
without_send Free = Free
without_send (Sends n) = if nat_lt 1 n then Sends (n - 1) else Free
without_send Receive = Receive

abbrev pub with_receive : Mark → Mark
with_receive mark = Receive

abbrev pub without_receive : Mark → Mark
without_receive mark = Free

-- another send may mark the place: no receive does, and so many sends do that one more can be counted
abbrev pub may_send : Mark → Bool
may_send Free = true
may_send (Sends n) = nat_lt n 4294967295
may_send Receive = false

abbrev pub is_free : Mark → Bool
is_free Free = true
is_free (Sends n) = false
is_free Receive = false

abbrev pub is_send : Mark → Bool
is_send Free = false
is_send (Sends n) = true
is_send Receive = false

abbrev pub is_receive : Mark → Bool
is_receive Free = false
is_receive (Sends n) = false
is_receive Receive = true

-- the mark of each place of a range passes a test
abbrev pub AreMarked : Rows → ℕ → ℕ → ℕ → (Mark → Bool) → Type 0
AreMarked rows key at len test = (p : ℕ) → at ≤ p → p < at + len → test (mark_at rows key p) ≡ true

-- the rows alone, by rising key
abbrev pub rows_of : Rows → List Row
rows_of rows = filter_map row_in rows
