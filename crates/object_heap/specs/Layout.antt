-- What contracts see of a heap: its rows, its places and its copies.
use Rattle.std.specs.Prelude.{◌≡◌, ◌≢◌, ℕ, ◌+◌, ◌<◌, ◌≤◌, Bool, true, false, List, length, Option, Some}
use Rattle.mpc_values.specs.declared.values.Word.{Word}
use Rattle.mpc_values.specs.declared.values.Obj.{Obj}
use Rattle.mpc_values.specs.declared.owners.Owner.{Owner}
use Rattle.block_table.specs.declared.rows.Row.{Row}
use Rattle.block_table.specs.declared.rows.Mark.TheVariants.{Free}
use Rattle.block_table.specs.declared.rows.Span.{Span}
use Rattle.block_table.specs.Rows.{Rows, live, row_in, IsLive, IsNamed, IsNamedOnce, mark_at}
use Rattle.word_region.specs.Places.{is_in, IsHeld}

-- The live rows by their keys, with the marks of their places; the places of the region, with the word of each held one; and
-- how many copies of messages stand in it.
pub record Layout : Type 0 where
  pub rows : Rows
  pub cells : List (Option Word)
  pub copies : ℕ

-- the row of a key
abbrev pub row_of : Layout → ℕ → Option Row
row_of h key = row_in (live h.rows key)

-- the place of the region is one of the row's
abbrev pub is_in_row : Row → ℕ → Bool
is_in_row row p = is_in row.base row.len p

-- The rows stand for objects: each name has one live row, the places of each row are held and lie within the region, no
-- place is one of two rows, and only places of a row are marked.
pub record IsSound (h : Layout) : Type 0 where
  pub named : IsNamedOnce h.rows
  pub held : (key : ℕ) (row : Row) → row_of h key ≡ Some row → IsHeld h.cells row.base row.len
  pub within : (key : ℕ) (row : Row) → row_of h key ≡ Some row → row.base + row.len ≤ length h.cells
  pub apart : (key other : ℕ) (row second : Row) → key ≢ other → row_of h key ≡ Some row → row_of h other ≡ Some second
      → (p : ℕ) → is_in_row row p ≡ true → is_in_row second p ≡ false
  pub marks : (key : ℕ) (row : Row) → row_of h key ≡ Some row → (p : ℕ) → row.len ≤ p → mark_at h.rows key p ≡ Free

-- The span is of a live row, has a place, and lies within the row.
pub record HasPlaces (h : Layout) (span : Span) : Type 0 where
  pub some : 0 < span.len
  pub within : IsLive h.rows span.key (λ row. span.at + span.len ≤ row.len)

-- The span is of the row of this object of this owner.
pub record IsSpan (h : Layout) (span : Span) (owner : Owner) (obj : Obj) : Type 0 where
  pub named : IsNamed h.rows span.key owner obj
  pub places : HasPlaces h span
