-- Rows over a region.
use Rattle.std.specs.Prelude.{◌≡◌, ℕ, Some}
use Rattle.block_table.specs.declared.rows.Row.{Row}
use Rattle.block_table.specs.Rows.{Rows, live, row_in}
use Rattle.word_region.specs.Places.{Places, IsHeld}

-- The places of each live row are held.
pub record Agree (rows : Rows) (places : Places) : Type 0 where
  pub held : (key : ℕ) (row : Row) → Some row ≡ row_in (live rows key) → IsHeld places.cells row.base row.len
