-- Entries: a row with the marks of its places.
use Rattle.std.specs.Prelude.{◌≡◌, ◌⊎◌, ℕ, ◌<◌, ◌≤◌, if◌then◌else◌, slice_index_or, List, [], ◌∷◌, length, replicate, vec_capacity}
use Rattle.block_table.specs.declared.rows.Mark.{Mark}
use Rattle.block_table.specs.declared.rows.Mark.TheVariants.{Free}
use Rattle.block_table.specs.declared.entries.Entry.{Entry}
use Rattle.block_table.specs.Rows.{Live, is_in}

-- the marks of so many places: all Free where none is written down
abbrev pub marks_shown : ℕ → List Mark → List Mark
marks_shown len [] = replicate len Free
marks_shown len (m ∷ marks) = m ∷ marks

abbrev pub live_of : Entry → Live
live_of e = record { row = e.row; marks = marks_shown e.row.len e.marks.items }

-- the marks of an entry
abbrev pub marks_of : Entry → List Mark
marks_of e = marks_shown e.row.len e.marks.items

-- Marks are written down for none or for all places, and there is room to do so.
pub record IsRoomy (e : Entry) : Type 0 where
  pub all : (length e.marks.items ≡ 0) ⊎ (length e.marks.items ≡ e.row.len)
  pub room : e.row.len ≤ vec_capacity e.marks

-- The marks of a range of the entry's places are changed, and nothing else is.
pub record Remarked (old new : Entry) (at len : ℕ) (change : Mark → Mark) : Type 0 where
  pub row : new.row ≡ old.row
  pub marks : (p : ℕ) → p < old.row.len → slice_index_or (marks_of new) p Free ≡ (if is_in at len p then change (slice_index_or (marks_of old) p Free) else slice_index_or (marks_of old) p Free)
  pub end : length (marks_of new) ≡ old.row.len
  pub roomy : IsRoomy new
