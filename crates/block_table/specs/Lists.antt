-- Changes of lists of marks.
use Rattle.std.specs.Prelude.{◌≡◌, ℕ, ◌+◌, ◌<◌, ◌≤◌, Bool, true, if◌then◌else◌, List, length, slice_index_or}
use Rattle.block_table.specs.declared.rows.Mark.{Mark}
use Rattle.block_table.specs.declared.rows.Mark.TheVariants.{Free}
use Rattle.block_table.specs.Rows.{is_in}

-- The marks of a range are changed, and every other is as it was.
pub record Changed (old new : List Mark) (at len : ℕ) (change : Mark → Mark) : Type 0 where
  pub marks : (p : ℕ) → p < length old → slice_index_or new p Free ≡ (if is_in at len p then change (slice_index_or old p Free) else slice_index_or old p Free)
  pub end : length new ≡ length old

-- each mark of a range passes a test
abbrev pub AllAre : List Mark → ℕ → ℕ → (Mark → Bool) → Type 0
AllAre marks at len test = (p : ℕ) → at ≤ p → p < at + len → test (slice_index_or marks p Free) ≡ true
