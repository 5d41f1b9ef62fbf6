-- Copies of ranges of words inside a region.
use Rattle.std.specs.Prelude.{◌≡◌, ℕ, ◌+◌, ◌-◌, max, if◌then◌else◌, List, length, Option, None}
use Rattle.mpc_values.specs.declared.values.Word.{Word}
use Rattle.word_region.specs.Places.{cell, is_in}

-- The range that begins at the base, which was free and is held now, holds the words of the range at `from`, and every
-- other place is as it was.
pub record Holds (old new : List (Option Word)) (from base len : ℕ) : Type 0 where
  pub cells : (p : ℕ) → cell new p ≡ (if is_in base len p then cell old (from + (p - base)) else cell old p)
  pub end : length new ≡ max (length old) (base + len)

-- The range at `to` holds the words of the copy, whose places are free now, and every other place is as it was.
pub record Lands (old new : List (Option Word)) (base to len : ℕ) : Type 0 where
  pub cells : (p : ℕ) → cell new p ≡ (if is_in base len p then None else (if is_in to len p then cell old (base + (p - to)) else cell old p))
  pub end : length new ≡ length old
