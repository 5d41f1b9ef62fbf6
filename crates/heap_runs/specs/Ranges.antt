-- Ranges of a region that are kept in slots.
use Rattle.std.specs.Prelude.{◌≡◌, ℕ, ◌+◌, ◌<◌, ◌≤◌, List, slice_index_or, count_by, Option, Some, None, is_some}
use Rattle.mpi_copy.specs.declared.Held.{Held}
use Rattle.word_region.specs.Places.{Places, IsHeld}

-- the range in a slot
abbrev pub slot : List (Option Held) → ℕ → Option Held
slot slots k = slice_index_or slots k None

-- The range in each slot has a place and is held, no place lies in the ranges of two slots, and the region gave no others.
pub record AreHeld (places : Places) (slots : List (Option Held)) : Type 0 where
  pub some : (k : ℕ) (h : Held) → slot slots k ≡ Some h → 0 < h.len
  pub held : (k : ℕ) (h : Held) → slot slots k ≡ Some h → IsHeld places.cells h.base h.len
  pub apart : (j k p : ℕ) (a b : Held) → slot slots j ≡ Some a → slot slots k ≡ Some b → a.base ≤ p → p < a.base + a.len → b.base ≤ p → p < b.base + b.len → j ≡ k
  pub count : places.ranges ≡ count_by is_some slots
