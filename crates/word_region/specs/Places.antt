-- What contracts see of a region: its places by rising number, and which of them are held.
use Rattle.std.specs.Prelude.{◌≡◌, ℕ, ◌+◌, ◌-◌, ◌<◌, ◌≤◌, Bool, true, ◌&&◌, nat_le, nat_lt, max, if◌then◌else◌, List, length, count_by, slice_index_or, slice_get, Option, Some, None, is_some}
use Rattle.mpc_values.specs.declared.values.Word.{Word}
use Rattle.mpc_values.specs.declared.values.Word.TheVariants.{Undef}

-- Each place with the word that it holds, or none where nobody holds it; and how many ranges were taken and not released.
pub record Places : Type 0 where
  pub cells : List (Option Word)
  pub ranges : ℕ

-- the word of a held place; none of a free one, and none past the end
abbrev pub cell : List (Option Word) → ℕ → Option Word
cell cells p = slice_index_or cells p None

-- the place is one of so many from a base on
abbrev pub is_in : ℕ → ℕ → ℕ → Bool
is_in base len p = nat_le base p && nat_lt p (base + len)

-- each place of the range is held
abbrev pub IsHeld : List (Option Word) → ℕ → ℕ → Type 0
IsHeld cells base len = (p : ℕ) → base ≤ p → p < base + len → is_some (cell cells p) ≡ true

-- no place of the range is held; it may reach past the end
abbrev pub IsFree : List (Option Word) → ℕ → ℕ → Type 0
IsFree cells base len = (p : ℕ) → base ≤ p → p < base + len → cell cells p ≡ None

-- The range is free, and no range of its length with a smaller base is.
pub record IsFirstFit (cells : List (Option Word)) (len base : ℕ) : Type 0 where
  pub free : IsFree cells base len
  pub first : (other : ℕ) → other < base → IsFree cells other len → ⊥

-- The places of the range are held and unset, and every other place is as it was.
pub record Takes (old new : List (Option Word)) (base len : ℕ) : Type 0 where
  pub cells : (p : ℕ) → cell new p ≡ (if is_in base len p then Some Undef else cell old p)
  pub end : length new ≡ max (length old) (base + len)

-- The places of the range are free, and every other place is as it was.
pub record Releases (old new : List (Option Word)) (base len : ℕ) : Type 0 where
  pub cells : (p : ℕ) → cell new p ≡ (if is_in base len p then None else cell old p)
  pub end : length new ≡ length old

-- how many places are held
abbrev pub held_of : List (Option Word) → ℕ
held_of cells = count_by is_some cells

-- The places of the range at `to` hold what those of the range at `from` held, and every other place is as it was.
pub record Shifts (old new : List (Option Word)) (from to len : ℕ) : Type 0 where
  pub cells : (p : ℕ) → cell new p ≡ (if is_in to len p then cell old (from + (p - to)) else cell old p)
  pub end : length new ≡ length old

-- The list has a word for each place, and that of each held place is its word.
pub record ShowsHeld (places : Places) (words : List Word) : Type 0 where
  pub end : length words ≡ length places.cells
  pub held : (p : ℕ) → is_some (cell places.cells p) ≡ true → cell places.cells p ≡ slice_get words p
