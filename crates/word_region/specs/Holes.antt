-- The holes of a vector of words.
use Rattle.std.specs.Prelude.{◌≡◌, ℕ, ◌+◌, ◌-◌, ◌<◌, ◌≤◌, max, Bool, false, not, ◌&&◌, ◌||◌, if◌then◌else◌, List, [], ◌∷◌, length, slice_index_or, Option, Some, None}
use Rattle.std.specs.List.{list_any}
use Rattle.mpc_values.specs.declared.values.Word.{Word}
use Rattle.mpc_values.specs.declared.values.Word.TheVariants.{Undef}
use Rattle.word_region.specs.declared.holes.Hole.{Hole}
use Rattle.word_region.specs.Places.{is_in}

-- the place lies in the hole
abbrev pub has_place : ℕ → Hole → Bool
has_place p h = is_in h.base h.len p

-- the place lies in one of the holes
unfoldable pub is_in_hole : List Hole → ℕ → Bool
is_in_hole holes p = list_any (has_place p) holes

-- The holes stand by rising base in the places from `low` on, each has a place, and behind each, and so between two
-- neighbours, there is a place below `high` that lies in none.
abbrev pub Lies : ℕ → List Hole → ℕ → Type 0
Lies low [] high = Unit {0}
Lies low (h ∷ rest) high = (low ≤ h.base) × ((0 < h.len) × ((h.base + h.len < high) × Lies (h.base + h.len + 1) rest high))

-- the word of a place that lies in no hole
abbrev pub shown : List Hole → ℕ → Word → Option Word
shown holes p word = if is_in_hole holes p then None else Some word

-- the words from a place on, none for each that lies in a hole
unfoldable pub cells_from : List Hole → ℕ → List Word → List (Option Word)
cells_from holes p [] = []
cells_from holes p (word ∷ rest) = shown holes p word ∷ cells_from holes (p + 1) rest

-- the words of a vector with these holes
abbrev pub cells_of : List Word → List Hole → List (Option Word)
cells_of words holes = cells_from holes 0 words

-- all holes lie within the vector, with a held place between neighbours
abbrev pub AreLaid : List Word → List Hole → Type 0
AreLaid words holes = Lies 0 holes (length words + 1)

-- what stands for a hole past the end of a list of holes
abbrev pub no_hole : Hole
no_hole = record { base = 0; len = 0 }

-- the hole of this number, counted from 0
abbrev pub hole_at : List Hole → ℕ → Hole
hole_at holes k = slice_index_or holes k no_hole

-- The hole of this number is the first with so many places.
pub record IsFirstWith (len : ℕ) (holes : List Hole) (k : ℕ) : Type 0 where
  pub there : k < length holes
  pub fits : len ≤ (hole_at holes k).len
  pub shorter : (j : ℕ) → j < k → (hole_at holes j).len < len

-- no hole has so many places
abbrev pub IsNoneWith : ℕ → List Hole → Type 0
IsNoneWith len holes = (j : ℕ) → j < length holes → (hole_at holes j).len < len

-- The words of the range are unset, and every other word is as it was.
pub record Unsets (old new : List Word) (base len : ℕ) : Type 0 where
  pub words : (p : ℕ) → p < length new → slice_index_or new p Undef ≡ (if is_in base len p then Undef else slice_index_or old p Undef)
  pub end : length new ≡ max (length old) (base + len)

-- The places of the range are in no hole, and every other place is in one where it was.
abbrev pub LeavesHoles : List Hole → List Hole → ℕ → ℕ → Type 0
LeavesHoles old new base len = (p : ℕ) → is_in_hole new p ≡ (is_in_hole old p && not (is_in base len p))

-- The places of the range are in a hole, and every other place is in one where it was.
abbrev pub JoinsHoles : List Hole → List Hole → ℕ → ℕ → Type 0
JoinsHoles old new base len = (p : ℕ) → is_in_hole new p ≡ (is_in_hole old p || is_in base len p)

-- The range is put into the holes, which are all below `high`.
pub record Put (old new : List Hole) (base len high : ℕ) : Type 0 where
  pub joins : JoinsHoles old new base len
  pub laid : Lies 0 new high

-- no place of the range is in a hole
abbrev pub IsOutside : List Hole → ℕ → ℕ → Type 0
IsOutside holes base len = (p : ℕ) → base ≤ p → p < base + len → is_in_hole holes p ≡ false

-- So many holes begin before the place, and the others do not.
pub record IsPlace (base : ℕ) (holes : List Hole) (k : ℕ) : Type 0 where
  pub within : k ≤ length holes
  pub before : (j : ℕ) → j < k → (hole_at holes j).base < base
  pub behind : (j : ℕ) → k ≤ j → j < length holes → base ≤ (hole_at holes j).base

-- The words of the range at `to` are those that stood in the range at `from`, and every other word is as it was.
pub record Copies (old new : List Word) (from to len : ℕ) : Type 0 where
  pub copied : (k : ℕ) (d : Word) → to ≤ k → k < to + len → slice_index_or new k d ≡ slice_index_or old (from + (k - to)) d
  pub below : (k : ℕ) (d : Word) → k < to → slice_index_or new k d ≡ slice_index_or old k d
  pub above : (k : ℕ) (d : Word) → to + len ≤ k → slice_index_or new k d ≡ slice_index_or old k d
  pub end : length new ≡ length old
