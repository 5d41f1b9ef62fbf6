-- What a region keeps.
use Rattle.std.specs.Prelude.{◌≡◌, ◌+◌, ◌≤◌, length, vec_capacity}
use Rattle.word_region.specs.declared.region.Region.TheInside.{Inside}
use Rattle.word_region.specs.Holes.{cells_of, AreLaid}
use Rattle.word_region.specs.Places.{Places, held_of}

abbrev pub seen_of : Inside → Places
seen_of r = record { cells = cells_of r.words.items r.holes.items; ranges = r.ranges }

-- The holes are laid out, and each range that was taken has room for the hole of its release.
pub record IsKept (r : Inside) : Type 0 where
  pub laid : AreLaid r.words.items r.holes.items
  pub held : r.held ≡ held_of (cells_of r.words.items r.holes.items)
  pub room : length r.holes.items + r.ranges ≤ vec_capacity r.holes
