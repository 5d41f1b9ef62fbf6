-- What the tables keep.
use Rattle.std.specs.Prelude.{◌≡◌, ◌<◌, length, map, All}
use Rattle.std.specs.List.{range_with_len}
use Rattle.tls_levels.specs.declared.levels.Levels.TheInside.{Inside}
use Rattle.tls_levels.specs.Images.{words_in, offset_in}
use Rattle.tls_levels.specs.Owners.{owners_of}
use Rattle.tls_levels.specs.Sharing.{Sharing}

abbrev pub seen_of : Inside → Sharing
seen_of a = record { shapes = a.shapes.items; machine = a.machine; cores = a.cores.items }

-- each table holds what its definition says
pub record IsKept (a : Inside) : Type 0 where
  pub there : All (λ core. core < length a.machine) a.cores.items
  pub offsets : a.offsets.items ≡ map (offset_in a.shapes.items) (range_with_len 0 (length a.shapes.items))
  pub totals : a.totals.items ≡ map (words_in a.shapes.items) (range_with_len 0 7)
  pub owners : a.owners.items ≡ owners_of a.machine a.cores.items
