-- The files that a map from names to contents has.
use Rattle.std.specs.Prelude.{map, string_bytes}
use Rattle.std.specs.FinMap as finite
use Rattle.mpc_base.specs.Told.{Store}
use Rattle.mpc_base.specs.MemFilesSeen.{MemFilesSeen}
use Rattle.mpc_base.specs.declared.mem_files.MemFiles.TheInside.{Inside}

-- the files of a map
abbrev pub store_of : Inside → Store
store_of a = finite.from_entries (map (λ e. (string_bytes e.0, e.1.items)) a.files.entries)

abbrev pub seen_of : Inside → MemFilesSeen
seen_of a = record { store = store_of a; fails = a.fails }
