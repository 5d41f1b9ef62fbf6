-- What the outside tells of itself: the files of a store, and the bytes that a sink took.
use Rattle.std.specs.Prelude.{◌≡◌, ℕ, List, ◌++◌, take, Option, Some, None}
use Rattle.std.specs.Ordering.{nat_cmp}
use Rattle.std.specs.Cmp.Lexicographic.{slice_cmp}
use Rattle.std.specs.FinMap as map

-- the contents of files by the bytes of their names
abbrev pub Store : Type 0
Store = map.FinMap (slice_cmp nat_cmp) (List ℕ)

-- the content of a file, where there is one of that name
abbrev pub content_of : Store → List ℕ → Option (List ℕ)
content_of store name = map.get store name

-- the sink holds these bytes more, where it tells its bytes
abbrev pub Took : Option (List ℕ) → List ℕ → Option (List ℕ) → Type 0
Took None piece after = after ≡ None
Took (Some before) piece after = after ≡ Some (before ++ piece)

-- the sink holds a prefix of the piece more, where it tells its bytes
abbrev pub TookPrefix : Option (List ℕ) → List ℕ → Option (List ℕ) → Type 0
TookPrefix None piece after = after ≡ None
TookPrefix (Some before) piece after = (n : ℕ) × (after ≡ Some (before ++ take n piece))
