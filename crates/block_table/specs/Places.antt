-- Where the key of a row stands in the index.
use Rattle.std.specs.Prelude.{◌≡◌, ℕ, ◌+◌, ◌*◌, ◌<◌, ◌&&◌, ◌==◌, if◌then◌else◌, List, [], length, slice_index_or, map, Option, None, Vec}
use Rattle.std.specs.declared.alloc.Global.{Global}
use Rattle.mpc_values.specs.declared.owners.Level.TheVariants.{Core, L1, L2, L3, Numa, Node}
use Rattle.mpc_values.specs.declared.owners.Owner.{Owner}
use Rattle.mpc_values.specs.declared.owners.Owner.TheVariants.{Task, Inst}

-- Lines of keys.
abbrev pub Grid : Type 0
Grid = List (List (Option ℕ))

-- the key at a place of a line
abbrev pub key_at : Grid → ℕ → ℕ → Option ℕ
key_at grid line place = slice_index_or (slice_index_or grid line []) place None

-- the place of the line is there
abbrev pub IsThere : Grid → ℕ → ℕ → Type 0
IsThere grid line place = place < length (slice_index_or grid line [])

-- one place has this key, and every other the one that it had
abbrev pub Sets : Grid → Grid → ℕ → ℕ → Option ℕ → Type 0
Sets old new line place key = (a b : ℕ) → key_at new a b ≡ (if (a == line) && (b == place) then key else key_at old a b)

-- a number for each kind of owner
abbrev pub owner_kind : Owner → ℕ
owner_kind (Task task) = 0
owner_kind (Inst Core id) = 1
owner_kind (Inst L1 id) = 2
owner_kind (Inst L2 id) = 3
owner_kind (Inst L3 id) = 4
owner_kind (Inst Numa id) = 5
owner_kind (Inst Node id) = 6

abbrev pub owner_id : Owner → ℕ
owner_id (Task task) = task
owner_id (Inst level id) = id

-- the line of an owner
abbrev pub line_of : Owner → ℕ
line_of owner = 7 * owner_id owner + owner_kind owner

-- the lines of a vector of vectors
abbrev pub lines_seen : List (Vec (Option ℕ) Global) → Grid
lines_seen lines = map (λ line. line.items) lines

-- the key at a place of such a line
abbrev pub key_in : List (Vec (Option ℕ) Global) → ℕ → ℕ → Option ℕ
key_in lines line place = key_at (lines_seen lines) line place
