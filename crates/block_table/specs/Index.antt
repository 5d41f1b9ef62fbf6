-- The index: the key of each object of each owner.
use Rattle.std.specs.Prelude.{◌≡◌, ℕ, Option}
use Rattle.mpc_values.specs.declared.values.Obj.{Obj}
use Rattle.mpc_values.specs.declared.values.Obj.TheVariants.{Glob, Dyn}
use Rattle.mpc_values.specs.declared.owners.Owner.{Owner}
use Rattle.block_table.specs.Places.{Grid, key_at, IsThere, line_of}

-- The lines of static variables, and those of the objects that tasks made.
pub record Lines : Type 0 where
  pub globs : Grid
  pub dyns : Grid

-- the key of an object, by its number among the static variables or among the objects made
unfoldable pub indexed : Lines → Owner → Obj → Option ℕ
indexed lines owner (Glob variable) = key_at lines.globs (line_of owner) variable
indexed lines owner (Dyn made) = key_at lines.dyns (line_of owner) made

-- the object has a place in the index
abbrev pub HasPlace : Lines → Owner → Obj → Type 0
HasPlace lines owner (Glob variable) = IsThere lines.globs (line_of owner) variable
HasPlace lines owner (Dyn made) = IsThere lines.dyns (line_of owner) made

-- the two names are of one object of one owner
abbrev pub IsSame : Owner → Obj → Owner → Obj → Type 0
IsSame owner obj other another = (owner ≡ other) × (obj ≡ another)

-- One object has this key, and every other the one that it had.
pub record SetsKey (old new : Lines) (owner : Owner) (obj : Obj) (key : Option ℕ) : Type 0 where
  pub here : indexed new owner obj ≡ key
  pub others : (other : Owner) (another : Obj) → (IsSame other another owner obj → ⊥) → indexed new other another ≡ indexed old other another
