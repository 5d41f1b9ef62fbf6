-- What the tables are to those who call them: the variables, the machine and the cores of the tasks.
use Rattle.std.specs.Prelude.{◌≡◌, ℕ, List, map, slice_index, Option}
use Rattle.mpc_values.specs.declared.owners.Level.{Level}
use Rattle.mpc_values.specs.declared.owners.Owner.{Owner}
use Rattle.mpc_values.specs.declared.owners.StaticVar.{StaticVar}
use Rattle.topology.specs.declared.core_numbers.CoreNumbers.{CoreNumbers}
use Rattle.tls_levels.specs.declared.shapes.VarShape.{VarShape}
use Rattle.tls_levels.specs.Images.{shape_of, level_at, len_at, image_number, words_in, offset_in}
use Rattle.tls_levels.specs.Owners.{owner_at, owner_level, owners_of}

-- The shapes of the variables by rising number, the cores of the machine, and the core of each task.
pub record Sharing : Type 0 where
  pub shapes : List VarShape
  pub machine : List CoreNumbers
  pub cores : List ℕ

abbrev pub sharing_of : List StaticVar → List CoreNumbers → List ℕ → Sharing
sharing_of globals machine cores = record { shapes = map shape_of globals; machine = machine; cores = cores }

-- the level of a variable, none for a private one
abbrev pub level_of : Sharing → ℕ → Option Level
level_of s var = level_at s.shapes var

-- how many words a variable has
abbrev pub len_of : Sharing → ℕ → ℕ
len_of s var = len_at s.shapes var

-- whose copy of a variable a task touches: its own where the variable has no level, else that of the
-- instance of the level that the task's core is in
abbrev pub owner_in : Sharing → ℕ → ℕ → Owner
owner_in s task var = owner_at s.machine (level_of s var) task (slice_index s.cores task)

-- where a variable begins in its image
abbrev pub offset_of : Sharing → ℕ → ℕ
offset_of s var = offset_in s.shapes var

-- a variable stands in the image of an owner
abbrev pub SameImage : Sharing → ℕ → Owner → Type 0
SameImage s var owner = level_of s var ≡ owner_level owner

-- how many words the image of an owner has
abbrev pub image_words : Sharing → Owner → ℕ
image_words s owner = words_in s.shapes (image_number (owner_level owner))

-- all owners of images
abbrev pub owners_in : Sharing → List Owner
owners_in s = owners_of s.machine s.cores
