-- Where variables stand in images.
use Rattle.std.specs.Prelude.{ℕ, ◌==◌, if◌then◌else◌, List, take, Option, Some, None}
use Rattle.std.specs.List.{slice_get, sum_by}
use Rattle.std.specs.Option.{option_and_then, option_map_or}
use Rattle.mpc_values.specs.declared.owners.Level.{Level}
use Rattle.mpc_values.specs.declared.owners.Level.TheVariants.{Core, L1, L2, L3, Numa, Node}
use Rattle.mpc_values.specs.declared.owners.StaticVar.{StaticVar}
use Rattle.tls_levels.specs.declared.shapes.VarShape.{VarShape}

-- the shape of a variable
abbrev pub shape_of : StaticVar → VarShape
shape_of var = record { len = var.len; level = var.level }

-- the level of a variable, none for a private one
abbrev pub level_at : List VarShape → ℕ → Option Level
level_at shapes var = option_and_then (λ (s : VarShape). s.level) (slice_get shapes var)

-- how many words a variable has
abbrev pub len_at : List VarShape → ℕ → ℕ
len_at shapes var = option_map_or (λ (s : VarShape). s.len) (slice_get shapes var) 0

-- a number for each kind of image: 0 for that of a task, and from 1 on those of the levels
abbrev pub image_number : Option Level → ℕ
image_number None = 0
image_number (Some Core) = 1
image_number (Some L1) = 2
image_number (Some L2) = 3
image_number (Some L3) = 4
image_number (Some Numa) = 5
image_number (Some Node) = 6

-- the words that a variable has in the images of a kind
abbrev pub words_at : ℕ → VarShape → ℕ
words_at kind s = if image_number s.level == kind then s.len else 0

-- the words of the variables that stand in the images of a kind
abbrev pub words_in : List VarShape → ℕ → ℕ
words_in shapes kind = sum_by (words_at kind) shapes

-- where a variable begins in its image: behind those of the image that have a lower number
abbrev pub offset_in : List VarShape → ℕ → ℕ
offset_in shapes var = words_in (take var shapes) (image_number (level_at shapes var))
