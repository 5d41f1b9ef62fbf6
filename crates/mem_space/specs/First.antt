-- The static variables at the start.
use Rattle.std.specs.Prelude.{◌≡◌, ℕ, List, slice_get, Some, Contains}
use Rattle.mpc_values.specs.declared.values.Obj.{Obj}
use Rattle.mpc_values.specs.declared.values.Obj.TheVariants.{Glob}
use Rattle.mpc_values.specs.declared.owners.Owner.{Owner}
use Rattle.mpc_values.specs.declared.owners.StaticVar.{StaticVar}
use Rattle.memory_model.specs.declared.kinds.Kind.TheVariants.{Static}
use Rattle.memory_model.specs.Memory.{Object}
use Rattle.tls_levels.specs.Owners.{owner_level}
use Rattle.object_heap.specs.Layout.{Layout}
use Rattle.object_heap.specs.Objects.{object_in}

-- the object that a variable is at the start, with its first words
abbrev pub first_object : StaticVar → Object
first_object var = record { kind = Static; words = var.first }

-- Each of these owners has the variables of its level as objects with their first words, each under its number, and no
-- other object lives.
pub record HasFirst (globals : List StaticVar) (owners : List Owner) (heap : Layout) : Type 0 where
  pub copies : (owner : Owner) (number : ℕ) (var : StaticVar) → Contains owners owner → slice_get globals number ≡ Some var → var.level ≡ owner_level owner → object_in heap owner (Glob number) ≡ Some (first_object var)
  pub only : (owner : Owner) (obj : Obj) (object : Object) → object_in heap owner obj ≡ Some object → (number : ℕ) × (var : StaticVar) × (obj ≡ Glob number) × Contains owners owner × (slice_get globals number ≡ Some var) × (var.level ≡ owner_level owner)
