-- Datatypes (MPI 3.1, section 3.2.2).
use Rattle.std.specs.Prelude.{Bool, true, false}
use Rattle.mpc_values.specs.declared.values.Datatype.{Datatype}
use Rattle.mpc_values.specs.declared.values.Datatype.TheVariants.{Int, Long}

-- the two datatypes are the same
abbrev pub is_same_datatype : Datatype → Datatype → Bool
is_same_datatype Int Int = true
is_same_datatype Int Long = false
is_same_datatype Long Int = false
is_same_datatype Long Long = true
