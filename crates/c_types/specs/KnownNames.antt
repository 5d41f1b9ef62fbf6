-- The known names: those of MPI that programs may use, of printf, and of malloc.
use Rattle.std.specs.Prelude.{ℤ, pos, negsuc, cond, List, [], ◌∷◌, Option, None, Some, option_map, codes, bytes_eq}
use Rattle.mpc_values.specs.declared.values.Word.TheVariants as word
use Rattle.mpc_values.specs.declared.values.Datatype.TheVariants as datatype
use Rattle.mpc_values.specs.declared.values.Op.TheVariants as op
use Rattle.c_tree.specs.declared.syntax.Base.TheVariants as base
use Rattle.c_tree.specs.MpiTable.{mpi_named}
use Rattle.c_types.specs.declared.kinds.Kind.TheVariants.{Plain, Null}
use Rattle.c_types.specs.declared.kinds.Known.{Known}
use Rattle.c_types.specs.declared.kinds.Known.TheVariants.{Mpi, Printf, Malloc, Free, Constant, Datatype, Operation, Ignored}
use Rattle.c_types.specs.Env.{Name, first_some}

-- an int constant
abbrev pub int_constant : ℤ → Known
int_constant z = Constant (Plain base.Int) (word.Int z)

-- the names that are no function of MPI, and what they stand for (MPI 3.1, annex A.1)
abbrev pub other_names : List (Name × Known)
other_names =
    (codes "printf", Printf)
    ∷ (codes "malloc", Malloc)
    ∷ (codes "free", Free)
    ∷ (codes "NULL", Constant Null word.Null)
    ∷ (codes "MPI_COMM_WORLD", Constant (Plain base.Comm) (word.Comm 1))
    ∷ (codes "MPI_COMM_NULL", Constant (Plain base.Comm) (word.Comm 0))
    ∷ (codes "MPI_REQUEST_NULL", Constant (Plain base.Request) (word.Req 0))
    ∷ (codes "MPI_SUCCESS", int_constant (pos 0))
    ∷ (codes "MPI_ANY_SOURCE", int_constant (negsuc 0))
    ∷ (codes "MPI_ANY_TAG", int_constant (negsuc 0))
    ∷ (codes "MPI_PROC_NULL", int_constant (negsuc 1))
    ∷ (codes "MPI_UNDEFINED", int_constant (negsuc 2))
    ∷ (codes "MPI_INT", Datatype datatype.Int)
    ∷ (codes "MPI_LONG", Datatype datatype.Long)
    ∷ (codes "MPI_MAX", Operation op.Max)
    ∷ (codes "MPI_MIN", Operation op.Min)
    ∷ (codes "MPI_SUM", Operation op.Sum)
    ∷ (codes "MPI_PROD", Operation op.Prod)
    ∷ (codes "MPI_LAND", Operation op.Land)
    ∷ (codes "MPI_BAND", Operation op.Band)
    ∷ (codes "MPI_LOR", Operation op.Lor)
    ∷ (codes "MPI_BOR", Operation op.Bor)
    ∷ (codes "MPI_LXOR", Operation op.Lxor)
    ∷ (codes "MPI_BXOR", Operation op.Bxor)
    ∷ (codes "MPI_STATUS_IGNORE", Ignored)
    ∷ (codes "MPI_STATUSES_IGNORE", Ignored)
    ∷ []

-- what the first row with this name has
abbrev pub listed : {A : Type 0} → Name → List (Name × A) → Option A
listed name [] = None
listed name (row ∷ rows) = cond (bytes_eq row.0 name) (Some row.1) (listed name rows)

-- what a known name stands for
unfoldable pub known : Name → Option Known
known name = first_some (option_map Mpi (mpi_named name)) (listed name other_names)
