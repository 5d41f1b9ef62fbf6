-- The look-up of known names.
use Rattle.std.proofs.Common.{◌≡◌, ℕ, List, Option, None, Some, ap, ◌∙◌}
use Rattle.std.specs.Prelude.{option_map}
use Rattle.c_tree.specs.declared.mpi.MpiFunction.{MpiFunction}
use Rattle.c_tree.specs.MpiTable.{mpi_named}
use Rattle.c_types.specs.declared.kinds.Known.{Known}
use Rattle.c_types.specs.declared.kinds.Known.TheVariants.{Mpi}
use Rattle.c_types.specs.Env.{first_some}
use Rattle.c_types.specs.KnownNames.{known, listed, other_names}

pub function_known : (name : List ℕ) (f : MpiFunction) → Some f ≡ mpi_named name → Some (Mpi f) ≡ known name
unfolding known
function_known name f is = ap (λ o. first_some (option_map Mpi o) (listed name other_names)) is

pub other_known : (name : List ℕ) (rows : List (List ℕ × Known)) (r : Option Known) → rows ≡ other_names → None ≡ mpi_named name → r ≡ listed name rows → r ≡ known name
unfolding known
other_known name rows r same none is =
    is ∙ ap (listed name) same ∙ ap (λ o. first_some (option_map Mpi o) (listed name other_names)) none
