-- The look-up of an MPI function by its name.
use Rattle.std.proofs.Common.{◌≡◌, ℕ, Bool, true, false, List, [], ◌∷◌, Option, None, Some, IfSome, cond, refl, sym, ap, ◌∙◌, subst}
use Rattle.std.specs.Str.{bytes_eq}
use Rattle.std.proofs.lemmas.Slice.Eq.{bytes_eq-Decides}
use Rattle.c_tree.specs.declared.mpi.MpiFunction.{MpiFunction}
use Rattle.c_tree.specs.declared.mpi.MpiFunction.TheVariants.{Init}
use Rattle.c_tree.specs.declared.mpi.TheConstants.{MPI_FUNCTIONS}
use Rattle.c_tree.specs.MpiTable.{mpi_name, mpi_named, first_named}

by_test : (name : List ℕ) (f : MpiFunction) (rest : Option MpiFunction) (b : Bool) → bytes_eq (mpi_name f) name ≡ b
    → IfSome rest (λ g. mpi_name g ≡ name) → IfSome (cond b (Some f) rest) (λ g. mpi_name g ≡ name)
by_test name f rest true is h = (bytes_eq-Decides (mpi_name f) name).0 is
by_test name f rest false is h = h

has_name : (name : List ℕ) (fs : List MpiFunction) → IfSome (first_named name fs) (λ f. mpi_name f ≡ name)
has_name name [] = tt
has_name name (f ∷ fs) = by_test name f (first_named name fs) (bytes_eq (mpi_name f) name) refl (has_name name fs)

-- each function is found by its own name
back : (f : MpiFunction) → first_named (mpi_name f) MPI_FUNCTIONS ≡ Some f
back Init = refl
back _ = refl

pub found_is : (name : List ℕ) (r : Option MpiFunction) → r ≡ mpi_named name → IfSome r (λ f. mpi_name f ≡ name)
unfolding mpi_named
found_is name None is = tt
found_is name (Some f) is =
    let P : Option MpiFunction → Type 0 = λ o. IfSome o (λ g. mpi_name g ≡ name) in
    subst P (sym is) (has_name name MPI_FUNCTIONS)

pub none_other : (name : List ℕ) (r : Option MpiFunction) → r ≡ mpi_named name → r ≡ None → (f : MpiFunction) → mpi_name f ≡ name → ⊥
unfolding mpi_named
none_other name r is none f named =
    let found : first_named name MPI_FUNCTIONS ≡ Some f = ap (λ n. first_named n MPI_FUNCTIONS) (sym named) ∙ back f in
    cc
