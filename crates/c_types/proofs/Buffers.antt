-- Where buffers and their datatypes end.
use Rattle.std.proofs.Common.{◌≡◌, ℕ, ◌≤◌, List, [], ◌∷◌, refl, ◌∙◌, length, drop, min, true, length-drop, arith}
use Rattle.c_tree.specs.declared.mpi.Argument.{Argument}
use Rattle.c_tree.specs.declared.mpi.Argument.TheVariants.{Buffer}
use Rattle.c_types.specs.declared.kinds.Given.{Given}
use Rattle.c_types.specs.Arguments.{buffers_agree}

ended : (rows : List Argument) (given : List Given) → min (length rows) (length given) ≡ 0 → true ≡ buffers_agree rows given
ended [] given h = refl
ended (Buffer ∷ rows) [] h = refl
ended (row ∷ rows) [] h = refl
ended (row ∷ rows) (one ∷ given) h = absurd (omega arith)

pub buffer_end : (rows : List Argument) (given : List Given) (i n : ℕ) → n ≡ min (length rows) (length given) → n ≤ i
    → buffers_agree (drop i rows) (drop i given) ≡ buffers_agree rows given → true ≡ buffers_agree rows given
buffer_end rows given i n is h inv = ended (drop i rows) (drop i given) (omega (arith, length-drop i rows, length-drop i given)) ∙ inv
