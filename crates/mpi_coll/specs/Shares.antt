-- Who gets the words that a collective call hands out (MPI 3.1, chapter 5).
use Rattle.std.specs.Prelude.{ℕ, pos, if◌then◌else◌, List, [], map}
use Rattle.std.specs.List.{range_with_len}
use Rattle.std.specs.Ordering.{int_eq}
use Rattle.mpc_values.specs.declared.values.Word.{Word}
use Rattle.mpc_values.specs.declared.collectives.Coll.{Coll}
use Rattle.mpi_coll.specs.declared.shares.Takers.{Takers}
use Rattle.mpi_coll.specs.declared.shares.Takers.TheVariants.{All, Root, Others}
use Rattle.mpi_coll.specs.Results.{Given, result_of}

-- what the member of a rank gets of words that are handed out
abbrev pub share_of : List Word → Takers → ℕ → List Word
share_of words All rank = words
share_of words (Root root) rank = if int_eq root (pos rank) then words else []
share_of words (Others root) rank = if int_eq root (pos rank) then [] else words

-- the same of each of so many members, by rank
abbrev pub handed : List Word → Takers → ℕ → List (List Word)
handed words takers members = map (share_of words takers) (range_with_len 0 members)

-- what each of so many members gets of a meeting, by rank
abbrev pub results_of : Coll → Given → ℕ → List (List Word)
results_of coll given members = map (λ rank. result_of coll rank given) (range_with_len 0 members)
