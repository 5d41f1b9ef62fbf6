-- What each member of a meeting gets: one function of the contributions in rank order (MPI 3.1, chapter 5).
use Rattle.std.specs.Prelude.{ℕ, ℤ, pos, ◌+◌, ◌*◌, Bool, if◌then◌else◌, List, [], ◌∷◌, map, take, drop, slice_index_or, flat_map, fold, nat_abs}
use Rattle.mpc_values.specs.declared.values.Word.{Word}
use Rattle.mpc_values.specs.declared.values.Word.TheVariants.{Undef, Int, Null, Ptr, Comm, Req}
use Rattle.mpc_values.specs.declared.values.Op.{Op}
use Rattle.mpc_values.specs.declared.values.Datatype.{Datatype}
use Rattle.mpc_values.specs.declared.collectives.Coll.{Coll}
use Rattle.mpc_values.specs.declared.collectives.CollKind.{CollKind}
use Rattle.mpc_values.specs.declared.collectives.CollKind.TheVariants.{Barrier, Bcast, Reduce, Allreduce, Scan, Exscan, Gather, Allgather, Scatter, Alltoall, Dup, Split, Free}
use Rattle.mpi_args.specs.Folds.{fold_of}
use Rattle.mpi_coll.specs.Arguments.{is_root, count_of}

-- the contributions of all members, by rank
abbrev pub Given : Type 0
Given = List (List Word)

-- the number in a word; one of another kind is no contribution to a fold
abbrev pub number_in : Word → ℤ
number_in (Int z) = z
number_in Undef = pos 0
number_in Null = pos 0
number_in (Ptr obj at) = pos 0
number_in (Comm comm) = pos 0
number_in (Req req) = pos 0

-- two contributions folded, place by place
abbrev pub folded_two : Op → Datatype → List Word → List Word → List Word
folded_two op kind (a ∷ more) (b ∷ others) = Int (fold_of op kind (number_in a) (number_in b)) ∷ folded_two op kind more others
folded_two op kind _ _ = []

-- Contributions folded in rank order, from the first on (MPI 3.1, section 5.9.1). One alone stays as it is.
abbrev pub folded : Op → Datatype → Given → List Word
folded op kind [] = []
folded op kind (first ∷ more) = fold (folded_two op kind) first more

-- the contribution of the member of a rank
abbrev pub given_by : Given → ℕ → List Word
given_by given rank = slice_index_or given rank []

-- the part of some words that is meant for the member of a rank, so many words
abbrev pub part_of : ℕ → ℕ → List Word → List Word
part_of rank count words = take count (drop (rank * count) words)

-- the contributions, one after the other
abbrev pub joined : Given → List Word
joined given = flat_map (λ words. words) given

-- What the member of a rank gets.
--
-- Bcast (section 5.4): the root's words go to the others. Reduce (5.9.1): the root gets the fold of all. Allreduce
-- (5.9.6): each gets it. Scan (5.11.1): each gets the fold of those up to itself. Exscan (5.11.2): of those before
-- itself, and the first nothing. Gather (5.5): the root gets all in rank order. Allgather (5.7): each gets that. Scatter
-- (5.6): each gets its part of the root's words. Alltoall (5.8): each gets its part of the words of each.
abbrev pub result_in : CollKind → Bool → ℕ → Op → Datatype → ℕ → ℕ → Given → List Word
result_in Barrier is_root root op kind count rank given = []
result_in Bcast is_root root op kind count rank given = if is_root then [] else given_by given root
result_in Reduce is_root root op kind count rank given = if is_root then folded op kind given else []
result_in Allreduce is_root root op kind count rank given = folded op kind given
result_in Scan is_root root op kind count rank given = folded op kind (take (rank + 1) given)
result_in Exscan is_root root op kind count rank given = folded op kind (take rank given)
result_in Gather is_root root op kind count rank given = if is_root then joined given else []
result_in Allgather is_root root op kind count rank given = joined given
result_in Scatter is_root root op kind count rank given = part_of rank count (given_by given root)
result_in Alltoall is_root root op kind count rank given = joined (map (part_of rank count) given)
result_in Dup is_root root op kind count rank given = []
result_in Split is_root root op kind count rank given = []
result_in Free is_root root op kind count rank given = []

-- the same of a call, by the contributions in rank order
abbrev pub result_of : Coll → ℕ → Given → List Word
result_of coll rank given = result_in coll.what (is_root coll rank) (nat_abs coll.root) coll.op coll.kind (nat_abs (count_of coll)) rank given
