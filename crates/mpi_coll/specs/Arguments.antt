-- Which arguments of a collective call are looked at, and how many words it gives and takes (MPI 3.1, chapter 5).
use Rattle.std.specs.Prelude.{ℕ, ℤ, pos, negsuc, ◌*◌, ◌==◌, ◌&&◌, ◌||◌, not, Bool, true, false, nat_abs, int_lt, if◌then◌else◌, List, [], ◌∷◌}
use Rattle.std.specs.List.{list_all}
use Rattle.std.specs.Ordering.{int_eq}
use Rattle.mpc_values.specs.declared.collectives.Coll.{Coll}
use Rattle.mpc_values.specs.declared.collectives.CollKind.{CollKind}
use Rattle.mpc_values.specs.declared.collectives.CollKind.TheVariants.{Barrier, Bcast, Reduce, Allreduce, Scan, Exscan, Gather, Allgather, Scatter, Alltoall, Dup, Split, Free}
use Rattle.mpi_args.specs.Arguments.{is_in_group}

-- the calls that have a root
abbrev pub has_root : CollKind → Bool
has_root Barrier = false
has_root Bcast = true
has_root Reduce = true
has_root Allreduce = false
has_root Scan = false
has_root Exscan = false
has_root Gather = true
has_root Allgather = false
has_root Scatter = true
has_root Alltoall = false
has_root Dup = false
has_root Split = false
has_root Free = false

-- the calls that fold words by an operation (MPI 3.1, sections 5.9 and 5.11)
abbrev pub is_fold : CollKind → Bool
is_fold Barrier = false
is_fold Bcast = false
is_fold Reduce = true
is_fold Allreduce = true
is_fold Scan = true
is_fold Exscan = true
is_fold Gather = false
is_fold Allgather = false
is_fold Scatter = false
is_fold Alltoall = false
is_fold Dup = false
is_fold Split = false
is_fold Free = false

-- the calls that move words
abbrev pub has_words : CollKind → Bool
has_words Barrier = false
has_words Bcast = true
has_words Reduce = true
has_words Allreduce = true
has_words Scan = true
has_words Exscan = true
has_words Gather = true
has_words Allgather = true
has_words Scatter = true
has_words Alltoall = true
has_words Dup = false
has_words Split = false
has_words Free = false

-- a member of this rank is the call's root
abbrev pub is_root : Coll → ℕ → Bool
is_root coll rank = int_eq coll.root (pos rank)

-- the counts that are looked at: at the root alone, of Gather the receive count and of Scatter the send count
abbrev pub counts_in : CollKind → Bool → ℤ → ℤ → List ℤ
counts_in Barrier root count other = []
counts_in Bcast root count other = count ∷ []
counts_in Reduce root count other = count ∷ []
counts_in Allreduce root count other = count ∷ []
counts_in Scan root count other = count ∷ []
counts_in Exscan root count other = count ∷ []
counts_in Gather root count other = if root then count ∷ other ∷ [] else count ∷ []
counts_in Allgather root count other = count ∷ other ∷ []
counts_in Scatter root count other = if root then count ∷ other ∷ [] else other ∷ []
counts_in Alltoall root count other = count ∷ other ∷ []
counts_in Dup root count other = []
counts_in Split root count other = []
counts_in Free root count other = []

-- the counts that are looked at in a member's call
abbrev pub counts_of : Coll → ℕ → List ℤ
counts_of coll rank = counts_in coll.what (is_root coll rank) coll.count coll.other

-- the meeting's count: the send count, in Scatter the receive count; 0 where the call has none
abbrev pub count_in : CollKind → ℤ → ℤ → ℤ
count_in Scatter count other = other
count_in what count other = if has_words what then count else pos 0

-- the count of a call's meeting
abbrev pub count_of : Coll → ℤ
count_of coll = count_in coll.what coll.count coll.other

-- a root, where the call has one, is in the group of so many members
abbrev pub root_fits : Coll → ℕ → Bool
root_fits coll size = not (has_root coll.what) || is_in_group coll.root size

-- a colour is not negative, or is MPI_UNDEFINED, -3 (MPI 3.1, section 6.4.2)
abbrev pub colour_fits : CollKind → ℤ → Bool
colour_fits Split colour = not (int_lt colour (pos 0)) || int_eq colour (negsuc 2)
colour_fits what colour = true

-- no count that is looked at is negative, and the colour fits
abbrev pub counts_fit : Coll → ℕ → Bool
counts_fit coll rank = list_all (λ count. not (int_lt count (pos 0))) (counts_of coll rank) && colour_fits coll.what coll.colour

-- the counts of one member that are looked at are one count
abbrev pub counts_agree : Coll → ℕ → Bool
counts_agree coll rank = list_all (λ count. int_eq count (count_of coll)) (counts_of coll rank)

-- How many words a member gives, of a count, where it is the root or not, in a group of so many.
abbrev pub given_in : CollKind → Bool → ℕ → ℕ → ℕ
given_in Barrier root count size = 0
given_in Bcast root count size = if root then count else 0
given_in Reduce root count size = count
given_in Allreduce root count size = count
given_in Scan root count size = count
given_in Exscan root count size = count
given_in Gather root count size = count
given_in Allgather root count size = count
given_in Scatter root count size = if root then size * count else 0
given_in Alltoall root count size = size * count
given_in Dup root count size = 0
given_in Split root count size = 0
given_in Free root count size = 0

-- the same of a call
abbrev pub given_count : Coll → ℕ → ℕ → ℕ
given_count coll rank size = given_in coll.what (is_root coll rank) (nat_abs (count_of coll)) size

-- How many words a member of this rank takes. The root of Bcast takes none, nor does another member than the root in
-- Reduce and Gather, nor that of rank 0 in Exscan.
abbrev pub taken_in : CollKind → Bool → ℕ → ℕ → ℕ → ℕ
taken_in Barrier root rank count size = 0
taken_in Bcast root rank count size = if root then 0 else count
taken_in Reduce root rank count size = if root then count else 0
taken_in Allreduce root rank count size = count
taken_in Scan root rank count size = count
taken_in Exscan root rank count size = if rank == 0 then 0 else count
taken_in Gather root rank count size = if root then size * count else 0
taken_in Allgather root rank count size = size * count
taken_in Scatter root rank count size = count
taken_in Alltoall root rank count size = size * count
taken_in Dup root rank count size = 0
taken_in Split root rank count size = 0
taken_in Free root rank count size = 0

-- the same of a call
abbrev pub taken_count : Coll → ℕ → ℕ → ℕ
taken_count coll rank size = taken_in coll.what (is_root coll rank) rank (nat_abs (count_of coll)) size
