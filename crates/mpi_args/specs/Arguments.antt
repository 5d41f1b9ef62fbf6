-- Which peers and tags a call may name (MPI 3.1, sections 3.2.3, 3.2.4 and 3.11).
use Rattle.std.specs.Prelude.{ℕ, ℤ, pos, negsuc, Bool, ◌&&◌, ◌||◌, int_lt, int_le}
use Rattle.std.specs.Ordering.{int_eq}
use Rattle.mpi_args.specs.declared.arguments.TheConstants.{LAST_TAG}

-- MPI_ANY_SOURCE and MPI_ANY_TAG, both -1
abbrev pub is_any : ℤ → Bool
is_any z = int_eq z (negsuc 0)

-- MPI_PROC_NULL, -2
abbrev pub is_proc_null : ℤ → Bool
is_proc_null z = int_eq z (negsuc 1)

-- a rank of a group of so many members
abbrev pub is_in_group : ℤ → ℕ → Bool
is_in_group z size = int_le (pos 0) z && int_lt z (pos size)

-- a tag that a message can have: 0 to 32,767
abbrev pub is_tag : ℤ → Bool
is_tag z = int_le (pos 0) z && int_le z LAST_TAG

-- a peer that a call may name; a receive or a probe, which is wild, may name any source
abbrev pub is_peer : ℤ → ℕ → Bool → Bool
is_peer rank size wild = is_in_group rank size || (is_proc_null rank || (wild && is_any rank))

-- a tag that a call may name; a receive or a probe, which is wild, may name any tag
abbrev pub is_tag_argument : ℤ → Bool → Bool
is_tag_argument tag wild = is_tag tag || (wild && is_any tag)
