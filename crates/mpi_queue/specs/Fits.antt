-- Which receive and which send fit (MPI 3.1, section 3.2.4).
use Rattle.std.specs.Prelude.{◌≡◌, ◌⊎◌, ℤ, pos, negsuc, Bool, ◌&&◌, ◌||◌, not, ◌==◌, if◌then◌else◌}
use Rattle.std.specs.Ordering.{int_eq}
use Rattle.mpi_queue.specs.declared.postings.Posting.{Posting}

-- The communicator is the same, the send's destination is the receiver's rank, the receive's source is the
-- sender's rank or MPI_ANY_SOURCE, and its tag is the send's or MPI_ANY_TAG. Both wildcards are -1.
pub record Fits (recv send : Posting) : Type 0 where
  pub communicator : recv.comm ≡ send.comm
  pub destination : send.peer ≡ pos recv.rank
  pub source : (recv.peer ≡ negsuc 0) ⊎ (recv.peer ≡ pos send.rank)
  pub tag : (recv.tag ≡ negsuc 0) ⊎ (recv.tag ≡ send.tag)

-- MPI_ANY_SOURCE or MPI_ANY_TAG
abbrev pub is_any : ℤ → Bool
is_any z = int_eq z (negsuc 0)

-- the pattern takes this rank or tag
abbrev pub is_taken_by : ℤ → ℤ → Bool
is_taken_by z pattern = is_any pattern || int_eq pattern z

-- the test of `Fits`
abbrev pub is_fit : Posting → Posting → Bool
is_fit recv send =
    (recv.comm == send.comm) && (int_eq send.peer (pos recv.rank) && (is_taken_by (pos send.rank) recv.peer && is_taken_by send.tag recv.tag))

-- the other posting is of the other kind, and the two fit
abbrev pub is_match : Posting → Posting → Bool
is_match p other = if p.send then not other.send && is_fit other p else (other.send && is_fit p other)
