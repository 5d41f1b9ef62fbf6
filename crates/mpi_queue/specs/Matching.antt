-- What a queue of postings is, and which posting a new one meets.
use Rattle.std.specs.Prelude.{ℕ, ◌+◌, ◌≤◌, ◌<◌, not, ◌==◌, List, ◌∷◌, [], ◌++◌, Option, Some, None, find, filter, All, AllPairs}
use Rattle.std.specs.Option.{option_map}
use Rattle.mpc_values.specs.declared.limits.TheConstants.{MAX_GIVEN}
use Rattle.mpi_queue.specs.declared.postings.Posting.{Posting}
use Rattle.mpi_queue.specs.Fits.{is_match}

-- How many postings were made, and those that wait for a partner, each behind its number, by rising number.
-- Numbers are given from 1 on.
pub record Matching : Type 0 where
  pub made : ℕ
  pub waiting : List (ℕ × Posting)

-- the number of the first posting that waits, is of the other kind and fits
unfoldable pub partner : List (ℕ × Posting) → Posting → Option ℕ
partner waiting p = option_map (λ w. w.0) (find (λ w. is_match p w.1) waiting)

-- the postings of other numbers
abbrev pub without : List (ℕ × Posting) → ℕ → List (ℕ × Posting)
without waiting n = filter (λ w. not (w.0 == n)) waiting

-- what is left behind a posting with this partner: both leave, and no other posting changes
abbrev pub posted_with : Matching → Posting → Option ℕ → Matching
posted_with q p (Some n) = record { made = q.made + 1; waiting = without q.waiting n }
posted_with q p None = record { made = q.made + 1; waiting = q.waiting ++ (q.made + 1, p) ∷ [] }

-- what is left behind a posting
unfoldable pub posted : Matching → Posting → Matching
posted q p = posted_with q p (partner q.waiting p)

-- numbers rise, and each is one that was given
pub record IsCounted (q : Matching) : Type 0 where
  pub few : q.made ≤ MAX_GIVEN
  pub rising : AllPairs (λ a b. a.0 < b.0) q.waiting
  pub given : All (λ w. w.0 ≤ q.made) q.waiting
