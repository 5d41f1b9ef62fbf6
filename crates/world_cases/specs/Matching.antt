-- Six postings for the receiver of rank 2, on communicator 1 with tag 0, and the partner of each.
use Rattle.std.specs.Prelude.{◌≡◌, ℕ, ℤ, pos, negsuc, Bool, false, true, List, [], ◌∷◌, Option, Some, None}
use Rattle.mpi_queue.specs.declared.postings.Posting.{Posting}
use Rattle.mpi_queue.specs.History.{Made, partner_of, with_posting}

abbrev pub posting : Bool → ℕ → ℤ → ℤ → Posting
posting send rank peer tag = record { task = rank; comm = 1; send = send; rank = rank; peer = peer; tag = tag }

-- the partners of postings that are made one after the other
abbrev pub partners : List Made → List Posting → List (Option ℕ)
partners all [] = []
partners all (p ∷ more) = partner_of all p ∷ partners (with_posting all p) more

pub record Matching : Type 0 where
  pub six : partners [] (
      posting false 2 (negsuc 0) (pos 0)
      ∷ posting false 2 (pos 0) (pos 0)
      ∷ posting true 0 (pos 2) (pos 0)
      ∷ posting true 1 (pos 2) (pos 0)
      ∷ posting false 2 (pos 1) (negsuc 0)
      ∷ posting true 0 (pos 2) (pos 0)
      ∷ []) ≡ None ∷ None ∷ Some 1 ∷ None ∷ Some 4 ∷ Some 2 ∷ []
