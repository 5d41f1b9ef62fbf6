-- The same over the list of all postings that were made, each with its partner or none. A posting's number is its
-- place in this list, counted from 1.
use Rattle.std.specs.Prelude.{◌≡◌, ℕ, ◌+◌, ◌-◌, ◌<◌, Bool, false, ◌&&◌, ◌==◌, if◌then◌else◌, List, ◌∷◌, [], ◌++◌, length, map, filter, find, slice_get, Option, Some, None, is_none, IsSomeAnd, IsTrue}
use Rattle.std.specs.Option.{option_map}
use Rattle.std.specs.List.{enumerate_from}
use Rattle.mpi_queue.specs.declared.postings.Posting.{Posting}
use Rattle.mpi_queue.specs.Fits.{is_match}
use Rattle.mpi_queue.specs.Matching.{Matching}

-- A posting that was made, with its partner's number where it is matched.
pub record Made : Type 0 where
  pub posting : Posting
  pub met : Option ℕ

-- all postings, each behind its number
abbrev pub numbered : List Made → List (ℕ × Made)
numbered all = enumerate_from 1 all

-- the posting is unmatched, of the other kind, and fits
abbrev pub is_open_to : Posting → Made → Bool
is_open_to p m = is_none m.met && is_match p m.posting

-- the number of a posting's partner: of the first such posting, by number
unfoldable pub partner_of : List Made → Posting → Option ℕ
partner_of all p = option_map (λ e. e.0) (find (λ e. is_open_to p e.1) (numbered all))

-- the posting of number n now has the partner k, and every other is as it was
abbrev pub with_partner : List Made → ℕ → ℕ → List Made
with_partner all n k = map (λ e. if e.0 == n then record e.1 { met = Some k } else e.1) (numbered all)

-- a posting is made that has this partner; the two are each other's
abbrev pub made_with : List Made → Posting → Option ℕ → List Made
made_with all p (Some n) = with_partner all n (length all + 1) ++ record { posting = p; met = Some n } ∷ []
made_with all p None = all ++ record { posting = p; met = None } ∷ []

-- a posting is made
unfoldable pub with_posting : List Made → Posting → List Made
with_posting all p = made_with all p (partner_of all p)

-- what a queue is after these postings
abbrev pub matching_of : List Made → Matching
matching_of all = record {
  made = length all;
  waiting = map (λ e. (e.0, e.1.posting)) (filter (λ e. is_none e.1.met) (numbered all));
}

-- The posting of number n is unmatched, of the other kind and fits, and no earlier one is.
pub record IsPartner (all : List Made) (p : Posting) (n : ℕ) : Type 0 where
  pub counted : 0 < n
  pub meets : IsSomeAnd (slice_get all (n - 1)) (λ m. IsTrue (is_open_to p m))
  pub first : (k : ℕ) (m : Made) → k + 1 < n → slice_get all k ≡ Some m → is_open_to p m ≡ false

-- no two postings that are unmatched are of two kinds and fit
abbrev pub IsSettled : List Made → Type 0
IsSettled all = (i j : ℕ) (a b : Made)
    → slice_get all i ≡ Some a → slice_get all j ≡ Some b → a.met ≡ None → b.met ≡ None
    → is_match a.posting b.posting ≡ false
