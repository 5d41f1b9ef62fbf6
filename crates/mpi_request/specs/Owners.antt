-- Which request each posting belongs to.
use Rattle.std.specs.Prelude.{ℕ, Bool, false, not, ◌==◌, ◌&&◌, filter, if◌then◌else◌, List, Option, Some, None}
use Rattle.std.specs.Ordering.{nat_cmp}
use Rattle.std.specs.Map.{lookup}
use Rattle.std.specs.BTreeMap.{is_at, insert_entry}
use Rattle.mpi_request.specs.declared.owners.RequestId.{RequestId}

-- the request of each posting that has one, by rising number of the posting
abbrev pub PostOwners : Type 0
PostOwners = List (ℕ × RequestId)

-- the request of a posting
abbrev pub owner_in : PostOwners → ℕ → Option RequestId
owner_in owners post = lookup (is_at (nat_cmp post)) owners

abbrev pub is_same : RequestId → RequestId → Bool
is_same id other = (id.task == other.task) && (id.number == other.number)

abbrev pub is_it : Option RequestId → RequestId → Bool
is_it None id = false
is_it (Some first) id = is_same first id

-- the posting belongs to this request
abbrev pub has_owner : PostOwners → ℕ → RequestId → Bool
has_owner owners post id = is_it (owner_in owners post) id

-- the same by the request that the posting has already
abbrev pub with_first : PostOwners → ℕ → Option RequestId → RequestId → PostOwners
with_first owners post None id = insert_entry nat_cmp owners post id
with_first owners post (Some first) id = owners

-- a posting belongs to a request that was started for it, unless it belongs to another one already
abbrev pub with_owner : PostOwners → Option ℕ → RequestId → PostOwners
with_owner owners None id = owners
with_owner owners (Some post) id = with_first owners post (owner_in owners post) id

-- a posting that belongs to this request belongs to none any more
abbrev pub without_owner : PostOwners → Option ℕ → RequestId → PostOwners
without_owner owners None id = owners
without_owner owners (Some post) id = if has_owner owners post id then filter (λ e. not (e.0 == post)) owners else owners
