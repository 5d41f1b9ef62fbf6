-- What holds of the communicators that are kept, by their numbers and places.
use Rattle.std.proofs.Common.{◌≡◌, ℕ, zero, suc, Bool, true, false, cond, ◌==◌, List, [], ◌∷◌, ◌++◌, length, refl, ap, subst}
use Rattle.std.specs.Prelude.{Option, Some, None, IsSome, is_some, slice_get, position}
use Rattle.std.specs.Option.{option_map}
use Rattle.std.proofs.lemmas.List.Elements.{All-push, All-append}
use Rattle.std.proofs.lemmas.Option.{slice_get_within, get_or_from_slice_get}
use Rattle.mpi_comm.specs.declared.communicators.Seen.{Seen}
use Rattle.mpi_comm.specs.Seen.{seen_at, alive, members_at, tasks_in, size_in, rank_in, made_of, IsGroup, AreGroups}

-- one that lives was made
pub made_from_alive : (one : Option Seen) → IsSome (alive one) → IsSome one
made_from_alive None h = h
made_from_alive (Some one) h = refl

-- a size tells that it lives, and how many members it has
pub alive_from_size : (one : Option Seen) (size : ℕ) → size_in (alive one) ≡ Some size → IsSome (alive one) × (length (tasks_in one) ≡ size)
alive_from_size None size h = let no : None ≡ Some size = h in absurd (cc)
alive_from_size (Some one) size h = by one.lives h
  where
    by : (b : Bool) → size_in (cond b (Some one) None) ≡ Some size → IsSome (cond b (Some one) None) × (length one.members ≡ size)
    by true e = let e' : Some (length one.members) ≡ Some size = e in (refl, cc)
    by false e = let no : None ≡ Some size = e in absurd (cc)

-- a rank among the members of one that lives
pub rank_in_alive : (task : ℕ) (members : List ℕ) (one : Option Seen) → Some members ≡ option_map (λ (s : Seen). s.members) one → position (λ member. member == task) members ≡ rank_in task one
rank_in_alive task members None h = let wrong : Some members ≡ None = h in absurd (cc)
rank_in_alive task members (Some one) h = let known : Some members ≡ Some one.members = h in let same : members ≡ one.members = cc in ap (position (λ member. member == task)) same

-- each has members that are a group
pub groups_at : (seen : List Seen) (n : ℕ) → AreGroups seen → IsSome (seen_at seen n) → IsGroup (members_at seen n)
groups_at seen zero all h = let no : false ≡ true = h in absurd (cc)
groups_at seen (suc index) all h = by (slice_get seen index) refl h
  where
    by : (o : Option Seen) → slice_get seen index ≡ o → is_some o ≡ true → IsGroup (tasks_in o)
    by None got e = let no : false ≡ true = e in absurd (cc)
    by (Some one) got e =
        subst (λ (x : Seen). IsGroup x.members) (get_or_from_slice_get seen index one one got)
        (all index one (slice_get_within seen index one got))

pub groups_pushed : (seen : List Seen) (members : List ℕ) → AreGroups seen → IsGroup members → AreGroups (seen ++ made_of members ∷ [])
groups_pushed seen members all group = All-push (λ (x : Seen). IsGroup x.members) seen (made_of members) all group

pub groups_appended : (seen more : List Seen) → AreGroups seen → AreGroups more → AreGroups (seen ++ more)
groups_appended seen more all all' = All-append (λ (x : Seen). IsGroup x.members) seen more all all'
