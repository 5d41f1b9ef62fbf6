-- What the code keeps of communicators changes as they do.
use Rattle.std.proofs.Common.{◌≡◌, ℕ, zero, suc, Bool, true, false, ◌==◌, List, [], ◌∷◌, ◌++◌, map, refl, sym, ap, ◌∙◌}
use Rattle.std.specs.Prelude.{Option, Some, None, slice_get, slice_set, position, if◌then◌else◌}
use Rattle.std.specs.Option.{option_map}
use Rattle.std.proofs.lemmas.List.{map-append}
use Rattle.mpi_comm.specs.declared.communicators.Communicator.{Communicator}
use Rattle.mpi_comm.specs.declared.communicators.Seen.{Seen}
use Rattle.mpi_comm.specs.Communicators.{Group, comm_at, living, group_at, group_in}
use Rattle.mpi_comm.specs.Splitting.{Chosen, groups_of}
use Rattle.mpi_comm.specs.Making.{made_by, with_dup, with_split, freed_at, freed}
use Rattle.mpi_comm.specs.Seen.{seen_of, seen_all, seen_at, alive, rank_in, group_seen, made_of, duplicated, split_up, ended_at, ended}

get_map : {X Y : Type 0} (f : X → Y) (xs : List X) (index : ℕ) → slice_get (map f xs) index ≡ option_map f (slice_get xs index)
get_map f [] index = refl
get_map f (x ∷ xs) zero = refl
get_map f (x ∷ xs) (suc index) = get_map f xs index

set_map : {X Y : Type 0} (f : X → Y) (xs : List X) (index : ℕ) (x : X) → map f (slice_set xs index x) ≡ slice_set (map f xs) index (f x)
set_map f [] index x = refl
set_map f (y ∷ ys) zero x = refl
set_map f (y ∷ ys) (suc index) x = ap (λ zs. f y ∷ zs) (set_map f ys index x)

pub seen_at-all : (comms : List Communicator) (number : ℕ) → seen_at (seen_all comms) number ≡ option_map seen_of (comm_at comms number)
seen_at-all comms zero = refl
seen_at-all comms (suc index) = get_map seen_of comms index

pub alive-of : (comm : Option Communicator) → alive (option_map seen_of comm) ≡ option_map seen_of (living comm)
alive-of None = refl
alive-of (Some comm) = by comm.lives
  where
    by : (b : Bool) → (if b then Some (seen_of comm) else None) ≡ option_map seen_of (if b then Some comm else None)
    by true = refl
    by false = refl

pub group_seen-of : (task number : ℕ) (comm : Option Communicator) → group_seen task number (option_map seen_of comm) ≡ group_in task number comm
group_seen-of task number None = refl
group_seen-of task number (Some comm) = refl

pub rank-group_seen : (task number : ℕ) (one : Option Seen) → option_map (λ (g : Group). g.rank) (group_seen task number one) ≡ rank_in task one
rank-group_seen task number None = refl
rank-group_seen task number (Some one) = by (position (λ member. member == task) one.members)
  where
    by : (o : Option ℕ) → option_map (λ (g : Group). g.rank) (group_at number one.members o) ≡ o
    by None = refl
    by (Some rank) = refl

pub seen_all-dup : (comms : List Communicator) (parent meeting : ℕ) (members : List ℕ) → seen_all (with_dup comms parent meeting members) ≡ duplicated (seen_all comms) members
seen_all-dup comms parent meeting members = map-append seen_of comms (made_by parent meeting members ∷ [])

map_made : (parent meeting : ℕ) (groups : List (List ℕ)) → map seen_of (map (made_by parent meeting) groups) ≡ map made_of groups
map_made parent meeting [] = refl
map_made parent meeting (g ∷ gs) = ap (λ ms. made_of g ∷ ms) (map_made parent meeting gs)

pub seen_all-split : (comms : List Communicator) (parent meeting : ℕ) (members : List ℕ) (chosen : List Chosen) → seen_all (with_split comms parent meeting members chosen) ≡ split_up (seen_all comms) members chosen
seen_all-split comms parent meeting members chosen =
    map-append seen_of comms (map (made_by parent meeting) (groups_of members chosen))
    ∙ ap (λ more. seen_all comms ++ more) (map_made parent meeting (groups_of members chosen))

freed_seen : (comms : List Communicator) (index : ℕ) (o : Option Communicator) → seen_all (freed_at comms index o) ≡ ended_at (seen_all comms) index (option_map seen_of o)
freed_seen comms index None = refl
freed_seen comms index (Some comm) = set_map seen_of comms index (record comm { lives = false })

pub seen_all-freed : (comms : List Communicator) (number : ℕ) → seen_all (freed comms number) ≡ ended (seen_all comms) number
seen_all-freed comms zero = refl
seen_all-freed comms (suc index) = freed_seen comms index (slice_get comms index) ∙ ap (ended_at (seen_all comms) index) (sym (get_map seen_of comms index))
