-- What a meeting leaves of the communicators that were made before it, and which numbers it gives its members.
use Rattle.std.proofs.Common.{◌≡◌, ℕ, zero, suc, ◌+◌, ◌<◌, ◌==◌, Bool, true, false, List, [], ◌∷◌, ◌++◌, length, get_or, refl, ap, sym, ◌∙◌, arith}
use Rattle.std.specs.Prelude.{◌||◌, Option, Some, None, slice_get, slice_set}
use Rattle.std.specs.Option.{option_map}
use Rattle.std.specs.List.{list_any}
use Rattle.std.proofs.lemmas.List.{length-map}
use Rattle.mpc_values.specs.declared.values.Word.{Word}
use Rattle.mpc_values.specs.declared.values.Word.TheVariants.{Comm}
use Rattle.mpc_values.specs.declared.collectives.Coll.{Coll}
use Rattle.mpc_values.specs.declared.collectives.CollKind.{CollKind}
use Rattle.mpc_values.specs.declared.collectives.CollKind.TheVariants.{Barrier, Bcast, Reduce, Allreduce, Scan, Exscan, Gather, Allgather, Scatter, Alltoall, Dup, Split, Free}
use Rattle.mpi_comm.specs.declared.communicators.Communicator.{Communicator}
use Rattle.mpi_comm.specs.Communicators.{comm_at}
use Rattle.mpi_comm.specs.Splitting.{groups_of}
use Rattle.mpi_comm.specs.Making.{with_dup, with_split, freed_at, freed, new_comm}
use Rattle.mpi_comm.specs.Numbers.{number_in, NoneMadeBy}
use Rattle.mpi_comm.specs.Seen.{seen_of, seen_all, tasks_in, members_at, duplicated, split_up}
use Rattle.mpi_comm.proofs.Keeping.{seen_at-all, seen_all-dup, seen_all-split, seen_all-freed}
use Rattle.mpi_comm.proofs.NewNumbers.{number-dup, number-split, dup-keeps, split-keeps, free-keeps, dup-makes_no_other, split-makes_no_other, free-makes_none}
use Rattle.mpi_coll.specs.declared.arrivals.Arrival.{Arrival}
use Rattle.mpi_coll.specs.Changes.{chosen_in, comms_after}
use Rattle.mpi_coll.specs.Shown.{outcome_in}
use Rattle.mpi_coll.specs.Concluding.{chosen_by, seen_after, number_to}
use Rattle.mpi_coll.specs.Together.{members_in, members_of, new_numbers}
use Rattle.mpi_coll.proofs.Comparisons.{eq_yes}

-- what is kept of a communicator has its members
pub members-seen : (comms : List Communicator) (comm : ℕ) → members_at (seen_all comms) comm ≡ members_of comms comm
members-seen comms comm = ap tasks_in (seen_at-all comms comm) ∙ of (comm_at comms comm)
  where
    of : (o : Option Communicator) → tasks_in (option_map seen_of o) ≡ members_in o
    of None = refl
    of (Some c) = refl

members-front : (comms more : List Communicator) (index : ℕ) → 0 < length (members_in (slice_get comms index)) → members_in (slice_get (comms ++ more) index) ≡ members_in (slice_get comms index)
members-front [] more index h = absurd (omega arith)
members-front (x ∷ comms) more zero h = refl
members-front (x ∷ comms) more (suc index) h = members-front comms more index h

-- communicators that are made later change no members
pub members-more : (comms more : List Communicator) (comm : ℕ) → 0 < length (members_of comms comm) → members_of (comms ++ more) comm ≡ members_of comms comm
members-more comms more zero h = refl
members-more comms more (suc index) h = members-front comms more index h

members-set : (comms : List Communicator) (place : ℕ) (c d : Communicator) → slice_get comms place ≡ Some c → d.members ≡ c.members → (index : ℕ) → members_in (slice_get (slice_set comms place d) index) ≡ members_in (slice_get comms index)
members-set [] place c d got same index = refl
members-set (x ∷ comms) zero c d got same zero = let is : x ≡ c = cc in same ∙ ap (λ (y : Communicator). y.members) (sym is)
members-set (x ∷ comms) zero c d got same (suc index) = refl
members-set (x ∷ comms) (suc place) c d got same zero = refl
members-set (x ∷ comms) (suc place) c d got same (suc index) = members-set comms place c d got same index

-- nor does a free
pub members-freed : (comms : List Communicator) (number comm : ℕ) → members_of (freed comms number) comm ≡ members_of comms comm
members-freed comms zero comm = refl
members-freed comms (suc place) zero = refl
members-freed comms (suc place) (suc index) = at (slice_get comms place) refl
  where
    at : (o : Option Communicator) → slice_get comms place ≡ o → members_in (slice_get (freed_at comms place o) index) ≡ members_in (slice_get comms index)
    at None got = refl
    at (Some c) got = members-set comms place c (record c { lives = false }) got refl index

-- Communicators that one meeting changed: those that were made keep their members, and what other meetings made stays.
pub record Grows (old new : List Communicator) (comm meeting : ℕ) : Type 0 where
  pub kept : (other : ℕ) → 0 < length (members_of old other) → members_of new other ≡ members_of old other
  pub numbers : (task parent turn : ℕ) → ((comm ≡ parent) × (meeting ≡ turn) → ⊥) → new_comm new task parent turn ≡ new_comm old task parent turn
  pub unmade : (parent turn : ℕ) → ((comm ≡ parent) × (meeting ≡ turn) → ⊥) → NoneMadeBy old parent turn → NoneMadeBy new parent turn

pub Grows-itself : (comms : List Communicator) (comm meeting : ℕ) → Grows comms comms comm meeting
Grows-itself comms comm meeting = record {
  kept = λ other h. refl;
  numbers = λ task parent turn apart. refl;
  unmade = λ parent turn apart none. none;
}

pub Grows-after : (what : CollKind) (comms : List Communicator) (comm meeting : ℕ) (members : List ℕ) (arrivals : List Arrival) → Grows comms (comms_after what comms comm meeting members arrivals) comm meeting
Grows-after Dup comms comm meeting members arrivals = record {
  kept = λ other h. members-more comms _ other h;
  numbers = λ task parent turn apart. dup-keeps comms task parent turn comm meeting members apart;
  unmade = λ parent turn apart none. dup-makes_no_other comms parent turn comm meeting members apart none;
}
Grows-after Split comms comm meeting members arrivals = record {
  kept = λ other h. members-more comms _ other h;
  numbers = λ task parent turn apart. split-keeps comms task parent turn comm meeting members (chosen_in arrivals) apart;
  unmade = λ parent turn apart none. split-makes_no_other comms parent turn comm meeting members (chosen_in arrivals) apart none;
}
Grows-after Free comms comm meeting members arrivals = record {
  kept = λ other h. members-freed comms comm other;
  numbers = λ task parent turn apart. free-keeps comms task parent turn comm;
  unmade = λ parent turn apart none. free-makes_none comms parent turn comm none;
}
Grows-after Barrier comms comm meeting members arrivals = Grows-itself comms comm meeting
Grows-after Bcast comms comm meeting members arrivals = Grows-itself comms comm meeting
Grows-after Reduce comms comm meeting members arrivals = Grows-itself comms comm meeting
Grows-after Allreduce comms comm meeting members arrivals = Grows-itself comms comm meeting
Grows-after Scan comms comm meeting members arrivals = Grows-itself comms comm meeting
Grows-after Exscan comms comm meeting members arrivals = Grows-itself comms comm meeting
Grows-after Gather comms comm meeting members arrivals = Grows-itself comms comm meeting
Grows-after Allgather comms comm meeting members arrivals = Grows-itself comms comm meeting
Grows-after Scatter comms comm meeting members arrivals = Grows-itself comms comm meeting
Grows-after Alltoall comms comm meeting members arrivals = Grows-itself comms comm meeting

-- what is kept of communicators changes as they do
pub seen-after : (what : CollKind) (comms : List Communicator) (comm meeting : ℕ) (arrivals : List Arrival) (asked : List Coll) → chosen_in arrivals ≡ chosen_by asked
    → seen_all (comms_after what comms comm meeting (members_of comms comm) arrivals) ≡ seen_after what (seen_all comms) comm asked
seen-after Dup comms comm meeting arrivals asked same =
    seen_all-dup comms comm meeting (members_of comms comm) ∙ ap (duplicated (seen_all comms)) (sym (members-seen comms comm))
seen-after Split comms comm meeting arrivals asked same =
    seen_all-split comms comm meeting (members_of comms comm) (chosen_in arrivals)
    ∙ (ap (split_up (seen_all comms) (members_of comms comm)) same ∙ ap (λ ms. split_up (seen_all comms) ms (chosen_by asked)) (sym (members-seen comms comm)))
seen-after Free comms comm meeting arrivals asked same = seen_all-freed comms comm
seen-after Barrier comms comm meeting arrivals asked same = refl
seen-after Bcast comms comm meeting arrivals asked same = refl
seen-after Reduce comms comm meeting arrivals asked same = refl
seen-after Allreduce comms comm meeting arrivals asked same = refl
seen-after Scan comms comm meeting arrivals asked same = refl
seen-after Exscan comms comm meeting arrivals asked same = refl
seen-after Gather comms comm meeting arrivals asked same = refl
seen-after Allgather comms comm meeting arrivals asked same = refl
seen-after Scatter comms comm meeting arrivals asked same = refl
seen-after Alltoall comms comm meeting arrivals asked same = refl

or_true : (a b : Bool) → b ≡ true → (a || b) ≡ true
or_true true b h = refl
or_true false b h = h

-- the task of a rank is a member
has-task : (members : List ℕ) (rank : ℕ) → rank < length members → list_any (λ member. member == get_or members rank 0) members ≡ true
has-task [] rank h = absurd (omega arith)
has-task (x ∷ members) zero h = ap (λ b. b || list_any (λ member. member == x) members) (eq_yes x x refl)
has-task (x ∷ members) (suc rank) h = or_true (x == get_or members rank 0) _ (has-task members rank (omega arith))

-- The number that a meeting gives a member is that of the communicator that it makes for the member.
pub numbers-after : (what : CollKind) (comms : List Communicator) (comm meeting : ℕ) (arrivals : List Arrival) (asked : List Coll) (rank : ℕ) (words : List Word)
    → NoneMadeBy comms comm meeting → rank < length (members_of comms comm) → chosen_in arrivals ≡ chosen_by asked
    → outcome_in what (number_to what (seen_all comms) comm asked rank) words
    ≡ outcome_in what (new_numbers (comms_after what comms comm meeting (members_of comms comm) arrivals) comm meeting rank) words
numbers-after Dup comms comm meeting arrivals asked rank words none within same =
    let members = members_of comms comm in
    let kept : members_of (with_dup comms comm meeting members) comm ≡ members = members-more comms _ comm (omega arith) in
    ap (λ n. Comm n ∷ []) (ap (λ n. n + 1) (length-map comms seen_of)
    ∙ (sym (number-dup comms (get_or members rank 0) comm meeting members none (has-task members rank within))
    ∙ ap (λ ms. new_comm (with_dup comms comm meeting members) (get_or ms rank 0) comm meeting) (sym kept)))
numbers-after Split comms comm meeting arrivals asked rank words none within same =
    let members = members_of comms comm in
    let kept : members_of (with_split comms comm meeting members (chosen_in arrivals)) comm ≡ members = members-more comms _ comm (omega arith) in
    ap (λ n. Comm n ∷ []) (ap (λ n. number_in (n + 1) (groups_of (members_at (seen_all comms) comm) (chosen_by asked)) (get_or (members_at (seen_all comms) comm) rank 0)) (length-map comms seen_of)
    ∙ (ap (λ ms. number_in (length comms + 1) (groups_of ms (chosen_by asked)) (get_or ms rank 0)) (members-seen comms comm)
    ∙ (ap (λ cs. number_in (length comms + 1) (groups_of members cs) (get_or members rank 0)) (sym same)
    ∙ (sym (number-split comms (get_or members rank 0) comm meeting members (chosen_in arrivals) none)
    ∙ ap (λ ms. new_comm (with_split comms comm meeting members (chosen_in arrivals)) (get_or ms rank 0) comm meeting) (sym kept)))))
numbers-after Free comms comm meeting arrivals asked rank words none within same = refl
numbers-after Barrier comms comm meeting arrivals asked rank words none within same = refl
numbers-after Bcast comms comm meeting arrivals asked rank words none within same = refl
numbers-after Reduce comms comm meeting arrivals asked rank words none within same = refl
numbers-after Allreduce comms comm meeting arrivals asked rank words none within same = refl
numbers-after Scan comms comm meeting arrivals asked rank words none within same = refl
numbers-after Exscan comms comm meeting arrivals asked rank words none within same = refl
numbers-after Gather comms comm meeting arrivals asked rank words none within same = refl
numbers-after Allgather comms comm meeting arrivals asked rank words none within same = refl
numbers-after Scatter comms comm meeting arrivals asked rank words none within same = refl
numbers-after Alltoall comms comm meeting arrivals asked rank words none within same = refl
