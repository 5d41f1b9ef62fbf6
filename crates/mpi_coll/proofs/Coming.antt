-- One arrival: the tables of its communicator, which are made where there were none, and those of all others.
use Rattle.std.proofs.Common.{◌≡◌, ◌≢◌, ℕ, ◌<◌, true, false, cond, List, length, get_or, set, Result, Ok, Err, OnErr, ap, sym, ◌∙◌, subst, arith}
use Rattle.std.specs.Prelude.{Some, slice_get}
use Rattle.std.proofs.lemmas.List.{get_or_read, get_or-set_same, get_or-set_other}
use Rattle.std.proofs.lemmas.List.FromFn.{length-map-range_with_len}
use Rattle.std.proofs.lemmas.Option.{slice_get_within}
use Rattle.mpc_values.specs.declared.values.Word.{Word}
use Rattle.mpc_values.specs.declared.collectives.Coll.{Coll}
use Rattle.mpi_comm.specs.declared.communicators.Communicator.{Communicator}
use Rattle.mpi_comm.specs.declared.communicators.Seen.{Seen}
use Rattle.mpi_comm.specs.Seen.{seen_all, members_at}
use Rattle.mpi_coll.specs.Rooms.{Gathered, Tables, begun, size_in, place_of, made_by, prepared, is_last, entered, filled, IsWhole}
use Rattle.mpi_coll.specs.Kept.{room_at, opened_as, differs_at}
use Rattle.mpi_coll.specs.Concluding.{outcome_to, outcomes_to, concluded, arrived_in, seen_after, seen_concluded, seen_arrived}
use Rattle.mpi_coll.specs.Together.{members_of, Remains, FitsSize, Arrives, Stays}
use Rattle.mpi_coll.proofs.Tables.{Last-from_test, prepared_there}
use Rattle.mpi_coll.proofs.Opened.{made-opened_as, size-opened_as}
use Rattle.mpi_coll.proofs.Communicators.{members-seen}
use Rattle.mpi_coll.proofs.Together.{same_at, number-made, all-same, all-remain, all-arrive, seen-arrive}

pub on_err : {T E : Type 0} (P : Type 0) (r : Result T E) → P → OnErr r P
on_err P (Ok x) h = tt
on_err P (Err e) h = h

-- what is written down waits at the member's place
pub waits-prepared : (t : Tables) → IsWhole t → (rank : ℕ) → rank < length t.made → (coll : Coll) (words : List Word) → place_of (prepared t rank coll words) rank < length (prepared t rank coll words).waiting
waits-prepared t whole rank within coll words =
    let one = prepared_there t whole rank within coll words in
    slice_get_within (prepared t rank coll words).waiting (place_of t rank) _ one.1

module _ (p : Tables) (rank : ℕ) (coll : Coll) (seen : List Seen) (comm : ℕ) where
  module _ (last : is_last p rank ≡ true) where
    pub results-each : (results : List (List Word)) → ((g : Gathered) → slice_get p.waiting 0 ≡ Some g → results ≡ outcomes_to coll seen comm g.asked g.given (size_in p)) → length results ≡ size_in p
    results-each results are =
        let l = Last-from_test p rank last in
        ap length (are l.first l.there) ∙ length-map-range_with_len (outcome_to coll seen comm l.first.asked l.first.given) 0 (size_in p)

    pub arrived-filled : (q : Tables) (results : List (List Word)) → ((g : Gathered) → slice_get p.waiting 0 ≡ Some g → results ≡ outcomes_to coll seen comm g.asked g.given (size_in p)) → q ≡ filled p rank results → q ≡ arrived_in p rank coll seen comm
    unfolding arrived_in
    arrived-filled q results are is =
        let l = Last-from_test p rank last in
        is ∙ (ap (filled p rank) (are l.first l.there)
        ∙ (ap (concluded p rank coll seen comm) (sym l.there)
        ∙ ap (λ b. cond b (concluded p rank coll seen comm (slice_get p.waiting 0)) (entered p rank)) (sym last)))

    pub changed-filled : (later : List Seen) → ((g : Gathered) → slice_get p.waiting 0 ≡ Some g → later ≡ seen_after coll.what seen comm g.asked) → later ≡ seen_arrived p rank coll seen comm
    unfolding seen_arrived
    changed-filled later are =
        let l = Last-from_test p rank last in
        are l.first l.there
        ∙ (ap (seen_concluded coll.what seen comm) (sym l.there)
        ∙ ap (λ b. cond b (seen_concluded coll.what seen comm (slice_get p.waiting 0)) seen) (sym last))

  module _ (last : is_last p rank ≡ false) where
    pub arrived-entered : (q : Tables) → q ≡ entered p rank → q ≡ arrived_in p rank coll seen comm
    unfolding arrived_in
    arrived-entered q is = is ∙ ap (λ b. cond b (concluded p rank coll seen comm (slice_get p.waiting 0)) (entered p rank)) (sym last)

    pub changed-entered : seen ≡ seen_arrived p rank coll seen comm
    unfolding seen_arrived
    changed-entered = ap (λ b. cond b (seen_concluded coll.what seen comm (slice_get p.waiting 0)) seen) (sym last)

-- the tables of the communicator, once they are there
module _ (old there : List Tables) (comm n : ℕ) (room : Tables) (in_it : comm < length there) (read : room ≡ get_or there comm room) (here : room_at there comm ≡ opened_as (room_at old comm) n) where
  pub room-is : room ≡ opened_as (room_at old comm) n
  room-is = get_or_read there comm room in_it read (begun 0) ∙ here

  pub room-made : (rank : ℕ) → made_by room rank ≡ made_by (room_at old comm) rank
  room-made rank = ap (λ (t : Tables). made_by t rank) room-is ∙ made-opened_as (room_at old comm) n rank

  module _ (fits : FitsSize (room_at old comm) n) where
    pub room-size : size_in room ≡ n
    room-size = ap size_in room-is ∙ size-opened_as (room_at old comm) n fits

-- the tables behind a change of those of one communicator
pub changed-here : (there : List Tables) (comm : ℕ) (t : Tables) → comm < length there → room_at (set there comm t) comm ≡ t
changed-here there comm t within = get_or-set_same there comm t (begun 0) within

pub changed-others : (old there : List Tables) (comm : ℕ) (t : Tables) → ((other : ℕ) → other ≢ comm → room_at there other ≡ room_at old other) → (other : ℕ) → other ≢ comm → room_at (set there comm t) other ≡ room_at old other
changed-others old there comm t others other nay = get_or-set_other there comm other t (begun 0) nay ∙ others other nay

-- nothing was made
pub stays-same : (old new : List Tables) (comm : ℕ) (seen : List Seen) → room_at new comm ≡ room_at old comm → ((other : ℕ) → other ≢ comm → room_at new other ≡ room_at old other) → Stays old new seen
stays-same old new comm seen here others comms arrivals all is = all-same old comms arrivals all comm new (same_at old new comm here others)

module _ (old new : List Tables) (seen : List Seen) (comm rank : ℕ) (o : Tables) (opened : o ≡ opened_as (room_at old comm) (length (members_at seen comm))) (within : rank < length (members_at seen comm))
    (others : (other : ℕ) → other ≢ comm → room_at new other ≡ room_at old other) where
  -- the tables stand for what they stood for
  pub stays-opened : (u : Tables) → Remains o u → room_at new comm ≡ u → Stays old new seen
  stays-opened u remains here comms arrivals all is =
      let same : members_at seen comm ≡ members_of comms comm = ap (λ s. members_at s comm) (sym is) ∙ members-seen comms comm in
      all-remain old comms arrivals all comm new o u (opened ∙ ap (λ ms. opened_as (room_at old comm) (length ms)) same) remains (omega (arith, within, ap length same)) here others

  -- the tables and the communicators stand for the arrivals with this one
  pub arrives-next : (coll : Coll) (words : List Word) (later : List Seen) → IsWhole o → differs_at old comm rank coll ≡ false
      → room_at new comm ≡ arrived_in (prepared o rank coll words) rank coll seen comm → later ≡ seen_arrived (prepared o rank coll words) rank coll seen comm
      → Arrives old new seen later comm rank coll words
  arrives-next coll words later whole alike here changed = record {
    shows = λ comms arrivals all is.
        let w = within_of comms is in
        all-arrive old comms arrivals all comm rank coll words w (number-made comms comm rank w) (subst IsWhole (opened_of comms is) whole) alike new
        (here ∙ (ap (λ u. arrived_in (prepared u rank coll words) rank coll seen comm) (opened_of comms is) ∙ ap (λ s. arrived_in (prepared (opened_as (room_at old comm) (length (members_of comms comm))) rank coll words) rank coll s comm) (sym is))) others;
    changes = λ comms arrivals all is.
        let w = within_of comms is in
        seen-arrive old comms arrivals all comm rank coll words w (number-made comms comm rank w) (subst IsWhole (opened_of comms is) whole) alike
        ∙ (ap (λ s. seen_arrived (prepared (opened_as (room_at old comm) (length (members_of comms comm))) rank coll words) rank coll s comm) is
        ∙ (ap (λ u. seen_arrived (prepared u rank coll words) rank coll seen comm) (sym (opened_of comms is)) ∙ sym changed));
  }
    where
      same_members : (comms : List Communicator) → seen_all comms ≡ seen → members_at seen comm ≡ members_of comms comm
      same_members comms is = ap (λ s. members_at s comm) (sym is) ∙ members-seen comms comm

      within_of : (comms : List Communicator) → seen_all comms ≡ seen → rank < length (members_of comms comm)
      within_of comms is = omega (arith, within, ap length (same_members comms is))

      opened_of : (comms : List Communicator) → seen_all comms ≡ seen → o ≡ opened_as (room_at old comm) (length (members_of comms comm))
      opened_of comms is = opened ∙ ap (λ ms. opened_as (room_at old comm) (length ms)) (same_members comms is)
