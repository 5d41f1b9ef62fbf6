-- What tables that stand for communicators and arrivals tell their caller.
use Rattle.std.proofs.Common.{◌≡◌, ℕ, ◌<◌, ◌≤◌, Bool, true, false, cond, ◌==◌, ◌&&◌, List, length, refl, sym, ◌∙◌, subst, arith}
use Rattle.std.specs.Prelude.{Option, Some, is_some, filter, filter_map, nat_lt}
use Rattle.std.specs.List.{range_with_len}
use Rattle.std.proofs.lemmas.List.Sums.{length-filter, count_by-le-length}
use Rattle.mpc_values.specs.declared.values.Word.{Word}
use Rattle.mpc_values.specs.declared.collectives.Coll.{Coll}
use Rattle.mpi_comm.specs.declared.communicators.Communicator.{Communicator}
use Rattle.mpi_comm.specs.Making.{new_comm}
use Rattle.mpi_coll.specs.declared.arrivals.Arrival.{Arrival}
use Rattle.mpi_coll.specs.Meetings.{next_meeting, latest_arrival, meeting_of, is_full}
use Rattle.mpi_coll.specs.Changes.{comms_after}
use Rattle.mpi_coll.specs.Rooms.{Tables, made_by}
use Rattle.mpi_coll.specs.Shown.{is_of, arrival_at, with_next}
use Rattle.mpi_coll.specs.Kept.{room_at}
use Rattle.mpi_coll.specs.Together.{members_of, comms_next, ShowsAll}
use Rattle.mpi_coll.proofs.Comparisons.{lt_from, eq_from, both_from}
use Rattle.mpi_coll.proofs.Lists.{length-filter_map-lt}
use Rattle.mpi_coll.proofs.Leaving.{find-passes}
use Rattle.mpi_coll.proofs.Communicators.{Grows-after}

filter_le : (p : Arrival → Bool) (xs : List Arrival) → length (filter p xs) ≤ length xs
filter_le p xs = omega (arith, length-filter p xs, count_by-le-length p xs)

-- a member has arrived at most as often as all have
pub few-made : (rooms : List Tables) (comms : List Communicator) (arrivals : List Arrival) (comm rank : ℕ) → ShowsAll rooms comms arrivals → made_by (room_at rooms comm) rank ≤ length arrivals
few-made rooms comms arrivals comm rank all =
    let shows = all.each comm in
    omega (arith, shows.made rank, filter_le (λ (a : Arrival). a.comm == comm && a.rank == rank) arrivals)

-- a member's latest arrival is one of the member
pub latest-own : (rooms : List Tables) (comms : List Communicator) (arrivals : List Arrival) (comm rank : ℕ) (a : Arrival) → ShowsAll rooms comms arrivals → latest_arrival arrivals comm rank ≡ Some a
    → (a.comm ≡ comm) × (a.rank ≡ rank)
latest-own rooms comms arrivals comm rank a all got =
    let shows = all.each comm in
    let own = find-passes (is_of comm a.meeting rank) arrivals a (shows.turns.found rank a got) in
    let two = both_from (a.comm == comm && a.meeting == a.meeting) (a.rank == rank) own in
    (eq_from a.comm comm (both_from (a.comm == comm) (a.meeting == a.meeting) two.0).0, eq_from a.rank rank two.1)

-- each rank is found where as many are
all_found : (f : ℕ → Option Arrival) (n r : ℕ) (b : Bool) → is_some (f r) ≡ b → r < n → length (filter_map f (range_with_len 0 n)) ≡ n → b ≡ true
all_found f n r true is h all = refl
all_found f n r false is h all =
    let less = length-filter_map-lt f 0 n r (omega arith) (omega arith) is in
    absurd (omega (arith, less, all))

-- No arrival changes what a full meeting made.
pub numbers-stay : (rooms : List Tables) (comms : List Communicator) (arrivals : List Arrival) (comm rank : ℕ) (coll : Coll) (words : List Word) (task parent turn : ℕ) → ShowsAll rooms comms arrivals
    → rank < length (members_of comms comm) → is_full arrivals parent (length (members_of comms parent)) turn ≡ true
    → new_comm (comms_next comms arrivals comm rank coll words) task parent turn ≡ new_comm comms task parent turn
numbers-stay rooms comms arrivals comm rank coll words task parent turn all within full = by (is_full after comm (length (members_of comms comm)) meeting)
  where
    after : List Arrival
    after = with_next arrivals comm rank coll words

    meeting : ℕ
    meeting = next_meeting arrivals comm rank

    apart : (comm ≡ parent) × (next_meeting arrivals comm rank ≡ turn) → ⊥
    apart both =
        let here : is_full arrivals comm (length (members_of comms comm)) turn ≡ true = subst (λ k. is_full arrivals k (length (members_of comms k)) turn ≡ true) (sym both.0) full in
        let count = eq_from (length (meeting_of arrivals comm (length (members_of comms comm)) turn)) (length (members_of comms comm)) here in
        let came = all_found (arrival_at arrivals comm turn) (length (members_of comms comm)) rank (is_some (arrival_at arrivals comm turn rank)) refl within count in
        let shows = all.each comm in
        let past = lt_from turn (next_meeting arrivals comm rank) (sym (shows.turns.came turn rank) ∙ came) in
        omega (arith, past, both.1)

    by : (b : Bool) → new_comm (cond b (comms_after coll.what comms comm (next_meeting arrivals comm rank) (members_of comms comm)
        (meeting_of (with_next arrivals comm rank coll words) comm (length (members_of comms comm)) (next_meeting arrivals comm rank))) comms) task parent turn ≡ new_comm comms task parent turn
    by true = (Grows-after coll.what comms comm (next_meeting arrivals comm rank) (members_of comms comm)
        (meeting_of (with_next arrivals comm rank coll words) comm (length (members_of comms comm)) (next_meeting arrivals comm rank))).numbers task parent turn apart
    by false = refl
