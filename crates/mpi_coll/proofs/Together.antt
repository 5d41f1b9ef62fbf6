-- The tables of all communicators stand for the communicators and the arrivals after each step, and tell of them.
use Rattle.std.proofs.Common.{◌≡◌, ◌≢◌, ℕ, zero, suc, ◌+◌, ◌<◌, ◌≤◌, Bool, true, false, cond, not, List, [], ◌∷◌, length, map, get_or, inl, inr, refl, ap, sym, ◌∙◌, subst, arith}
use Rattle.std.specs.Prelude.{Some, None, slice_get, nat_lt}
use Rattle.std.specs.List.{range_with_len, last_or}
use Rattle.std.proofs.lemmas.Bool.{cases_eq, cases_lt}
use Rattle.std.proofs.lemmas.List.{get_or_past, length-set}
use Rattle.std.proofs.lemmas.List.FromFn.{length-map-range_with_len}
use Rattle.std.proofs.lemmas.Option.{get_or_from_slice_get, slice_get_within}
use Rattle.mpc_values.specs.declared.values.Word.{Word}
use Rattle.mpc_values.specs.declared.collectives.Coll.{Coll}
use Rattle.mpi_comm.specs.declared.communicators.Communicator.{Communicator}
use Rattle.mpi_comm.specs.declared.communicators.Seen.{Seen}
use Rattle.mpi_comm.specs.Making.{new_comm}
use Rattle.mpi_comm.specs.Numbers.{NoneMadeBy}
use Rattle.mpi_comm.specs.Seen.{seen_all}
use Rattle.mpi_coll.specs.declared.arrivals.Arrival.{Arrival}
use Rattle.mpi_coll.specs.Meetings.{arrivals_of, next_meeting, latest_arrival, meeting_of, is_full, differs}
use Rattle.mpi_coll.specs.Results.{result_of}
use Rattle.mpi_coll.specs.Changes.{chosen_in, comms_after}
use Rattle.mpi_coll.specs.Rooms.{Gathered, Tables, size_in, made_by, gone_by, place_of, differs_in, prepared, is_last, entered, filled, departed, IsWhole}
use Rattle.mpi_coll.specs.Shown.{with_next, with_leave, outcome_in, outcome, gotten, is_ready_at, is_ready, Shows}
use Rattle.mpi_coll.specs.Kept.{room_at, opened_as, differs_at, is_due_at}
use Rattle.mpi_coll.specs.Concluding.{chosen_by, outcome_to, outcomes_to, concluded, arrived_in, seen_after, seen_concluded, seen_arrived}
use Rattle.mpi_coll.specs.Together.{members_of, new_numbers, ShowsAll, Remains, FitsSize, comms_next}
use Rattle.mpi_coll.proofs.Comparisons.{lt_yes, lt_no, no_left}
use Rattle.mpi_coll.proofs.Lists.{ranks-same, nil-from_length}
use Rattle.mpi_coll.proofs.Showing.{full_is}
use Rattle.mpi_coll.proofs.Leaving.{shows-elsewhere, shows-leave_elsewhere}
use Rattle.mpi_coll.proofs.Tables.{Last-from_test, whole-enters, whole-fills, whole-prepared, prepared_there, shows-enters, shows-fills, asked-fills, next-fills}
use Rattle.mpi_coll.proofs.Telling.{tells-differs, tells-ready, tells-outcome, due-within, shows-leaves}
use Rattle.mpi_coll.proofs.Opened.{shows-numbers, shows-opened_as, full-opened_as, whole-opened_as, size-opened_as, differs-opened_as}
use Rattle.mpi_coll.proofs.Communicators.{Grows, Grows-itself, Grows-after, seen-after, numbers-after}

-- what holds of the tables of one communicator, and of those of all others, holds of all
pub each-room : (old new : List Tables) (comm : ℕ) (t : Tables) → room_at new comm ≡ t → ((other : ℕ) → other ≢ comm → room_at new other ≡ room_at old other)
    → (P : ℕ → Tables → Type 0) → P comm t → ((other : ℕ) → other ≢ comm → P other (room_at old other)) → (other : ℕ) → P other (room_at new other)
each-room old new comm t here others P own rest other = elim (cases_eq other comm) [
  | inl same ↦ subst (λ k. P k (room_at new k)) (sym same) (subst (P comm) (sym here) own)
  | inr nay ↦ subst (P other) (sym (others other nay)) (rest other nay)
]

-- the same of all, where it holds of the one
pub same_at : (old new : List Tables) (comm : ℕ) → room_at new comm ≡ room_at old comm → ((other : ℕ) → other ≢ comm → room_at new other ≡ room_at old other) → (other : ℕ) → room_at new other ≡ room_at old other
same_at old new comm here others other = elim (cases_eq other comm) [
  | inl same ↦ ap (room_at new) same ∙ (here ∙ ap (room_at old) (sym same))
  | inr nay ↦ others other nay
]

-- a communicator that has members has a number
pub number-made : (comms : List Communicator) (comm rank : ℕ) → rank < length (members_of comms comm) → 0 < comm
number-made comms zero rank h = absurd (omega arith)
number-made comms (suc index) rank h = omega arith

map-map : {X Y Z : Type 0} (f : Y → Z) (g : X → Y) (xs : List X) → map f (map g xs) ≡ map (λ x. f (g x)) xs
map-map f g [] = refl
map-map f g (x ∷ xs) = ap (λ zs. f (g x) ∷ zs) (map-map f g xs)

module _ (rooms : List Tables) (comms : List Communicator) (arrivals : List Arrival) (all : ShowsAll rooms comms arrivals) (comm : ℕ) where
  abbrev t : Tables
  t = room_at rooms comm

  abbrev members : List ℕ
  members = members_of comms comm

  abbrev numbers : ℕ → ℕ → ℕ
  numbers = new_numbers comms comm

  shows : Shows numbers t arrivals comm
  shows = all.each comm

  fits : FitsSize t (length members)
  fits = all.size comm

  module _ (whole : IsWhole t) where
    -- whether a call differs
    pub tells-differs_at : (rank : ℕ) (coll : Coll) → rank < length members → differs_at rooms comm rank coll ≡ differs arrivals comm (next_meeting arrivals comm rank) coll
    tells-differs_at rank coll within =
        differs-opened_as t (length members) fits rank coll within
        ∙ tells-differs numbers (opened_as t (length members)) (whole-opened_as t (length members) whole) arrivals comm (shows-opened_as t (length members) numbers arrivals comm shows)
        rank (let size = size-opened_as t (length members) fits in omega (arith, size, within)) coll

    -- whether a member can leave
    pub tells-is_due : (rank : ℕ) → is_due_at rooms comm rank ≡ is_ready arrivals comm (length members) rank
    tells-is_due rank = elim (cases_lt rank (size_in t)) [
      | inl lt ↦ tells-ready numbers t whole arrivals comm shows rank lt ∙ ap (λ n. is_ready arrivals comm n rank) (fits (omega (arith, lt)))
      | inr ge ↦
          let none : get_or t.made rank 0 ≡ 0 = get_or_past t.made rank 0 ge in
          let never : next_meeting arrivals comm rank ≡ 0 = sym (shows.made rank) ∙ none in
          no_left (nat_lt (gone_by t rank) (made_by t rank)) (not (nat_lt t.full (made_by t rank))) (lt_no (gone_by t rank) (made_by t rank) (omega (arith, none)))
          ∙ ap (is_ready_at arrivals comm (length members)) (sym (ap (last_or None) (nil-from_length (arrivals_of arrivals comm rank) never)))
    ]

    -- what it gets
    pub tells-gotten : (rank task : ℕ) (a : Arrival) (words : List Word) → is_due_at rooms comm rank ≡ true → slice_get t.results rank ≡ Some words → slice_get members rank ≡ Some task → latest_arrival arrivals comm rank ≡ Some a
        → words ≡ gotten arrivals comm (length members) rank (new_comm comms task comm a.meeting) a
    tells-gotten rank task a words due got there latest =
        let d = due-within numbers t whole arrivals comm shows rank due in
        let size : size_in t ≡ length members = fits (omega (arith, d.0)) in
        let given : slice_get t.results rank ≡ Some (outcome numbers arrivals comm (size_in t) rank a) = tells-outcome numbers t whole arrivals comm shows rank a due latest in
        let is : words ≡ outcome numbers arrivals comm (size_in t) rank a = cc in
        is
        ∙ (ap (λ n. outcome numbers arrivals comm n rank a) size
        ∙ ap (λ k. gotten arrivals comm (length members) rank (new_comm comms k comm a.meeting) a) (get_or_from_slice_get members rank task 0 there))

    -- the tables after a leave
    pub all-leave : (new : List Tables) (rank : ℕ) → is_due_at rooms comm rank ≡ true → room_at new comm ≡ departed t rank → ((other : ℕ) → other ≢ comm → room_at new other ≡ room_at rooms other)
        → ShowsAll new comms (with_leave arrivals comm rank)
    all-leave new rank due here others = record {
      each = each-room rooms new comm (departed t rank) here others (λ other u. Shows (new_numbers comms other) u (with_leave arrivals comm rank) other)
          (shows-leaves numbers t whole arrivals comm shows rank due)
          (λ other nay. shows-leave_elsewhere (new_numbers comms other) (room_at rooms other) arrivals other (all.each other) comm rank nay);
      size = each-room rooms new comm (departed t rank) here others (λ other u. FitsSize u (length (members_of comms other))) fits (λ other nay. all.size other);
      closed = each-room rooms new comm (departed t rank) here others (λ other u. size_in u ≡ 0 → u.full ≡ 0) (all.closed comm) (λ other nay. all.closed other);
      unmade = each-room rooms new comm (departed t rank) here others (λ other u. (meeting : ℕ) → 0 < other → u.full ≤ meeting → NoneMadeBy comms other meeting) (all.unmade comm) (λ other nay. all.unmade other);
    }

  -- tables that stay as they were, or as they are made
  pub all-remain : (new : List Tables) (o u : Tables) → o ≡ opened_as t (length members) → Remains o u → 0 < length members → room_at new comm ≡ u → ((other : ℕ) → other ≢ comm → room_at new other ≡ room_at rooms other)
      → ShowsAll new comms arrivals
  all-remain new o u is remains some here others = record {
    each = each-room rooms new comm u here others (λ other u. Shows (new_numbers comms other) u arrivals other)
        (remains.shows numbers arrivals comm (subst (λ o. Shows numbers o arrivals comm) (sym is) (shows-opened_as t (length members) numbers arrivals comm shows)))
        (λ other nay. all.each other);
    size = each-room rooms new comm u here others (λ other u. FitsSize u (length (members_of comms other))) (λ h. size) (λ other nay. all.size other);
    closed = each-room rooms new comm u here others (λ other u. size_in u ≡ 0 → u.full ≡ 0) (λ none. absurd (omega (arith, none, size, some))) (λ other nay. all.closed other);
    unmade = each-room rooms new comm u here others (λ other u. (meeting : ℕ) → 0 < other → u.full ≤ meeting → NoneMadeBy comms other meeting)
        (λ meeting h g. all.unmade comm meeting h (omega (arith, full, g))) (λ other nay. all.unmade other);
  }
    where
      size : size_in u ≡ length (members_of comms comm)
      size = remains.size ∙ (ap size_in is ∙ size-opened_as (room_at rooms comm) (length (members_of comms comm)) (all.size comm))

      full : u.full ≡ (room_at rooms comm).full
      full = remains.full ∙ (ap (λ (o : Tables). o.full) is ∙ full-opened_as (room_at rooms comm) (length (members_of comms comm)) (all.closed comm))

  -- the tables that stay as they were
  pub all-same : (new : List Tables) → ((other : ℕ) → room_at new other ≡ room_at rooms other) → ShowsAll new comms arrivals
  all-same new same = record {
    each = λ other. subst (λ u. Shows (new_numbers comms other) u arrivals other) (sym (same other)) (all.each other);
    size = λ other. subst (λ u. FitsSize u (length (members_of comms other))) (sym (same other)) (all.size other);
    closed = λ other. subst (λ (u : Tables). size_in u ≡ 0 → u.full ≡ 0) (sym (same other)) (all.closed other);
    unmade = λ other. subst (λ (u : Tables). (meeting : ℕ) → 0 < other → u.full ≤ meeting → NoneMadeBy comms other meeting) (sym (same other)) (all.unmade other);
  }

  module _ (rank : ℕ) (coll : Coll) (words : List Word) (within : rank < length members) (real : 0 < comm) where
    abbrev after : List Arrival
    after = with_next arrivals comm rank coll words

    -- What the arrival leaves, by the communicators and the tables after it.
    all-next : (new : List Tables) (later : List Communicator) (u : Tables) → Grows comms later comm t.full → Shows (new_numbers later comm) u after comm → size_in u ≡ length members → t.full ≤ u.full
        → ((meeting : ℕ) → u.full ≤ meeting → NoneMadeBy later comm meeting)
        → room_at new comm ≡ u → ((other : ℕ) → other ≢ comm → room_at new other ≡ room_at rooms other)
        → ShowsAll new later after
    all-next new later u grows own size more none here others = record {
      each = each-room rooms new comm u here others (λ other u. Shows (new_numbers later other) u after other) own
          (λ other nay. shows-numbers (new_numbers comms other) (new_numbers later other) (room_at rooms other) after other (same_numbers other nay)
          (shows-elsewhere (new_numbers comms other) (room_at rooms other) arrivals other (all.each other) comm rank coll words nay));
      size = each-room rooms new comm u here others (λ other u. FitsSize u (length (members_of later other)))
          (λ h. size ∙ ap length (sym (grows.kept comm (omega (arith, within)))))
          (λ other nay h. all.size other h ∙ ap length (sym (grows.kept other (omega (arith, h, all.size other h)))));
      closed = each-room rooms new comm u here others (λ other u. size_in u ≡ 0 → u.full ≡ 0) (λ empty. absurd (omega (arith, empty, size, within))) (λ other nay. all.closed other);
      unmade = each-room rooms new comm u here others (λ other u. (meeting : ℕ) → 0 < other → u.full ≤ meeting → NoneMadeBy later other meeting)
          (λ meeting h g. none meeting g)
          (λ other nay meeting h g. grows.unmade other meeting (λ both. nay (sym both.0)) (all.unmade other meeting h g));
    }
      where
        same_numbers : (other : ℕ) → other ≢ comm → (meeting r : ℕ) → meeting + 1 ≡ (room_at rooms other).full → r < size_in (room_at rooms other) → new_numbers comms other meeting r ≡ new_numbers later other meeting r
        same_numbers other nay meeting r at h =
            let size : size_in (room_at rooms other) ≡ length (members_of comms other) = all.size other (omega (arith, h)) in
            sym (grows.numbers (get_or (members_of comms other) r 0) other meeting (λ both. nay (sym both.0)))
            ∙ ap (λ ms. new_comm later (get_or ms r 0) other meeting) (sym (grows.kept other (omega (arith, h, size))))

    abbrev o : Tables
    o = opened_as t (length members)

    module _ (whole : IsWhole o) (alike : differs_at rooms comm rank coll ≡ false) where
      shows_o : Shows numbers o arrivals comm
      shows_o = shows-opened_as t (length members) numbers arrivals comm shows

      size_o : size_in o ≡ length members
      size_o = size-opened_as t (length members) fits

      full_o : o.full ≡ t.full
      full_o = full-opened_as t (length members) (all.closed comm)

      within_o : rank < length o.made
      within_o = let size : length o.made ≡ length members = size_o in omega (arith, size, within)

      same_o : differs_in o rank coll ≡ false
      same_o = sym (differs-opened_as t (length members) fits rank coll within) ∙ alike

      abbrev p : Tables
      p = prepared o rank coll words

      whole_p : IsWhole p
      whole_p = whole-prepared o whole rank within_o coll words

      abbrev meeting : ℕ
      meeting = next_meeting arrivals comm rank

      -- What comes of the arrival: the communicators, what is kept of them, and the tables.
      record Comes (u : Tables) (seen : List Seen) : Type 0 where
        later : List Communicator
        is : comms_next comms arrivals comm rank coll words ≡ later
        kept : seen_all later ≡ seen
        grows : Grows comms later comm t.full
        own : Shows (new_numbers later comm) u after comm
        size : size_in u ≡ length members
        more : t.full ≤ u.full
        none : (m : ℕ) → u.full ≤ m → NoneMadeBy later comm m

      -- an arrival that does not fill its meeting
      comes-entered : is_last p rank ≡ false → Comes (entered p rank) (seen_all comms)
      comes-entered last =
          let own : Shows numbers (entered p rank) after comm = shows-enters o whole rank within_o coll words numbers arrivals comm shows_o same_o in
          let one = prepared_there o whole rank within_o coll words in
          let waits : place_of p rank < length p.waiting = slice_get_within p.waiting (place_of p rank) _ one.1 in
          let whole_after : IsWhole (entered p rank) = whole-enters p whole_p rank within_o waits last in
          let long : length (entered p rank).made ≡ length members = length-set o.made rank (made_by o rank + 1) ∙ size_o in
          let full : is_full after comm (length members) meeting ≡ false =
          ap (λ n. is_full after comm n meeting) (sym long)
          ∙ (full_is (entered p rank) after comm whole_after own.turns own.made (omega (arith, long, within)) meeting
          ∙ lt_no meeting o.full (let low = whole.low rank within_o in let m = shows_o.made rank in omega (arith, low, m))) in
          record {
            later = comms;
            is = ap (λ b. cond b (comms_after coll.what comms comm meeting members (meeting_of after comm (length members) meeting)) comms) full;
            kept = refl;
            grows = Grows-itself comms comm t.full;
            own = own;
            size = long;
            more = omega (arith, full_o);
            none = λ m h. all.unmade comm m real (omega (arith, full_o, h));
          }

      module _ (g : Gathered) where
        abbrev arrived : List Arrival
        arrived = meeting_of after comm (length members) t.full

        abbrev changed : List Communicator
        changed = comms_after coll.what comms comm t.full members arrived

        abbrev others : ℕ → ℕ → ℕ
        others = new_numbers changed comm

        abbrev results : List (List Word)
        results = outcomes_to coll (seen_all comms) comm g.asked g.given (size_in p)

        grows_changed : Grows comms changed comm t.full
        grows_changed = Grows-after coll.what comms comm t.full members arrived

        -- the numbers of the last full meeting stay
        shows_others : Shows others o arrivals comm
        shows_others = shows-numbers numbers others o arrivals comm (λ m r at h.
            sym (grows_changed.numbers (get_or members r 0) comm m (λ both. omega (arith, both.1, at, full_o)))
            ∙ ap (λ ms. new_comm changed (get_or ms r 0) comm m) (sym (grows_changed.kept comm (omega (arith, within))))) shows_o

        module _ (last : is_last p rank ≡ true) (first : slice_get p.waiting 0 ≡ Some g) where
          -- what the members of a split ask is what is kept of the meeting
          chosen : chosen_in arrived ≡ chosen_by g.asked
          chosen =
              sym (map-map (λ (c : Coll). record { colour = c.colour; key = c.key }) (λ (b : Arrival). b.coll) arrived)
              ∙ (ap (λ n. chosen_by (map (λ (b : Arrival). b.coll) (meeting_of after comm n t.full))) (sym size_o)
              ∙ (ap (λ m. chosen_by (map (λ (b : Arrival). b.coll) (meeting_of after comm (size_in o) m))) (sym full_o)
              ∙ ap chosen_by (sym (asked-fills o whole rank within_o coll words numbers arrivals comm shows_o g same_o last first))))

          -- what all members get
          are : results ≡ map (λ r. outcome_in coll.what (others o.full r) (result_of coll r g.given)) (range_with_len 0 (size_in o))
          are = ranks-same (outcome_to coll (seen_all comms) comm g.asked g.given) (λ r. outcome_in coll.what (others o.full r) (result_of coll r g.given)) 0 (size_in o) (λ r h.
              numbers-after coll.what comms comm t.full arrived g.asked r (result_of coll r g.given)
              (all.unmade comm t.full real (omega arith)) (omega (arith, h, size_o)) chosen
              ∙ ap (λ m. outcome_in coll.what (others m r) (result_of coll r g.given)) (sym full_o))

          -- the arrival that fills its meeting
          comes-filled : Comes (filled p rank results) (seen_after coll.what (seen_all comms) comm g.asked)
          comes-filled =
              let own : Shows others (filled p rank results) after comm =
              shows-fills o whole rank within_o coll words others arrivals comm shows_others g results same_o last first are in
              let long : length (filled p rank results).made ≡ length members = length-set o.made rank (made_by o rank + 1) ∙ size_o in
              let whole_after : IsWhole (filled p rank results) = whole-fills p whole_p rank within_o results last
              (length-map-range_with_len (outcome_to coll (seen_all comms) comm g.asked g.given) 0 (size_in p)) in
              let next : meeting ≡ o.full = next-fills o whole rank within_o coll words numbers arrivals comm shows_o g same_o last first in
              let full : is_full after comm (length members) meeting ≡ true =
              ap (λ n. is_full after comm n meeting) (sym long)
              ∙ (full_is (filled p rank results) after comm whole_after own.turns own.made (omega (arith, long, within)) meeting
              ∙ lt_yes meeting (o.full + 1) (omega (arith, next))) in
              record {
                later = changed;
                is = ap (λ b. cond b (comms_after coll.what comms comm meeting members (meeting_of after comm (length members) meeting)) comms) full
                    ∙ ap (λ m. comms_after coll.what comms comm m members (meeting_of after comm (length members) m)) (next ∙ full_o);
                kept = seen-after coll.what comms comm t.full arrived g.asked chosen;
                grows = grows_changed;
                own = own;
                size = long;
                more = omega (arith, full_o);
                none = λ m h. grows_changed.unmade comm m (λ both. omega (arith, both.1, h, full_o)) (all.unmade comm m real (omega (arith, full_o, h)));
              }

      comes : Comes (arrived_in p rank coll (seen_all comms) comm) (seen_arrived p rank coll (seen_all comms) comm)
      unfolding arrived_in seen_arrived
      comes = by (is_last p rank) refl
        where
          by : (b : Bool) → is_last p rank ≡ b
              → Comes (cond b (concluded p rank coll (seen_all comms) comm (slice_get p.waiting 0)) (entered p rank)) (cond b (seen_concluded coll.what (seen_all comms) comm (slice_get p.waiting 0)) (seen_all comms))
          by false last = comes-entered last
          by true last =
              let l = Last-from_test p rank last in
              subst (λ first. Comes (concluded p rank coll (seen_all comms) comm first) (seen_concluded coll.what (seen_all comms) comm first)) (sym l.there)
              (comes-filled l.first last l.there)

      -- the tables of all communicators after the arrival
      pub all-arrive : (new : List Tables) → room_at new comm ≡ arrived_in p rank coll (seen_all comms) comm → ((other : ℕ) → other ≢ comm → room_at new other ≡ room_at rooms other)
          → ShowsAll new (comms_next comms arrivals comm rank coll words) after
      all-arrive new here others =
          let c = comes in
          subst (λ cs. ShowsAll new cs after) (sym c.is) (all-next new c.later (arrived_in p rank coll (seen_all comms) comm) c.grows c.own c.size c.more c.none here others)

      -- and what is kept of the communicators
      pub seen-arrive : seen_all (comms_next comms arrivals comm rank coll words) ≡ seen_arrived p rank coll (seen_all comms) comm
      seen-arrive = let c = comes in ap seen_all c.is ∙ c.kept
