-- The tables of a communicator stand for the arrivals after a leave, and after what happens at another communicator.
use Rattle.std.proofs.Common.{◌≡◌, ◌≢◌, ℕ, ◌+◌, ◌<◌, Bool, true, false, cond, ◌==◌, ◌&&◌, not, List, [], ◌∷◌, length, map, get_or, set, ◌⊎◌, inl, inr, refl, ap, sym, ◌∙◌, subst, arith}
use Rattle.std.specs.Prelude.{Option, Some, None, is_some, find, filter, filter_map, slice_get, nat_lt}
use Rattle.std.specs.Option.{option_map}
use Rattle.std.specs.List.{range_with_len, last_or, cons_option}
use Rattle.std.proofs.lemmas.Bool.{false≢true, cases_eq}
use Rattle.std.proofs.lemmas.List.{length-map, get_or-set_same, get_or-set_other}
use Rattle.std.proofs.lemmas.Option.{slice_get-map}
use Rattle.mpc_values.specs.declared.values.Word.{Word}
use Rattle.mpc_values.specs.declared.collectives.Coll.{Coll}
use Rattle.mpi_coll.specs.declared.arrivals.Arrival.{Arrival}
use Rattle.mpi_coll.specs.Meetings.{agree, arrivals_of, next_meeting, latest_arrival, meeting_of, is_full}
use Rattle.mpi_coll.specs.Results.{result_of}
use Rattle.mpi_coll.specs.Rooms.{Gathered, Tables, size_in}
use Rattle.mpi_coll.specs.Shown.{is_of, arrival_at, next_arrival, with_next, marked, with_leave, outcome_in, outcome, Holds, InTurn, Shows}
use Rattle.mpi_coll.proofs.Comparisons.{lt_no, eq_no, eq_from, both_yes, both_from, no_left, no_right}
use Rattle.mpi_coll.proofs.Turns.{is_by, arrival_at-kept, next-other, latest-other, meeting-kept, by-other, of-other, InTurn-elsewhere}
use Rattle.mpi_coll.proofs.Lists.{slice_get-set_other}
use Rattle.mpi_coll.proofs.Showing.{outcome-same}

-- a list whose items are changed in what a test does not look at
filter_front : {X : Type 0} (f : X → X) (x : X) (ys zs : List X) (b : Bool) → ys ≡ map f zs → cond b (f x ∷ ys) ys ≡ map f (cond b (x ∷ zs) zs)
filter_front f x ys zs true h = ap (λ ws. f x ∷ ws) h
filter_front f x ys zs false h = h

filter-change : {X : Type 0} (f : X → X) (p : X → Bool) (same : (x : X) → p (f x) ≡ p x) (xs : List X) → filter p (map f xs) ≡ map f (filter p xs)
filter-change f p same [] = refl
filter-change f p same (x ∷ xs) =
    ap (λ b. cond b (f x ∷ filter p (map f xs)) (filter p (map f xs))) (same x)
    ∙ filter_front f x (filter p (map f xs)) (filter p xs) (p x) (filter-change f p same xs)

find_front : {X : Type 0} (f : X → X) (x : X) (o r : Option X) (b : Bool) → o ≡ option_map f r → cond b (Some (f x)) o ≡ option_map f (cond b (Some x) r)
find_front f x o r true h = refl
find_front f x o r false h = h

find-change : {X : Type 0} (f : X → X) (p : X → Bool) (same : (x : X) → p (f x) ≡ p x) (xs : List X) → find p (map f xs) ≡ option_map f (find p xs)
find-change f p same [] = refl
find-change f p same (x ∷ xs) =
    ap (λ b. cond b (Some (f x)) (find p (map f xs))) (same x)
    ∙ find_front f x (find p (map f xs)) (find p xs) (p x) (find-change f p same xs)

last_or-change : (f : Arrival → Arrival) (o : Option Arrival) (xs : List Arrival) → last_or (option_map f o) (map f xs) ≡ option_map f (last_or o xs)
last_or-change f o [] = refl
last_or-change f o (x ∷ xs) = last_or-change f (Some x) xs

cons_front : (f : Arrival → Arrival) (o : Option Arrival) (ys zs : List Arrival) → ys ≡ map f zs → cons_option (option_map f o) ys ≡ map f (cons_option o zs)
cons_front f None ys zs h = h
cons_front f (Some a) ys zs h = ap (λ ws. f a ∷ ws) h

filter_map-change : (f : Arrival → Arrival) (g h : ℕ → Option Arrival) (ks : List ℕ) → ((k : ℕ) → g k ≡ option_map f (h k)) → filter_map g ks ≡ map f (filter_map h ks)
filter_map-change f g h [] same = refl
filter_map-change f g h (k ∷ ks) same =
    ap (λ o. cons_option o (filter_map g ks)) (same k) ∙ cons_front f (h k) (filter_map g ks) (filter_map h ks) (filter_map-change f g h ks same)

map-change : {Y : Type 0} (f : Arrival → Arrival) (g : Arrival → Y) (same : (a : Arrival) → g (f a) ≡ g a) (xs : List Arrival) → map g (map f xs) ≡ map g xs
map-change f g same [] = refl
map-change f g same (x ∷ xs) = rw (same x, map-change f g same xs) refl

passes_front : (p : Arrival → Bool) (x a : Arrival) (o : Option Arrival) (b : Bool) → p x ≡ b → (o ≡ Some a → p a ≡ true) → cond b (Some x) o ≡ Some a → p a ≡ true
passes_front p x a o true is later got = let same : x ≡ a = cc in subst (λ y. p y ≡ true) same is
passes_front p x a o false is later got = later got

pub find-passes : (p : Arrival → Bool) (xs : List Arrival) (a : Arrival) → find p xs ≡ Some a → p a ≡ true
find-passes p [] a got = let nay : ⊥ = cc in absurd nay
find-passes p (x ∷ xs) a got = passes_front p x a (find p xs) (p x) refl (find-passes p xs a) got

is_some-change : (f : Arrival → Arrival) (o : Option Arrival) → is_some (option_map f o) ≡ is_some o
is_some-change f None = refl
is_some-change f (Some a) = refl

change-some : (f : Arrival → Arrival) (o : Option Arrival) (b : Arrival) → option_map f o ≡ Some b → (a : Arrival) × (o ≡ Some a) × (b ≡ f a)
change-some f None b got = let nay : ⊥ = cc in absurd nay
change-some f (Some a) b got = (a, refl, cc)

-- A leave marks an arrival, and changes nothing else of it.
module _ (at by : ℕ) where
  abbrev mark : Arrival → Arrival
  mark = marked at by

  left_alone : (b : Bool) (a : Arrival) → let m : Arrival = cond b (record a { left = true }) a in
      (m.comm ≡ a.comm) × (m.rank ≡ a.rank) × (m.meeting ≡ a.meeting) × (m.coll ≡ a.coll) × (m.given ≡ a.given)
  left_alone true a = (refl, refl, refl, refl, refl)
  left_alone false a = (refl, refl, refl, refl, refl)

  alone : (a : Arrival) → ((mark a).comm ≡ a.comm) × ((mark a).rank ≡ a.rank) × ((mark a).meeting ≡ a.meeting) × ((mark a).coll ≡ a.coll) × ((mark a).given ≡ a.given)
  alone a = left_alone (is_by at by a) a

  mark-other : (a : Arrival) → is_by at by a ≡ false → mark a ≡ a
  mark-other a nay = ap (λ b. cond b (record a { left = true }) a) nay

  mark-own : (a : Arrival) → is_by at by a ≡ true → (mark a).left ≡ true
  mark-own a aye = ap (λ (b : Bool). (cond b (record a { left = true }) a).left) aye

  module _ (arrivals : List Arrival) (comm : ℕ) where
    same_by : (rank : ℕ) (a : Arrival) → is_by comm rank (mark a) ≡ is_by comm rank a
    same_by rank a = ap (λ c. c == comm && (mark a).rank == rank) (alone a).0 ∙ ap (λ r. a.comm == comm && r == rank) (alone a).1

    same_of : (meeting rank : ℕ) (a : Arrival) → is_of comm meeting rank (mark a) ≡ is_of comm meeting rank a
    same_of meeting rank a =
        ap (λ c. (c == comm && (mark a).meeting == meeting) && (mark a).rank == rank) (alone a).0
        ∙ (ap (λ m. (a.comm == comm && m == meeting) && (mark a).rank == rank) (alone a).2
        ∙ ap (λ r. (a.comm == comm && a.meeting == meeting) && r == rank) (alone a).1)

    arrivals_of-leave : (rank : ℕ) → arrivals_of (with_leave arrivals at by) comm rank ≡ map mark (arrivals_of arrivals comm rank)
    arrivals_of-leave rank = filter-change mark (is_by comm rank) (same_by rank) arrivals

    pub next-leave : (rank : ℕ) → next_meeting (with_leave arrivals at by) comm rank ≡ next_meeting arrivals comm rank
    next-leave rank = ap length (arrivals_of-leave rank) ∙ length-map (arrivals_of arrivals comm rank) mark

    latest-leave : (rank : ℕ) → latest_arrival (with_leave arrivals at by) comm rank ≡ option_map mark (latest_arrival arrivals comm rank)
    latest-leave rank = ap (last_or None) (arrivals_of-leave rank) ∙ last_or-change mark None (arrivals_of arrivals comm rank)

    arrival_at-leave : (meeting rank : ℕ) → arrival_at (with_leave arrivals at by) comm meeting rank ≡ option_map mark (arrival_at arrivals comm meeting rank)
    arrival_at-leave meeting rank = find-change mark (is_of comm meeting rank) (same_of meeting rank) arrivals

    meeting_of-leave : (size meeting : ℕ) → meeting_of (with_leave arrivals at by) comm size meeting ≡ map mark (meeting_of arrivals comm size meeting)
    meeting_of-leave size meeting = filter_map-change mark (arrival_at (with_leave arrivals at by) comm meeting) (arrival_at arrivals comm meeting) (range_with_len 0 size) (arrival_at-leave meeting)

    is_full-leave : (size meeting : ℕ) → is_full (with_leave arrivals at by) comm size meeting ≡ is_full arrivals comm size meeting
    is_full-leave size meeting = ap (λ n. n == size) (ap length (meeting_of-leave size meeting) ∙ length-map (meeting_of arrivals comm size meeting) mark)

    given-leave : (size meeting : ℕ) → map (λ (b : Arrival). b.given) (meeting_of (with_leave arrivals at by) comm size meeting) ≡ map (λ (b : Arrival). b.given) (meeting_of arrivals comm size meeting)
    given-leave size meeting = ap (map (λ (b : Arrival). b.given)) (meeting_of-leave size meeting) ∙ map-change mark (λ (b : Arrival). b.given) (λ a. (alone a).4) (meeting_of arrivals comm size meeting)

    module _ (turns : InTurn arrivals comm) where
      -- a member's latest arrival is its own
      latest-by : (rank : ℕ) (a : Arrival) → latest_arrival arrivals comm rank ≡ Some a → ((a.comm == comm && a.meeting == a.meeting) && a.rank == rank) ≡ true
      latest-by rank a got = find-passes (is_of comm a.meeting rank) arrivals a (turns.found rank a got)

      pub InTurn-leave : InTurn (with_leave arrivals at by) comm
      InTurn-leave = record {
        came = λ meeting rank. ap is_some (arrival_at-leave meeting rank) ∙ (is_some-change mark (arrival_at arrivals comm meeting rank)
            ∙ (turns.came meeting rank ∙ ap (nat_lt meeting) (sym (next-leave rank))));
        latest = λ rank b got.
            let one = change-some mark (latest_arrival arrivals comm rank) b (sym (latest-leave rank) ∙ got) in
            ap (λ (c : Arrival). c.meeting + 1) one.2 ∙ (ap (λ n. n + 1) (alone one.0).2 ∙ (turns.latest rank one.0 one.1 ∙ sym (next-leave rank)));
        found = λ rank b got.
            let one = change-some mark (latest_arrival arrivals comm rank) b (sym (latest-leave rank) ∙ got) in
            subst (λ (c : Arrival). arrival_at (with_leave arrivals at by) comm c.meeting rank ≡ Some c) (sym one.2)
            (ap (λ n. arrival_at (with_leave arrivals at by) comm n rank) (alone one.0).2
            ∙ (arrival_at-leave one.0.meeting rank ∙ ap (option_map mark) (turns.found rank one.0 one.1)));
        once = λ index b got own.
            let one = change-some mark (slice_get arrivals index) b (sym (slice_get-map mark arrivals index) ∙ got) in
            let s = alone one.0 in
            let here : one.0.comm ≡ comm = sym s.0 ∙ (ap (λ (c : Arrival). c.comm) (sym one.2) ∙ own) in
            subst (λ (c : Arrival). arrival_at (with_leave arrivals at by) comm c.meeting c.rank ≡ Some c) (sym one.2)
            (ap (λ n. arrival_at (with_leave arrivals at by) comm n (mark one.0).rank) s.2
            ∙ (ap (arrival_at (with_leave arrivals at by) comm one.0.meeting) s.1
            ∙ (arrival_at-leave one.0.meeting one.0.rank ∙ ap (option_map mark) (turns.once index one.0 one.1 here))));
      }

      -- an arrival of another member stays as it is
      latest-other_member : (rank : ℕ) (a : Arrival) → latest_arrival arrivals comm rank ≡ Some a → (comm ≢ at) ⊎ (rank ≢ by) → mark a ≡ a
      latest-other_member rank a got (inl nay) = mark-other a (no_left (a.comm == at) (a.rank == by) (eq_no a.comm at (λ e. nay (sym (eq_from a.comm comm (both_from (a.comm == comm) (a.meeting == a.meeting) (both_from (a.comm == comm && a.meeting == a.meeting) (a.rank == rank) (latest-by rank a got)).0).0) ∙ e))))
      latest-other_member rank a got (inr nay) = mark-other a (no_right (a.comm == at) (a.rank == by) (eq_no a.rank by (λ e. nay (sym (eq_from a.rank rank (both_from (a.comm == comm && a.meeting == a.meeting) (a.rank == rank) (latest-by rank a got)).1) ∙ e))))

      -- what another member has to get stays the same
      outcome-leave : (numbers : ℕ → ℕ → ℕ) (size rank : ℕ) (a : Arrival) → outcome numbers (with_leave arrivals at by) comm size rank a ≡ outcome numbers arrivals comm size rank a
      outcome-leave numbers size rank a =
          ap (λ given. outcome_in a.coll.what (numbers a.meeting rank) (result_of a.coll rank given)) (given-leave size a.meeting)

-- What holds of the tables of a communicator where a member of it, or of another, leaves.
module _ (numbers : ℕ → ℕ → ℕ) (t : Tables) (arrivals : List Arrival) (comm : ℕ) (shows : Shows numbers t arrivals comm) where
  held-leave : (at by p r : ℕ) (k : Gathered) (b : Arrival) → slice_get t.waiting p ≡ Some k → arrival_at (with_leave arrivals at by) comm (t.full + p) r ≡ Some b → Holds k r b
  held-leave at by p r k b got came =
      let one = change-some (marked at by) (arrival_at arrivals comm (t.full + p) r) b (sym (arrival_at-leave at by arrivals comm (t.full + p) r) ∙ came) in
      let h = shows.held p r k one.0 got one.1 in
      let s = alone at by one.0 in
      subst (Holds k r) (sym one.2) (record {
        agrees = subst (λ c. agree k.coll c ≡ true) (sym s.3) h.agrees;
        asked = h.asked ∙ ap (λ (c : Coll). Some c) (sym s.3);
        given = h.given ∙ ap (λ (ws : List Word). Some ws) (sym s.4);
      })

  -- the latest arrival of another member was there before
  was : (at by rank : ℕ) (b : Arrival) → latest_arrival (with_leave arrivals at by) comm rank ≡ Some b → (comm ≢ at) ⊎ (rank ≢ by) → latest_arrival arrivals comm rank ≡ Some b
  was at by rank b got other =
      let one = change-some (marked at by) (latest_arrival arrivals comm rank) b (sym (latest-leave at by arrivals comm rank) ∙ got) in
      one.1 ∙ ap (λ (c : Arrival). Some c) (sym (one.2 ∙ latest-other_member at by arrivals comm shows.turns rank one.0 one.1 other))

  -- a leave at another communicator
  pub shows-leave_elsewhere : (at by : ℕ) → comm ≢ at → Shows numbers t (with_leave arrivals at by) comm
  shows-leave_elsewhere at by nay = record {
    turns = InTurn-leave at by arrivals comm shows.turns;
    made = λ rank. shows.made rank ∙ sym (next-leave at by arrivals comm rank);
    held = held-leave at by;
    left = λ rank b got. let one = was at by rank b got (inl nay) in shows.left rank b one;
    due = λ rank b h got full unleft.
        let one = was at by rank b got (inl nay) in
        shows.due rank b h one full unleft ∙ ap (λ (ws : List Word). Some ws) (sym (outcome-leave at by arrivals comm shows.turns numbers (size_in t) rank b));
  }

  -- a member of this communicator leaves
  pub shows-leave : (by : ℕ) → by < length t.gone → Shows numbers (record t { gone = set t.gone by (get_or t.made by 0); results = set t.results by [] }) (with_leave arrivals comm by) comm
  shows-leave by within = record {
    turns = InTurn-leave comm by arrivals comm shows.turns;
    made = λ rank. shows.made rank ∙ sym (next-leave comm by arrivals comm rank);
    held = held-leave comm by;
    left = λ rank b got. elim (cases_eq rank by) [
      | inl same ↦
          let marks : b.left ≡ true = left_now rank b got same in
          let gone : get_or (set t.gone by (get_or t.made by 0)) rank 0 ≡ get_or t.made rank 0 =
          ap (λ k. get_or (set t.gone by (get_or t.made by 0)) k 0) same ∙ (get_or-set_same t.gone by (get_or t.made by 0) 0 within ∙ ap (λ k. get_or t.made k 0) (sym same)) in
          marks ∙ ap not (sym (lt_no (get_or (set t.gone by (get_or t.made by 0)) rank 0) (get_or t.made rank 0) (omega (arith, gone))))
      | inr nay ↦
          shows.left rank b (was comm by rank b got (inr nay))
          ∙ ap (λ n. not (nat_lt n (get_or t.made rank 0))) (sym (get_or-set_other t.gone by rank (get_or t.made by 0) 0 nay))
    ];
    due = λ rank b h got full unleft. elim (cases_eq rank by) [
      | inl same ↦ absurd (false≢true (sym unleft ∙ left_now rank b got same))
      | inr nay ↦
          slice_get-set_other t.results by [] rank nay
          ∙ (shows.due rank b h (was comm by rank b got (inr nay)) full unleft
          ∙ ap (λ (ws : List Word). Some ws) (sym (outcome-leave comm by arrivals comm shows.turns numbers (size_in t) rank b)))
    ];
  }
    where
      left_now : (rank : ℕ) (b : Arrival) → latest_arrival (with_leave arrivals comm by) comm rank ≡ Some b → rank ≡ by → b.left ≡ true
      left_now rank b got same =
          let one = change-some (marked comm by) (latest_arrival arrivals comm rank) b (sym (latest-leave comm by arrivals comm rank) ∙ got) in
          let own = latest-by comm by arrivals comm shows.turns rank one.0 one.1 in
          let two = both_from (one.0.comm == comm && one.0.meeting == one.0.meeting) (one.0.rank == rank) own in
          let here : (one.0.rank == by) ≡ true = ap (λ r. one.0.rank == r) (sym same) ∙ two.1 in
          let aye : is_by comm by one.0 ≡ true = both_yes (one.0.comm == comm) (one.0.rank == by) (both_from (one.0.comm == comm) (one.0.meeting == one.0.meeting) two.0).0 here in
          ap (λ (c : Arrival). c.left) one.2 ∙ mark-own comm by one.0 aye

  -- an arrival at another communicator
  pub shows-elsewhere : (at by : ℕ) (coll : Coll) (words : List Word) → comm ≢ at → Shows numbers t (with_next arrivals at by coll words) comm
  shows-elsewhere at by coll words nay = record {
    turns = InTurn-elsewhere arrivals comm at by coll words nay shows.turns;
    made = λ rank. shows.made rank ∙ sym (next-other arrivals (next_arrival arrivals at by coll words) comm rank (by-other arrivals at by coll words comm rank (inl nay)));
    held = λ p r k b got came.
        shows.held p r k b got (sym (arrival_at-kept arrivals (next_arrival arrivals at by coll words) comm r (t.full + p) (of-other arrivals at by coll words comm (t.full + p) r (inl nay))) ∙ came);
    left = λ rank b got. shows.left rank b (sym (latest-other arrivals (next_arrival arrivals at by coll words) comm rank (by-other arrivals at by coll words comm rank (inl nay))) ∙ got);
    due = λ rank b h got full unleft.
        shows.due rank b h (sym (latest-other arrivals (next_arrival arrivals at by coll words) comm rank (by-other arrivals at by coll words comm rank (inl nay))) ∙ got) full unleft
        ∙ ap (λ (ws : List Word). Some ws) (outcome-same numbers arrivals (with_next arrivals at by coll words) comm (size_in t) rank b
        (meeting-kept arrivals (next_arrival arrivals at by coll words) comm (size_in t) b.meeting (λ r. of-other arrivals at by coll words comm b.meeting r (inl nay))));
  }
