-- What the tables tell of the arrivals: whether a call differs, whether a member can leave, and what it gets.
use Rattle.std.proofs.Common.{◌≡◌, ◌≢◌, ℕ, suc, ◌+◌, ◌<◌, ◌≤◌, Bool, true, false, cond, ◌==◌, ◌&&◌, not, List, [], ◌∷◌, length, get_or, inl, inr, refl, ap, sym, ◌∙◌, subst, arith}
use Rattle.std.specs.Prelude.{◌||◌, Option, Some, None, find, slice_get, nat_lt}
use Rattle.std.specs.List.{list_any, last_or}
use Rattle.std.proofs.lemmas.Bool.{false≢true, cases_lt}
use Rattle.std.proofs.lemmas.List.{get_or_past}
use Rattle.mpc_values.specs.declared.collectives.Coll.{Coll}
use Rattle.mpi_coll.specs.declared.arrivals.Arrival.{Arrival}
use Rattle.mpi_coll.specs.Meetings.{agree, is_at, arrivals_of, next_meeting, latest_arrival, is_full, differs}
use Rattle.mpi_coll.specs.Rooms.{Gathered, Tables, size_in, made_by, gone_by, place_of, past, differs_from, differs_in, is_due, departed, IsWhole}
use Rattle.mpi_coll.specs.Shown.{is_of, arrival_at, with_leave, outcome, is_ready_at, is_ready, Shows}
use Rattle.mpi_coll.proofs.Comparisons.{lt_yes, lt_no, lt_from, ge_from, eq_from, ne_from, both_from, not_from, no_left, no_second}
use Rattle.mpi_coll.proofs.Agreeing.{agree-mirror, agree-along}
use Rattle.mpi_coll.proofs.Lists.{counts_some, passes_somewhere, last_or-some, is_some-true, there_is}
use Rattle.mpi_coll.proofs.Turns.{none-after}
use Rattle.mpi_coll.proofs.Showing.{full_is}
use Rattle.mpi_coll.proofs.Leaving.{find-passes, shows-leave}

-- no item passes a test
none_passes : (p : Arrival → Bool) (xs : List Arrival) → ((i : ℕ) (a : Arrival) → slice_get xs i ≡ Some a → p a ≡ false) → list_any p xs ≡ false
none_passes p [] nay = refl
none_passes p (x ∷ xs) nay = ap (λ b. b || list_any p xs) (nay 0 x refl) ∙ none_passes p xs (λ i a got. nay (suc i) a got)

passed_here : (b c : Bool) → b ≡ true → (b || c) ≡ true
passed_here true c h = refl
passed_here false c h = absurd (false≢true h)

passed_later : (b c : Bool) → c ≡ true → (b || c) ≡ true
passed_later true c h = refl
passed_later false c h = h

found_front : (p : Arrival → Bool) (x a : Arrival) (o : Option Arrival) (b rest : Bool) → p a ≡ true → (o ≡ Some a → rest ≡ true) → cond b (Some x) o ≡ Some a → (p x || rest) ≡ true
found_front p x a o true rest aye later got = let same : x ≡ a = cc in passed_here (p x) rest (ap p same ∙ aye)
found_front p x a o false rest aye later got = passed_later (p x) rest (later got)

-- what is found passes another test
found_passes : (q p : Arrival → Bool) (xs : List Arrival) (a : Arrival) → find q xs ≡ Some a → p a ≡ true → list_any p xs ≡ true
found_passes q p [] a got aye = let nay : ⊥ = cc in absurd nay
found_passes q p (x ∷ xs) a got aye = found_front p x a (find q xs) (q x) (list_any p xs) aye (λ there. found_passes q p xs a there aye) got

not_not : (b : Bool) → not (not b) ≡ b
not_not true = refl
not_not false = refl

-- a meeting is full where the member's number of arrivals is not past the number of full ones
not_past : (full made meeting : ℕ) → meeting + 1 ≡ made → not (nat_lt full made) ≡ nat_lt meeting full
not_past full made meeting turn = elim (cases_lt full made) [
  | inl lt ↦ ap not (lt_yes full made lt) ∙ sym (lt_no meeting full (omega (arith, turn, lt)))
  | inr ge ↦ ap not (lt_no full made ge) ∙ sym (lt_yes meeting full (omega (arith, turn, ge)))
]

-- a list without a last item is empty
last_or-none : (xs : List Arrival) → last_or None xs ≡ None → xs ≡ []
last_or-none [] h = refl
last_or-none (x ∷ xs) h = let one = last_or-some (x ∷ xs) (omega arith) in let e = one.1 in let nay : ⊥ = cc in absurd nay

module _ (numbers : ℕ → ℕ → ℕ) (t : Tables) (whole : IsWhole t) (arrivals : List Arrival) (comm : ℕ) (shows : Shows numbers t arrivals comm) where
  -- an arrival at a meeting is the one that is found for its member
  own : (meeting index : ℕ) (a : Arrival) → slice_get arrivals index ≡ Some a → is_at comm meeting a ≡ true → arrival_at arrivals comm meeting a.rank ≡ Some a
  own meeting index a got at =
      let two = both_from (a.comm == comm) (a.meeting == meeting) at in
      let here : a.comm ≡ comm = eq_from a.comm comm two.0 in
      let same : a.meeting ≡ meeting = eq_from a.meeting meeting two.1 in
      subst (λ m. arrival_at arrivals comm m a.rank ≡ Some a) same (shows.turns.once index a got here)

  module _ (rank : ℕ) (within : rank < length t.made) (coll : Coll) where
    abbrev meeting : ℕ
    meeting = next_meeting arrivals comm rank

    place_is : t.full + place_of t rank ≡ meeting
    place_is = let low = whole.low rank within in let m = shows.made rank in omega arith

    abbrev test : Arrival → Bool
    test a = is_at comm meeting a && not (agree a.coll coll)

    -- nobody has arrived at the meeting
    nobody : ((r : ℕ) → get_or t.made r 0 ≤ meeting) → list_any test arrivals ≡ false
    nobody none = none_passes test arrivals (λ i a got. no_second (is_at comm meeting a) (not (agree a.coll coll)) (λ at.
        let there : arrival_at arrivals comm meeting a.rank ≡ Some a = own meeting i a got at in
        let missing : arrival_at arrivals comm meeting a.rank ≡ None = none-after arrivals comm shows.turns meeting a.rank (let m = shows.made a.rank in let n = none a.rank in omega arith) in
        let nay : ⊥ = cc in absurd nay))

    -- no member is past the meeting
    beyond : (r : ℕ) → meeting < get_or t.made r 0 → past t.made meeting ≡ 0 → ⊥
    beyond r lt none = elim (cases_lt r (length t.made)) [
      | inl in_it ↦ let s = counts_some (λ n. nat_lt meeting n) t.made r 0 in_it (lt_yes meeting (get_or t.made r 0) lt) in omega (arith, s, none)
      | inr past_it ↦ omega (arith, lt, get_or_past t.made r 0 past_it)
    ]

    nobody_past : past t.made meeting ≡ 0 → (r : ℕ) → get_or t.made r 0 ≤ meeting
    nobody_past none r = elim (cases_lt meeting (get_or t.made r 0)) [
      | inl lt ↦ absurd (beyond r lt none)
      | inr ge ↦ ge
    ]

    -- an arrival at the meeting agrees with the first, and the call does not
    passed : (g : Gathered) (a : Arrival) (b : Bool) → agree a.coll coll ≡ b → agree g.coll coll ≡ false → is_at comm meeting a ≡ true → agree g.coll a.coll ≡ true → test a ≡ true
    passed g a true aye nay at h = absurd (false≢true (sym nay ∙ agree-along g.coll a.coll coll h aye))
    passed g a false different nay at h = rw (at, different) refl

    met : (g : Gathered) → slice_get t.waiting (place_of t rank) ≡ Some g → (b c : Bool) → (g.arrived == 0) ≡ b → agree g.coll coll ≡ c → (not b && not c) ≡ list_any test arrivals
    met g there true c is agreed =
        let w = whole.gathered (place_of t rank) g there in
        let none : past t.made meeting ≡ 0 = ap (past t.made) (sym place_is) ∙ (sym w.counted ∙ eq_from g.arrived 0 is) in
        sym (nobody (nobody_past none))
    met g there false true is agreed =
        sym (none_passes test arrivals (λ i a got. no_second (is_at comm meeting a) (not (agree a.coll coll)) (λ at.
        let came : arrival_at arrivals comm (t.full + place_of t rank) a.rank ≡ Some a = ap (λ m. arrival_at arrivals comm m a.rank) place_is ∙ own meeting i a got at in
        let h = shows.held (place_of t rank) a.rank g a there came in
        ap not (agree-along a.coll g.coll coll (agree-mirror g.coll a.coll h.agrees) agreed))))
    met g there false false is agreed =
        let w = whole.gathered (place_of t rank) g there in
        let arrived : g.arrived ≢ 0 = ne_from g.arrived 0 is in
        let some : 0 < past t.made meeting = omega (arith, ap (past t.made) place_is, w.counted, arrived) in
        let one = passes_somewhere (λ n. nat_lt meeting n) t.made 0 some in
        let came = is_some-true (arrival_at arrivals comm meeting one.0) (shows.turns.came meeting one.0 ∙ (ap (nat_lt meeting) (sym (shows.made one.0)) ∙ one.2)) in
        let h = shows.held (place_of t rank) one.0 g came.0 there (ap (λ m. arrival_at arrivals comm m one.0) place_is ∙ came.1) in
        let two = both_from (is_at comm meeting came.0) (came.0.rank == one.0) (find-passes (is_of comm meeting one.0) arrivals came.0 came.1) in
        sym (found_passes (is_of comm meeting one.0) test arrivals came.0 came.1 (passed g came.0 (agree came.0.coll coll) refl agreed two.0 h.agrees))

    told : (o : Option Gathered) → slice_get t.waiting (place_of t rank) ≡ o → differs_from o coll ≡ list_any test arrivals
    told None is = sym (nobody (λ r. elim (cases_lt (place_of t rank) (length t.waiting)) [
      | inl lt ↦ let one = there_is t.waiting (place_of t rank) lt in let got = one.1 in let nay : ⊥ = cc in absurd nay
      | inr ge ↦ omega (arith, ge, whole.high r, place_is)
    ]))
    told (Some g) is = met g is (g.arrived == 0) (agree g.coll coll) refl refl

    -- a call of the member differs from an earlier one of its next meeting
    pub tells-differs : differs_in t rank coll ≡ differs arrivals comm meeting coll
    tells-differs = told (slice_get t.waiting (place_of t rank)) refl

  -- a member can leave
  ready_at : (rank : ℕ) → rank < size_in t → (o : Option Arrival) → latest_arrival arrivals comm rank ≡ o → is_due t rank ≡ is_ready_at arrivals comm (size_in t) o
  ready_at rank within None got =
      let never : next_meeting arrivals comm rank ≡ 0 = ap length (last_or-none (arrivals_of arrivals comm rank) got) in
      no_left (nat_lt (gone_by t rank) (made_by t rank)) (not (nat_lt t.full (made_by t rank))) (lt_no (gone_by t rank) (made_by t rank) (omega (arith, shows.made rank, never)))
  ready_at rank within (Some a) got =
      let turn : a.meeting + 1 ≡ made_by t rank = shows.turns.latest rank a got ∙ sym (shows.made rank) in
      let here : nat_lt (gone_by t rank) (made_by t rank) ≡ not a.left = sym (not_not (nat_lt (gone_by t rank) (made_by t rank))) ∙ ap not (sym (shows.left rank a got)) in
      let full : not (nat_lt t.full (made_by t rank)) ≡ is_full arrivals comm (size_in t) a.meeting =
      not_past t.full (made_by t rank) a.meeting turn ∙ sym (full_is t arrivals comm whole shows.turns shows.made (omega (arith, within)) a.meeting) in
      ap (λ b. b && not (nat_lt t.full (made_by t rank))) here ∙ ap (λ b. not a.left && b) full

  pub tells-ready : (rank : ℕ) → rank < size_in t → is_due t rank ≡ is_ready arrivals comm (size_in t) rank
  tells-ready rank within = ready_at rank within (latest_arrival arrivals comm rank) refl

  -- what is due to a member: it is one, its latest meeting is the last that is full, and it has not left
  pub due-within : (rank : ℕ) → is_due t rank ≡ true → (rank < size_in t) × (made_by t rank ≡ t.full) × (gone_by t rank < made_by t rank)
  due-within rank due =
      let two = both_from (nat_lt (gone_by t rank) (made_by t rank)) (not (nat_lt t.full (made_by t rank))) due in
      let gone : gone_by t rank < made_by t rank = lt_from (gone_by t rank) (made_by t rank) two.0 in
      let full : made_by t rank ≤ t.full = ge_from t.full (made_by t rank) (not_from (nat_lt t.full (made_by t rank)) two.1) in
      let within : rank < length t.made = elim (cases_lt rank (length t.made)) [
        | inl lt ↦ lt
        | inr ge ↦ absurd (omega (arith, gone, get_or_past t.made rank 0 ge))
      ] in
      (within, omega (arith, full, whole.low rank within), gone)

  -- what the member gets is the outcome of its latest meeting
  pub tells-outcome : (rank : ℕ) (a : Arrival) → is_due t rank ≡ true → latest_arrival arrivals comm rank ≡ Some a → slice_get t.results rank ≡ Some (outcome numbers arrivals comm (size_in t) rank a)
  tells-outcome rank a due got =
      let d = due-within rank due in
      shows.due rank a d.0 got (shows.turns.latest rank a got ∙ (sym (shows.made rank) ∙ d.1))
      (shows.left rank a got ∙ ap not (lt_yes (gone_by t rank) (made_by t rank) d.2))

  -- the tables after a leave
  pub shows-leaves : (rank : ℕ) → is_due t rank ≡ true → Shows numbers (departed t rank) (with_leave arrivals comm rank) comm
  shows-leaves rank due = let d = due-within rank due in shows-leave numbers t arrivals comm shows rank (omega (arith, d.0, whole.even))
