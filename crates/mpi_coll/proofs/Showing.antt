-- The tables of a communicator stand for the arrivals after each step.
use Rattle.std.proofs.Common.{◌≡◌, ◌≢◌, ℕ, ◌+◌, ◌-◌, ◌<◌, ◌≤◌, true, false, cond, ◌==◌, not, List, [], ◌∷◌, ◌++◌, length, map, drop, get_or, set, inl, inr, ap, sym, ◌∙◌, subst, arith}
use Rattle.std.specs.Prelude.{Some, None, is_some, slice_get, nat_lt}
use Rattle.std.proofs.lemmas.Bool.{cases_eq, cases_lt}
use Rattle.std.proofs.lemmas.List.{length-set, get_or-set_same, get_or-set_other, get_or_past}
use Rattle.std.proofs.lemmas.Option.{slice_get_within}
use Rattle.mpc_values.specs.declared.values.Word.{Word}
use Rattle.mpc_values.specs.declared.collectives.Coll.{Coll}
use Rattle.mpi_coll.specs.declared.arrivals.Arrival.{Arrival}
use Rattle.mpi_coll.specs.Meetings.{agree, next_meeting, latest_arrival, meeting_of, is_full}
use Rattle.mpi_coll.specs.Results.{result_of}
use Rattle.mpi_coll.specs.Rooms.{Gathered, Tables, size_in, past, fresh, put_in, come_to, IsWhole}
use Rattle.mpi_coll.specs.Shown.{arrival_at, next_arrival, with_next, outcome_in, outcome, Holds, InTurn, Shows}
use Rattle.mpi_coll.proofs.Agreeing.{agree-mirror, agree-along, Alike-from_agree, agree-result_of}
use Rattle.mpi_coll.proofs.Comparisons.{lt_yes, lt_no, lt_from, ge_from, eq_yes, eq_no}
use Rattle.mpi_coll.proofs.Lists.{length-filter_map-all, length-filter_map-lt, fails_somewhere, counts_some, is_some-true, filter_map-each, slice_get-push_cases, slice_get-set_cases, slice_get-set_other, slice_get-drop_1}
use Rattle.mpi_coll.proofs.Turns.{arrival_at-kept, arrival_at-new, next-own, next-other, latest-own, latest-other, meeting-kept, by-own, by-other, of-own, of-other, none-after, InTurn-next}

-- How many meetings are full, by the tables.
pub full_is : (t : Tables) (arrivals : List Arrival) (comm : ℕ) → IsWhole t → InTurn arrivals comm → ((rank : ℕ) → get_or t.made rank 0 ≡ next_meeting arrivals comm rank) → 0 < length t.made
    → (meeting : ℕ) → is_full arrivals comm (length t.made) meeting ≡ nat_lt meeting t.full
full_is t arrivals comm whole turns made some meeting = elim (cases_lt meeting t.full) [
  | inl lt ↦
      let all : length (meeting_of arrivals comm (length t.made) meeting) ≡ length t.made =
      length-filter_map-all (arrival_at arrivals comm meeting) 0 (length t.made) (λ rank h g.
      turns.came meeting rank ∙ (let low = whole.low rank (omega arith) in let m = made rank in
      lt_yes meeting (next_meeting arrivals comm rank) (omega arith))) in
      let aye : (length (meeting_of arrivals comm (length t.made) meeting) == length t.made) ≡ true = eq_yes (length (meeting_of arrivals comm (length t.made) meeting)) (length t.made) all in
      aye ∙ (sym (lt_yes meeting t.full (omega arith)))
  | inr ge ↦
      let one = fails_somewhere (λ n. nat_lt t.full n) t.made 0 (whole.behind some) in
      let m = made one.0 in
      let none : is_some (arrival_at arrivals comm meeting one.0) ≡ false =
      turns.came meeting one.0 ∙ (let f : get_or t.made one.0 0 ≤ t.full = ge_from t.full (get_or t.made one.0 0) one.2 in lt_no meeting (next_meeting arrivals comm one.0) (omega arith)) in
      let short : length (meeting_of arrivals comm (length t.made) meeting) < length t.made =
      length-filter_map-lt (arrival_at arrivals comm meeting) 0 (length t.made) one.0 (omega arith) (omega (arith, one.1)) none in
      let nay : (length (meeting_of arrivals comm (length t.made) meeting) == length t.made) ≡ false = eq_no (length (meeting_of arrivals comm (length t.made) meeting)) (length t.made) (λ e. omega (arith, e, short)) in
      nay ∙ (sym (lt_no meeting t.full (omega arith)))
]

-- the outcome of a meeting with the same arrivals
pub outcome-same : (numbers : ℕ → ℕ → ℕ) (arrivals after : List Arrival) (comm size rank : ℕ) (a : Arrival) → meeting_of after comm size a.meeting ≡ meeting_of arrivals comm size a.meeting
    → outcome numbers arrivals comm size rank a ≡ outcome numbers after comm size rank a
outcome-same numbers arrivals after comm size rank a same =
    ap (λ (bs : List Arrival). outcome_in a.coll.what (numbers a.meeting rank) (result_of a.coll rank (map (λ (b : Arrival). b.given) bs))) (sym same)

module _ (numbers : ℕ → ℕ → ℕ) (t : Tables) (whole : IsWhole t) (arrivals : List Arrival) (comm : ℕ) (shows : Shows numbers t arrivals comm) where
  -- one meeting more waits, which nobody has come to
  pub shows-opened : (coll : Coll) → Shows numbers (record t { waiting = t.waiting ++ fresh (size_in t) coll ∷ [] }) arrivals comm
  shows-opened coll = record {
    turns = shows.turns;
    made = shows.made;
    held = λ place rank g a got came. elim (slice_get-push_cases t.waiting (fresh (size_in t) coll) g place got) [
      | inl old ↦ shows.held place rank g a old came
      | inr new ↦
          let e = whole.high rank in let m = shows.made rank in
          let none : arrival_at arrivals comm (t.full + place) rank ≡ None = none-after arrivals comm shows.turns (t.full + place) rank (omega (arith, new.0)) in
          let nay : ⊥ = cc in absurd nay
    ];
    left = shows.left;
    due = shows.due;
  }

  -- what a member asks and gives at its next meeting is written down
  pub shows-put : (place rank : ℕ) (coll : Coll) (words : List Word) (g : Gathered) → slice_get t.waiting place ≡ Some g → t.full + place ≡ next_meeting arrivals comm rank
      → Shows numbers (record t { waiting = set t.waiting place (put_in g rank coll words) }) arrivals comm
  shows-put place rank coll words g there next = record {
    turns = shows.turns;
    made = shows.made;
    held = λ p r k a got came. elim (slice_get-set_cases t.waiting place (put_in g rank coll words) k p got) [
      | inl here ↦
          let came_here : arrival_at arrivals comm (t.full + place) r ≡ Some a = subst (λ q. arrival_at arrivals comm (t.full + q) r ≡ Some a) here.0 came in
          subst (λ k. Holds k r a) (sym here.1) (elim (cases_eq r rank) [
            | inl same ↦
                let none : arrival_at arrivals comm (t.full + place) r ≡ None = none-after arrivals comm shows.turns (t.full + place) r (omega (arith, next, ap (next_meeting arrivals comm) same)) in
                let nay : ⊥ = cc in absurd nay
            | inr other ↦ of_other r a other came_here
          ])
      | inr old ↦ shows.held p r k a old.1 came
    ];
    left = shows.left;
    due = shows.due;
  }
    where
      of_other : (r : ℕ) (a : Arrival) → r ≢ rank → arrival_at arrivals comm (t.full + place) r ≡ Some a → Holds (put_in g rank coll words) r a
      of_other r a other came =
          let h = shows.held place r g a there came in
          let w = whole.gathered place g there in
          let is : nat_lt (t.full + place) (get_or t.made r 0) ≡ true =
          ap (nat_lt (t.full + place)) (shows.made r) ∙ (sym (shows.turns.came (t.full + place) r) ∙ ap is_some came) in
          let within : r < length t.made = elim (cases_lt r (length t.made)) [
            | inl lt ↦ lt
            | inr ge ↦ let e : get_or t.made r 0 ≡ 0 = get_or_past t.made r 0 ge in let lt : t.full + place < get_or t.made r 0 = lt_from (t.full + place) (get_or t.made r 0) is in absurd (omega arith)
          ] in
          let some : 0 < past t.made (t.full + place) = counts_some (λ n. nat_lt (t.full + place) n) t.made r 0 within is in
          let not_first : (g.arrived == 0) ≡ false = eq_no g.arrived 0 (λ e. omega (arith, e, w.counted, some)) in
          record {
            agrees = ap (λ b. agree (cond b coll g.coll) a.coll) not_first ∙ h.agrees;
            asked = slice_get-set_other g.asked rank coll r other ∙ h.asked;
            given = slice_get-set_other g.given rank words r other ∙ h.given;
          }

  module _ (rank : ℕ) (within : rank < length t.made) (coll : Coll) (words : List Word) where
    abbrev a : Arrival
    a = next_arrival arrivals comm rank coll words

    abbrev after : List Arrival
    after = with_next arrivals comm rank coll words

    abbrev more_made : List ℕ
    more_made = set t.made rank (get_or t.made rank 0 + 1)

    long : length more_made ≡ length t.made
    long = length-set t.made rank (get_or t.made rank 0 + 1)

    latest_own : latest_arrival after comm rank ≡ Some a
    latest_own = latest-own arrivals a comm rank (by-own arrivals comm rank coll words)

    latest_other : (r : ℕ) → r ≢ rank → latest_arrival after comm r ≡ latest_arrival arrivals comm r
    latest_other r nay = latest-other arrivals a comm r (by-other arrivals comm rank coll words comm r (inr nay))

    made_after : (r : ℕ) → get_or more_made r 0 ≡ next_meeting after comm r
    made_after r = elim (cases_eq r rank) [
      | inl same ↦ subst (λ k. get_or more_made k 0 ≡ next_meeting after comm k) (sym same)
          (get_or-set_same t.made rank (get_or t.made rank 0 + 1) 0 within
          ∙ (ap (λ n. n + 1) (shows.made rank) ∙ sym (next-own arrivals a comm rank (by-own arrivals comm rank coll words))))
      | inr nay ↦ get_or-set_other t.made rank r (get_or t.made rank 0 + 1) 0 nay
          ∙ (shows.made r ∙ sym (next-other arrivals a comm r (by-other arrivals comm rank coll words comm r (inr nay))))
    ]

    -- what a waiting meeting holds of the arrivals after this one
    held_after : (p r : ℕ) (k : Gathered) (b : Arrival) → slice_get t.waiting p ≡ Some k → (t.full + p ≡ next_meeting arrivals comm rank → Holds k rank a)
        → arrival_at after comm (t.full + p) r ≡ Some b → Holds k r b
    held_after p r k b got own came = elim (cases_eq r rank) [
      | inl same ↦ elim (cases_eq (t.full + p) (next_meeting arrivals comm rank)) [
        | inl here ↦
            let new : arrival_at after comm (next_meeting arrivals comm rank) rank ≡ Some a =
            arrival_at-new arrivals a comm rank (next_meeting arrivals comm rank) (of-own arrivals comm rank coll words) (none-after arrivals comm shows.turns (next_meeting arrivals comm rank) rank (omega arith)) in
            let is : arrival_at after comm (next_meeting arrivals comm rank) rank ≡ Some b = subst (λ n. arrival_at after comm n rank ≡ Some b) here (subst (λ q. arrival_at after comm (t.full + p) q ≡ Some b) same came) in
            let e : a ≡ b = cc in
            subst (λ q. Holds k q b) (sym same) (subst (Holds k rank) e (own here))
        | inr nay ↦ shows.held p r k b got (sym (arrival_at-kept arrivals a comm r (t.full + p) (of-other arrivals comm rank coll words comm (t.full + p) r (inr (inr nay)))) ∙ came)
      ]
      | inr nay ↦ shows.held p r k b got (sym (arrival_at-kept arrivals a comm r (t.full + p) (of-other arrivals comm rank coll words comm (t.full + p) r (inr (inl nay)))) ∙ came)
    ]

    -- the marks of the arrivals after this one
    left_after : (r : ℕ) (b : Arrival) → latest_arrival after comm r ≡ Some b → b.left ≡ not (nat_lt (get_or t.gone r 0) (get_or more_made r 0))
    left_after r b got = elim (cases_eq r rank) [
      | inl same ↦
          let is : latest_arrival after comm rank ≡ Some b = subst (λ q. latest_arrival after comm q ≡ Some b) same got in
          let own = latest_own in
          let e : a ≡ b = cc in
          let more : get_or more_made r 0 ≡ get_or t.made rank 0 + 1 = ap (λ q. get_or more_made q 0) same ∙ get_or-set_same t.made rank (get_or t.made rank 0 + 1) 0 within in
          let gone : get_or t.gone r 0 ≤ get_or t.made rank 0 = omega (arith, whole.left r, ap (λ q. get_or t.made q 0) same) in
          ap (λ (b : Arrival). b.left) (sym e) ∙ ap not (sym (lt_yes (get_or t.gone r 0) (get_or more_made r 0) (omega (arith, more, gone))))
      | inr nay ↦
          shows.left r b (sym (latest_other r nay) ∙ got)
          ∙ ap (λ n. not (nat_lt (get_or t.gone r 0) n)) (sym (get_or-set_other t.made rank r (get_or t.made rank 0 + 1) 0 nay))
    ]

    -- an arrival that does not fill its meeting
    pub shows-entered : (g : Gathered) → slice_get t.waiting (get_or t.made rank 0 - t.full) ≡ Some g → Holds g rank a
        → Shows numbers (record t { made = more_made; waiting = set t.waiting (get_or t.made rank 0 - t.full) (come_to g) }) after comm
    shows-entered g there holds = record {
      turns = InTurn-next arrivals comm shows.turns rank coll words;
      made = made_after;
      held = λ p r k b got came. elim (slice_get-set_cases t.waiting (get_or t.made rank 0 - t.full) (come_to g) k p got) [
        | inl here ↦
            let place_there : slice_get t.waiting p ≡ Some g = ap (slice_get t.waiting) here.0 ∙ there in
            let h = held_after p r g b place_there (λ _. holds) came in
            subst (λ k. Holds k r b) (sym here.1) (record { agrees = h.agrees; asked = h.asked; given = h.given })
        | inr old ↦
            held_after p r k b old.1 (λ here. absurd (old.0 (let e = shows.made rank in omega (arith, here)))) came
      ];
      left = left_after;
      due = λ r b h got at unleft. elim (cases_eq r rank) [
        | inl same ↦
            let is : latest_arrival after comm rank ≡ Some b = subst (λ q. latest_arrival after comm q ≡ Some b) same got in
            let own = latest_own in
            let e : a ≡ b = cc in
            absurd (omega (arith, at, ap (λ (b : Arrival). b.meeting) e, shows.made rank, whole.low rank within))
        | inr nay ↦
            let before : latest_arrival arrivals comm r ≡ Some b = sym (latest_other r nay) ∙ got in
            shows.due r b (omega (arith, h, long)) before at unleft
            ∙ ap (λ (ws : List Word). Some ws) (ap (λ n. outcome numbers arrivals comm n r b) (sym long)
            ∙ outcome-same numbers arrivals after comm (length more_made) r b
            (meeting-kept arrivals a comm (length more_made) b.meeting (λ q. of-other arrivals comm rank coll words comm b.meeting q (inr (inr (λ e. omega (arith, e, at, shows.made rank, whole.low rank within)))))))
      ];
    }

    -- the arrival that fills the first meeting
    pub shows-filled : (g : Gathered) (results : List (List Word)) → slice_get t.waiting 0 ≡ Some g → Holds g rank a → get_or t.made rank 0 ≡ t.full → length g.given ≡ length t.made
        → ((r : ℕ) → r < length t.made → slice_get results r ≡ Some (outcome_in coll.what (numbers t.full r) (result_of coll r g.given)))
        → ((r : ℕ) → r < length more_made → t.full + 1 ≤ get_or more_made r 0)
        → Shows numbers (record t { made = more_made; full = t.full + 1; results = results; waiting = drop 1 t.waiting }) after comm
    shows-filled g results there holds next each_given each low = record {
      turns = turns_after;
      made = made_after;
      held = λ p r k b got came.
          held_after (p + 1) r k b (sym (slice_get-drop_1 t.waiting p) ∙ got)
          (λ here. absurd (omega (arith, here, next, shows.made rank)))
          (ap (λ n. arrival_at after comm n r) (omega arith) ∙ came);
      left = left_after;
      due = λ r b h got at unleft. each r (omega (arith, h, long)) ∙ ap (λ (ws : List Word). Some ws) (sym (outcome_each r b (omega (arith, h, long)) got (omega (arith, at))));
    }
      where
        turns_after : InTurn after comm
        turns_after = InTurn-next arrivals comm shows.turns rank coll words

        -- what the meeting holds of an arrival at it
        held_there : (r : ℕ) (b : Arrival) → arrival_at after comm t.full r ≡ Some b → Holds g r b
        held_there r b came = held_after 0 r g b there (λ _. holds) (ap (λ n. arrival_at after comm n r) (omega arith) ∙ came)

        arrived_there : (k : ℕ) (words : List Word) → slice_get g.given k ≡ Some words → (b : Arrival) × (arrival_at after comm t.full (0 + k) ≡ Some b) × (words ≡ b.given)
        arrived_there k words got =
            let within : k < length g.given = slice_get_within g.given k words got in
            let past : nat_lt t.full (next_meeting after comm k) ≡ true = lt_yes t.full (next_meeting after comm k) (omega (arith, low k (omega (arith, each_given, long, within)), made_after k)) in
            let one = is_some-true (arrival_at after comm t.full k) (turns_after.came t.full k ∙ past) in
            let h = held_there k one.0 one.1 in
            let same : words ≡ one.0.given = let e = h.given in cc in
            (one.0, ap (arrival_at after comm t.full) (omega arith) ∙ one.1, same)

        given_there : g.given ≡ map (λ (b : Arrival). b.given) (meeting_of after comm (length more_made) t.full)
        given_there =
            filter_map-each (arrival_at after comm t.full) (λ (b : Arrival). b.given) g.given 0 arrived_there
            ∙ ap (λ n. map (λ (b : Arrival). b.given) (meeting_of after comm n t.full)) (each_given ∙ sym long)

        outcome_each : (r : ℕ) (b : Arrival) → r < length t.made → latest_arrival after comm r ≡ Some b → b.meeting ≡ t.full
            → outcome numbers after comm (length more_made) r b ≡ outcome_in coll.what (numbers t.full r) (result_of coll r g.given)
        outcome_each r b h got at =
            let came : arrival_at after comm t.full r ≡ Some b = subst (λ n. arrival_at after comm n r ≡ Some b) at (turns_after.found r b got) in
            let hb = held_there r b came in
            let alike : agree b.coll coll ≡ true = agree-along b.coll g.coll coll (agree-mirror g.coll b.coll hb.agrees) holds.agrees in
            ap (λ m. outcome_in b.coll.what (numbers m r) (result_of b.coll r (map (λ (c : Arrival). c.given) (meeting_of after comm (length more_made) m)))) at
            ∙ (ap (λ ws. outcome_in b.coll.what (numbers t.full r) (result_of b.coll r ws)) (sym given_there)
            ∙ (ap (λ w. outcome_in w (numbers t.full r) (result_of b.coll r g.given)) (Alike-from_agree b.coll coll alike).what
            ∙ ap (λ ws. outcome_in coll.what (numbers t.full r) ws) (agree-result_of b.coll coll r g.given alike)))

    -- what all have asked at the meeting that an arrival fills
    pub asked-filled : (g : Gathered) → slice_get t.waiting 0 ≡ Some g → Holds g rank a → get_or t.made rank 0 ≡ t.full → length g.asked ≡ length t.made
        → ((r : ℕ) → r < length more_made → t.full + 1 ≤ get_or more_made r 0)
        → g.asked ≡ map (λ (b : Arrival). b.coll) (meeting_of after comm (length t.made) t.full)
    asked-filled g there holds next each_asked low =
        filter_map-each (arrival_at after comm t.full) (λ (b : Arrival). b.coll) g.asked 0 asked_there
        ∙ ap (λ n. map (λ (b : Arrival). b.coll) (meeting_of after comm n t.full)) each_asked
      where
        turns_after : InTurn after comm
        turns_after = InTurn-next arrivals comm shows.turns rank coll words

        asked_there : (k : ℕ) (call : Coll) → slice_get g.asked k ≡ Some call → (b : Arrival) × (arrival_at after comm t.full (0 + k) ≡ Some b) × (call ≡ b.coll)
        asked_there k call got =
            let within_asked : k < length g.asked = slice_get_within g.asked k call got in
            let past : nat_lt t.full (next_meeting after comm k) ≡ true = lt_yes t.full (next_meeting after comm k) (omega (arith, low k (omega (arith, each_asked, long, within_asked)), made_after k)) in
            let one = is_some-true (arrival_at after comm t.full k) (turns_after.came t.full k ∙ past) in
            let h = held_after 0 k g one.0 there (λ _. holds) (ap (λ n. arrival_at after comm n k) (omega arith) ∙ one.1) in
            let same : call ≡ one.0.coll = let e = h.asked in cc in
            (one.0, ap (arrival_at after comm t.full) (omega arith) ∙ one.1, same)
