-- What one arrival more, and a leave, change in the arrivals so far.
use Rattle.std.proofs.Common.{◌≡◌, ◌≢◌, ℕ, ◌+◌, ◌≤◌, Bool, true, false, cond, ◌==◌, ◌&&◌, List, [], ◌∷◌, ◌++◌, length, ◌⊎◌, inl, inr, refl, ap, sym, ◌∙◌, subst, arith}
use Rattle.std.specs.Prelude.{Option, Some, None, is_some, find, slice_get, nat_lt}
use Rattle.std.specs.Option.{option_or}
use Rattle.std.specs.List.{last_or}
use Rattle.std.proofs.lemmas.Bool.{cases_eq, cases_lt}
use Rattle.std.proofs.lemmas.List.{length_push, append-nil}
use Rattle.std.proofs.lemmas.List.Folds.{find-append}
use Rattle.std.proofs.lemmas.List.Elements.{filter-append}
use Rattle.mpc_values.specs.declared.values.Word.{Word}
use Rattle.mpc_values.specs.declared.collectives.Coll.{Coll}
use Rattle.mpi_coll.specs.declared.arrivals.Arrival.{Arrival}
use Rattle.mpi_coll.specs.Meetings.{arrivals_of, next_meeting, latest_arrival, meeting_of}
use Rattle.mpi_coll.specs.Shown.{is_of, arrival_at, next_arrival, with_next, InTurn}
use Rattle.mpi_coll.proofs.Comparisons.{lt_yes, lt_no, eq_yes, eq_no, both_yes, no_left, no_right}
use Rattle.mpi_coll.proofs.Lists.{filter_map-same, last_or-push, is_some-false, slice_get-push_cases}

-- the arrival is one of the member
abbrev pub is_by : ℕ → ℕ → Arrival → Bool
is_by comm rank a = a.comm == comm && a.rank == rank

or_none : (o : Option Arrival) → option_or o None ≡ o
or_none None = refl
or_none (Some a) = refl

module _ (arrivals : List Arrival) (a : Arrival) (comm rank : ℕ) where
  pub arrivals_of-own : is_by comm rank a ≡ true → arrivals_of (arrivals ++ a ∷ []) comm rank ≡ arrivals_of arrivals comm rank ++ a ∷ []
  arrivals_of-own own = filter-append (is_by comm rank) arrivals (a ∷ []) ∙ ap (λ b. arrivals_of arrivals comm rank ++ cond b (a ∷ []) []) own

  pub arrivals_of-other : is_by comm rank a ≡ false → arrivals_of (arrivals ++ a ∷ []) comm rank ≡ arrivals_of arrivals comm rank
  arrivals_of-other other = filter-append (is_by comm rank) arrivals (a ∷ []) ∙ (ap (λ b. arrivals_of arrivals comm rank ++ cond b (a ∷ []) []) other ∙ append-nil (arrivals_of arrivals comm rank))

  pub next-own : is_by comm rank a ≡ true → next_meeting (arrivals ++ a ∷ []) comm rank ≡ next_meeting arrivals comm rank + 1
  next-own own = ap length (arrivals_of-own own) ∙ length_push (arrivals_of arrivals comm rank) a

  pub next-other : is_by comm rank a ≡ false → next_meeting (arrivals ++ a ∷ []) comm rank ≡ next_meeting arrivals comm rank
  next-other other = ap length (arrivals_of-other other)

  pub latest-own : is_by comm rank a ≡ true → latest_arrival (arrivals ++ a ∷ []) comm rank ≡ Some a
  latest-own own = ap (last_or None) (arrivals_of-own own) ∙ last_or-push None (arrivals_of arrivals comm rank) a

  pub latest-other : is_by comm rank a ≡ false → latest_arrival (arrivals ++ a ∷ []) comm rank ≡ latest_arrival arrivals comm rank
  latest-other other = ap (last_or None) (arrivals_of-other other)

  pub arrival_at-kept : (meeting : ℕ) → is_of comm meeting rank a ≡ false → arrival_at (arrivals ++ a ∷ []) comm meeting rank ≡ arrival_at arrivals comm meeting rank
  arrival_at-kept meeting nay =
      find-append (is_of comm meeting rank) arrivals (a ∷ [])
      ∙ (ap (λ b. option_or (arrival_at arrivals comm meeting rank) (cond b (Some a) None)) nay ∙ or_none (arrival_at arrivals comm meeting rank))

  pub arrival_at-old : (meeting : ℕ) (b : Arrival) → arrival_at arrivals comm meeting rank ≡ Some b → arrival_at (arrivals ++ a ∷ []) comm meeting rank ≡ Some b
  arrival_at-old meeting b there =
      find-append (is_of comm meeting rank) arrivals (a ∷ []) ∙ ap (λ o. option_or o (find (is_of comm meeting rank) (a ∷ []))) there

  pub arrival_at-new : (meeting : ℕ) → is_of comm meeting rank a ≡ true → arrival_at arrivals comm meeting rank ≡ None → arrival_at (arrivals ++ a ∷ []) comm meeting rank ≡ Some a
  arrival_at-new meeting aye none =
      find-append (is_of comm meeting rank) arrivals (a ∷ [])
      ∙ (ap (λ b. option_or (arrival_at arrivals comm meeting rank) (cond b (Some a) None)) aye ∙ ap (λ o. option_or o (Some a)) none)

-- the meeting of another number has the same arrivals
pub meeting-kept : (arrivals : List Arrival) (a : Arrival) (comm size meeting : ℕ) → ((rank : ℕ) → is_of comm meeting rank a ≡ false)
    → meeting_of (arrivals ++ a ∷ []) comm size meeting ≡ meeting_of arrivals comm size meeting
meeting-kept arrivals a comm size meeting nay =
    filter_map-same (arrival_at (arrivals ++ a ∷ []) comm meeting) (arrival_at arrivals comm meeting) 0 size (λ rank h. arrival_at-kept arrivals a comm rank meeting (nay rank))

-- the tests of a member's next arrival
module _ (arrivals : List Arrival) (at by : ℕ) (coll : Coll) (words : List Word) where
  abbrev a : Arrival
  a = next_arrival arrivals at by coll words

  pub by-own : is_by at by a ≡ true
  by-own = both_yes (at == at) (by == by) (eq_yes at at refl) (eq_yes by by refl)

  pub by-other : (comm rank : ℕ) → (comm ≢ at) ⊎ (rank ≢ by) → is_by comm rank a ≡ false
  by-other comm rank (inl nay) = no_left (at == comm) (by == rank) (eq_no at comm (λ e. nay (sym e)))
  by-other comm rank (inr nay) = no_right (at == comm) (by == rank) (eq_no by rank (λ e. nay (sym e)))

  pub of-own : is_of at (next_meeting arrivals at by) by a ≡ true
  of-own = both_yes (at == at && next_meeting arrivals at by == next_meeting arrivals at by) (by == by)
      (both_yes (at == at) (next_meeting arrivals at by == next_meeting arrivals at by) (eq_yes at at refl) (eq_yes (next_meeting arrivals at by) (next_meeting arrivals at by) refl)) (eq_yes by by refl)

  pub of-other : (comm meeting rank : ℕ) → (comm ≢ at) ⊎ ((rank ≢ by) ⊎ (meeting ≢ next_meeting arrivals at by)) → is_of comm meeting rank a ≡ false
  of-other comm meeting rank (inl nay) = no_left (at == comm && next_meeting arrivals at by == meeting) (by == rank) (no_left (at == comm) (next_meeting arrivals at by == meeting) (eq_no at comm (λ e. nay (sym e))))
  of-other comm meeting rank (inr (inl nay)) = no_right (at == comm && next_meeting arrivals at by == meeting) (by == rank) (eq_no by rank (λ e. nay (sym e)))
  of-other comm meeting rank (inr (inr nay)) = no_left (at == comm && next_meeting arrivals at by == meeting) (by == rank) (no_right (at == comm) (next_meeting arrivals at by == meeting) (eq_no (next_meeting arrivals at by) meeting (λ e. nay (sym e))))

lt_next : (m n : ℕ) → m ≢ n → nat_lt m n ≡ nat_lt m (n + 1)
lt_next m n nay = elim (cases_lt m n) [
  | inl lt ↦ lt_yes m n lt ∙ sym (lt_yes m (n + 1) (omega arith))
  | inr ge ↦ lt_no m n ge ∙ sym (lt_no m (n + 1) (omega (arith, ge, nay)))
]

module _ (arrivals : List Arrival) (comm : ℕ) (turns : InTurn arrivals comm) where
  -- nobody has arrived at its next meeting, nor at a later one
  pub none-after : (meeting rank : ℕ) → next_meeting arrivals comm rank ≤ meeting → arrival_at arrivals comm meeting rank ≡ None
  none-after meeting rank h = is_some-false (arrival_at arrivals comm meeting rank) (turns.came meeting rank ∙ (lt_no meeting (next_meeting arrivals comm rank) (omega arith)))

  came-own : (by : ℕ) (coll : Coll) (words : List Word) (meeting : ℕ)
      → is_some (arrival_at (with_next arrivals comm by coll words) comm meeting by) ≡ nat_lt meeting (next_meeting arrivals comm by + 1)
  came-own by coll words meeting = elim (cases_eq meeting (next_meeting arrivals comm by)) [
    | inl same ↦
        subst (λ m. is_some (arrival_at (with_next arrivals comm by coll words) comm m by) ≡ nat_lt m (next_meeting arrivals comm by + 1)) (sym same)
        (ap is_some (arrival_at-new arrivals (next_arrival arrivals comm by coll words) comm by (next_meeting arrivals comm by)
        (of-own arrivals comm by coll words) (none-after (next_meeting arrivals comm by) by (omega arith)))
        ∙ (sym (lt_yes (next_meeting arrivals comm by) (next_meeting arrivals comm by + 1) (omega arith))))
    | inr other ↦
        ap is_some (arrival_at-kept arrivals (next_arrival arrivals comm by coll words) comm by meeting (of-other arrivals comm by coll words comm meeting by (inr (inr other))))
        ∙ (turns.came meeting by
        ∙ lt_next meeting (next_meeting arrivals comm by) other)
  ]

  came-next : (by : ℕ) (coll : Coll) (words : List Word) (meeting rank : ℕ)
      → is_some (arrival_at (with_next arrivals comm by coll words) comm meeting rank) ≡ nat_lt meeting (next_meeting (with_next arrivals comm by coll words) comm rank)
  came-next by coll words meeting rank = elim (cases_eq rank by) [
    | inl same ↦
        subst (λ r. is_some (arrival_at (with_next arrivals comm by coll words) comm meeting r) ≡ nat_lt meeting (next_meeting (with_next arrivals comm by coll words) comm r)) (sym same)
        (came-own by coll words meeting ∙ ap (nat_lt meeting) (sym (next-own arrivals (next_arrival arrivals comm by coll words) comm by (by-own arrivals comm by coll words))))
    | inr other ↦
        ap is_some (arrival_at-kept arrivals (next_arrival arrivals comm by coll words) comm rank meeting (of-other arrivals comm by coll words comm meeting rank (inr (inl other))))
        ∙ (turns.came meeting rank
        ∙ ap (nat_lt meeting) (sym (next-other arrivals (next_arrival arrivals comm by coll words) comm rank (by-other arrivals comm by coll words comm rank (inr other)))))
  ]

  latest-next : (by : ℕ) (coll : Coll) (words : List Word) (rank : ℕ) (b : Arrival)
      → latest_arrival (with_next arrivals comm by coll words) comm rank ≡ Some b → b.meeting + 1 ≡ next_meeting (with_next arrivals comm by coll words) comm rank
  latest-next by coll words rank b got = elim (cases_eq rank by) [
    | inl same ↦
        let own : latest_arrival (with_next arrivals comm by coll words) comm by ≡ Some (next_arrival arrivals comm by coll words) =
        latest-own arrivals (next_arrival arrivals comm by coll words) comm by (by-own arrivals comm by coll words) in
        let there : latest_arrival (with_next arrivals comm by coll words) comm by ≡ Some b = subst (λ r. latest_arrival (with_next arrivals comm by coll words) comm r ≡ Some b) same got in
        let is : next_arrival arrivals comm by coll words ≡ b = cc in
        ap (λ (c : Arrival). c.meeting + 1) (sym is)
        ∙ (sym (next-own arrivals (next_arrival arrivals comm by coll words) comm by (by-own arrivals comm by coll words))
        ∙ ap (next_meeting (with_next arrivals comm by coll words) comm) (sym same))
    | inr other ↦
        turns.latest rank b (sym (latest-other arrivals (next_arrival arrivals comm by coll words) comm rank (by-other arrivals comm by coll words comm rank (inr other))) ∙ got)
        ∙ sym (next-other arrivals (next_arrival arrivals comm by coll words) comm rank (by-other arrivals comm by coll words comm rank (inr other)))
  ]

  -- a member's next arrival is found
  pub found-own : (by : ℕ) (coll : Coll) (words : List Word)
      → arrival_at (with_next arrivals comm by coll words) comm (next_meeting arrivals comm by) by ≡ Some (next_arrival arrivals comm by coll words)
  found-own by coll words =
      arrival_at-new arrivals (next_arrival arrivals comm by coll words) comm by (next_meeting arrivals comm by)
      (of-own arrivals comm by coll words) (none-after (next_meeting arrivals comm by) by (omega arith))

  found-next : (by : ℕ) (coll : Coll) (words : List Word) (rank : ℕ) (b : Arrival)
      → latest_arrival (with_next arrivals comm by coll words) comm rank ≡ Some b → arrival_at (with_next arrivals comm by coll words) comm b.meeting rank ≡ Some b
  found-next by coll words rank b got = elim (cases_eq rank by) [
    | inl same ↦
        let own : latest_arrival (with_next arrivals comm by coll words) comm by ≡ Some (next_arrival arrivals comm by coll words) =
        latest-own arrivals (next_arrival arrivals comm by coll words) comm by (by-own arrivals comm by coll words) in
        let there : latest_arrival (with_next arrivals comm by coll words) comm by ≡ Some b = subst (λ r. latest_arrival (with_next arrivals comm by coll words) comm r ≡ Some b) same got in
        let is : next_arrival arrivals comm by coll words ≡ b = cc in
        subst (λ r. arrival_at (with_next arrivals comm by coll words) comm b.meeting r ≡ Some b) (sym same)
        (subst (λ (c : Arrival). arrival_at (with_next arrivals comm by coll words) comm c.meeting by ≡ Some c) is (found-own by coll words))
    | inr other ↦
        arrival_at-kept arrivals (next_arrival arrivals comm by coll words) comm rank b.meeting (of-other arrivals comm by coll words comm b.meeting rank (inr (inl other)))
        ∙ turns.found rank b (sym (latest-other arrivals (next_arrival arrivals comm by coll words) comm rank (by-other arrivals comm by coll words comm rank (inr other))) ∙ got)
  ]

  once-next : (by : ℕ) (coll : Coll) (words : List Word) (index : ℕ) (b : Arrival)
      → slice_get (with_next arrivals comm by coll words) index ≡ Some b → b.comm ≡ comm → arrival_at (with_next arrivals comm by coll words) comm b.meeting b.rank ≡ Some b
  once-next by coll words index b got own = elim (slice_get-push_cases arrivals (next_arrival arrivals comm by coll words) b index got) [
    | inl old ↦ arrival_at-old arrivals (next_arrival arrivals comm by coll words) comm b.rank b.meeting b (turns.once index b old own)
    | inr new ↦ subst (λ (c : Arrival). arrival_at (with_next arrivals comm by coll words) comm c.meeting c.rank ≡ Some c) (sym new.1) (found-own by coll words)
  ]

  -- one arrival more at the same communicator comes in turn
  pub InTurn-next : (by : ℕ) (coll : Coll) (words : List Word) → InTurn (with_next arrivals comm by coll words) comm
  InTurn-next by coll words = record { came = came-next by coll words; latest = latest-next by coll words; found = found-next by coll words; once = once-next by coll words }

-- an arrival at another communicator changes nothing for this one
pub InTurn-elsewhere : (arrivals : List Arrival) (comm at by : ℕ) (coll : Coll) (words : List Word) → comm ≢ at → InTurn arrivals comm → InTurn (with_next arrivals at by coll words) comm
InTurn-elsewhere arrivals comm at by coll words nay turns =
    let a = next_arrival arrivals at by coll words in
    record {
      came = λ meeting rank.
          ap is_some (arrival_at-kept arrivals a comm rank meeting (of-other arrivals at by coll words comm meeting rank (inl nay)))
          ∙ (turns.came meeting rank ∙ ap (nat_lt meeting) (sym (next-other arrivals a comm rank (by-other arrivals at by coll words comm rank (inl nay)))));
      latest = λ rank b got.
          turns.latest rank b (sym (latest-other arrivals a comm rank (by-other arrivals at by coll words comm rank (inl nay))) ∙ got)
          ∙ sym (next-other arrivals a comm rank (by-other arrivals at by coll words comm rank (inl nay)));
      found = λ rank b got.
          arrival_at-kept arrivals a comm rank b.meeting (of-other arrivals at by coll words comm b.meeting rank (inl nay))
          ∙ turns.found rank b (sym (latest-other arrivals a comm rank (by-other arrivals at by coll words comm rank (inl nay))) ∙ got);
      once = λ index b got own. elim (slice_get-push_cases arrivals a b index got) [
        | inl old ↦ arrival_at-old arrivals a comm b.rank b.meeting b (turns.once index b old own)
        | inr new ↦ absurd (nay (sym own ∙ ap (λ (c : Arrival). c.comm) new.1))
      ];
    }
