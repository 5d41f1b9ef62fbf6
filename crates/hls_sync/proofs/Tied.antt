-- Seats and their instances before and after a task comes.
use Rattle.std.proofs.Common.{◌≡◌, ◌≢◌, ℕ, ◌+◌, ◌-◌, ◌≤◌, ◌<◌, Bool, true, false, ◌&&◌, ◌==◌, ltb, List, length, get_or, set, Option, arith, refl, sym, ap, ◌∙◌, subst, inl, inr}
use Rattle.std.specs.List.{count_by}
use Rattle.std.proofs.lemmas.Bool.{cases_eq, cases_lt, and_parts, and_right, and_from, eq-eqb, ne_eqb, le-ltb, lt-ltb, ltb-true}
use Rattle.std.proofs.lemmas.List.{get_or-set_same, get_or-set_other, length-set, set_past}
use Rattle.std.proofs.lemmas.List.Sums.{sum_by-set, sum_by-le-sum_by}
use Rattle.hls_sync.specs.declared.seats.Seat.{Seat}
use Rattle.hls_sync.specs.Turnouts.{Turnout, reached, once_more, advanced, IsFalling}
use Rattle.hls_sync.specs.Syncs.{Syncs, no_seat, no_turnout, seat_at, turnout_at, turnout_of, arrived, with_running}
use Rattle.hls_sync.specs.Kept.{is_of, is_in, IsTied}
use Rattle.hls_sync.proofs.Counts.{count_less, reached_above, reached_below, reached_changed, one_if}

-- the test at the seat's own meeting
not_in_own : (s : Seat) → is_in s.place s.came s ≡ false
not_in_own s = and_right (s.place == s.place) (ltb s.came s.came) (le-ltb s.came s.came (omega arith))

of_own : (s : Seat) → is_of s.place s ≡ true
of_own s = eq-eqb s.place s.place refl

-- not all of its instance have come to the meeting that a task comes to next
pub few_reached : (v : Syncs) → IsTied v → (k : ℕ) → k < length v.seats → reached (turnout_of v k).counts (seat_at v k).came < length (turnout_of v k).counts
few_reached v tied k h =
    let less : count_by (is_in (seat_at v k).place (seat_at v k).came) v.seats + 1 ≤ count_by (is_of (seat_at v k).place) v.seats =
    count_less (is_in (seat_at v k).place (seat_at v k).came) (is_of (seat_at v k).place) v.seats k no_seat h (λ s e. (and_parts (s.place == (seat_at v k).place) (ltb (seat_at v k).came s.came) e).0) (not_in_own (seat_at v k)) (of_own (seat_at v k)) in
    omega (arith, tied.counts (seat_at v k).place (seat_at v k).came (tied.within k h), tied.sizes (seat_at v k).place (tied.within k h))

-- more have come to an earlier one, the task itself among them
pub more_before : (v : Syncs) → IsTied v → (k : ℕ) → k < length v.seats → (m : ℕ) → m < (seat_at v k).came
    → reached (turnout_of v k).counts (seat_at v k).came + 1 ≤ reached (turnout_of v k).counts m
more_before v tied k h m before =
    let less : count_by (is_in (seat_at v k).place (seat_at v k).came) v.seats + 1 ≤ count_by (is_in (seat_at v k).place m) v.seats =
    count_less (is_in (seat_at v k).place (seat_at v k).came) (is_in (seat_at v k).place m) v.seats k no_seat h
    (λ s e. let both = and_parts (s.place == (seat_at v k).place) (ltb (seat_at v k).came s.came) e in
    let above : (seat_at v k).came < s.came = ltb-true (seat_at v k).came s.came both.1 in
    and_from (s.place == (seat_at v k).place) (ltb m s.came) both.0 (lt-ltb m s.came (omega arith)))
    (not_in_own (seat_at v k))
    (and_from ((seat_at v k).place == (seat_at v k).place) (ltb m (seat_at v k).came) (of_own (seat_at v k)) (lt-ltb m (seat_at v k).came before)) in
    omega (arith, tied.counts (seat_at v k).place (seat_at v k).came (tied.within k h), tied.counts (seat_at v k).place m (tied.within k h))

-- the first of those that have not come more often has come as often
pub one_there : (v : Syncs) → IsTied v → (k : ℕ) → k < length v.seats → IsFalling (turnout_of v k).counts
    → get_or (turnout_of v k).counts (reached (turnout_of v k).counts (seat_at v k).came) 0 ≡ (seat_at v k).came
one_there v tied k h f =
    let below : get_or (turnout_of v k).counts (reached (turnout_of v k).counts (seat_at v k).came) 0 ≤ (seat_at v k).came =
    reached_below (turnout_of v k).counts f (seat_at v k).came (reached (turnout_of v k).counts (seat_at v k).came) (omega arith) (few_reached v tied k h) in
    elim (cases_eq (seat_at v k).came 0) [
      | inl none ↦ omega arith
      | inr some ↦
          let above : (seat_at v k).came - 1 < get_or (turnout_of v k).counts (reached (turnout_of v k).counts (seat_at v k).came) 0 =
          reached_above (turnout_of v k).counts f ((seat_at v k).came - 1) (reached (turnout_of v k).counts (seat_at v k).came)
          (let more = more_before v tied k h ((seat_at v k).came - 1) (omega arith) in omega arith) in
          omega arith
    ]

-- what a change of one seat keeps
pub seat_kept : {A : Type 0} (f : Seat → A) (seats : List Seat) (k : ℕ) (s : Seat) → k < length seats → f s ≡ f (get_or seats k no_seat)
    → (j : ℕ) → f (get_or (set seats k s) j no_seat) ≡ f (get_or seats j no_seat)
seat_kept f seats k s h same j = elim (cases_eq j k) [
  | inl is ↦ subst (λ n. f (get_or (set seats k s) n no_seat) ≡ f (get_or seats n no_seat)) (sym is) (ap f (get_or-set_same seats k s no_seat h) ∙ same)
  | inr other ↦ ap f (get_or-set_other seats k j s no_seat other)
]

-- what a change of one instance keeps
pub turnout_kept : {A : Type 0} (f : Turnout → A) (instances : List Turnout) (p : ℕ) (t : Turnout) → f t ≡ f (get_or instances p no_turnout)
    → (q : ℕ) → f (get_or (set instances p t) q no_turnout) ≡ f (get_or instances q no_turnout)
turnout_kept f instances p t same q = elim (cases_eq q p) [
  | inl is ↦ subst (λ n. f (get_or (set instances p t) n no_turnout) ≡ f (get_or instances n no_turnout)) (sym is)
      (elim (cases_lt p (length instances)) [
        | inl within ↦ ap f (get_or-set_same instances p t no_turnout within) ∙ same
        | inr past ↦ ap (λ ts. f (get_or ts p no_turnout)) (set_past instances p t past)
      ])
  | inr other ↦ ap f (get_or-set_other instances p q t no_turnout other)
]

-- the counts of seats before and after
counted_same : (test : Seat → Bool) (seats : List Seat) (k : ℕ) (s : Seat) → k < length seats → test s ≡ test (get_or seats k no_seat) → count_by test (set seats k s) ≡ count_by test seats
counted_same test seats k s h same =
    let changed = sum_by-set (λ x. one_if (test x)) seats k s no_seat h in
    let e : one_if (test s) ≡ one_if (test (get_or seats k no_seat)) = ap (λ b. one_if b) same in
    omega (arith, changed, e)

abbrev pub came_once_more : Seat → Seat
came_once_more s = record s { came = once_more s.came }

counted_in : (v : Syncs) (k m : ℕ) → k < length v.seats
    → count_by (is_in (seat_at v k).place m) (set v.seats k (came_once_more (seat_at v k))) + one_if (ltb m (seat_at v k).came) ≡ count_by (is_in (seat_at v k).place m) v.seats + one_if (ltb m (once_more (seat_at v k).came))
counted_in v k m h =
    let changed = sum_by-set (λ x. one_if (is_in (seat_at v k).place m x)) v.seats k (came_once_more (seat_at v k)) no_seat h in
    let old : one_if (is_in (seat_at v k).place m (seat_at v k)) ≡ one_if (ltb m (seat_at v k).came) = ap (λ b. one_if (b && ltb m (seat_at v k).came)) (of_own (seat_at v k)) in
    let new : one_if (is_in (seat_at v k).place m (came_once_more (seat_at v k))) ≡ one_if (ltb m (once_more (seat_at v k).came)) = ap (λ b. one_if (b && ltb m (once_more (seat_at v k).came))) (of_own (seat_at v k)) in
    omega (arith, changed, old, new)

abbrev pub turnout_after : Syncs → ℕ → Turnout
turnout_after v k = record (turnout_of v k) { counts = advanced (turnout_of v k).counts (seat_at v k).came }

-- seats and instances agree after a task comes
pub tied_arrived : (v : Syncs) → IsTied v → (k : ℕ) → k < length v.seats → get_or (turnout_of v k).counts (reached (turnout_of v k).counts (seat_at v k).came) 0 ≡ (seat_at v k).came
    → IsTied (arrived v k)
tied_arrived v tied k h one = record {
  apart = λ i j hi hj ec et. tied.apart i j (short i hi) (short j hj) (sym (construct i) ∙ ec ∙ construct j) (sym (task i) ∙ et ∙ task j);
  within = λ j hj. let old = tied.within j (short j hj) in let e = place j in omega (arith, length-set v.instances (seat_at v k).place (turnout_after v k));
  same = λ i j hi hj ec ei. place i ∙ tied.same i j (short i hi) (short j hj) (sym (construct i) ∙ ec ∙ construct j) (sym (inst i) ∙ ei ∙ inst j) ∙ sym (place j);
  alike = λ i j hi hj e. let both = tied.alike i j (short i hi) (short j hj) (sym (place i) ∙ e ∙ place j) in (construct i ∙ both.0 ∙ sym (construct j), inst i ∙ both.1 ∙ sym (inst j));
  counts = counts;
  sizes = λ p hp. sizes p ∙ tied.sizes p (omega (arith, length-set v.instances (seat_at v k).place (turnout_after v k))) ∙ sym (counted_same (is_of p) v.seats k (came_once_more (seat_at v k)) h refl);
}
  where
    short : (j : ℕ) → j < length (arrived v k).seats → j < length v.seats
    short j hj = omega (arith, length-set v.seats k (came_once_more (seat_at v k)))

    construct : (j : ℕ) → (seat_at (arrived v k) j).row.construct ≡ (seat_at v j).row.construct
    construct = seat_kept (λ (s : Seat). s.row.construct) v.seats k (came_once_more (seat_at v k)) h refl

    task : (j : ℕ) → (seat_at (arrived v k) j).row.task ≡ (seat_at v j).row.task
    task = seat_kept (λ (s : Seat). s.row.task) v.seats k (came_once_more (seat_at v k)) h refl

    inst : (j : ℕ) → (seat_at (arrived v k) j).row.inst ≡ (seat_at v j).row.inst
    inst = seat_kept (λ (s : Seat). s.row.inst) v.seats k (came_once_more (seat_at v k)) h refl

    place : (j : ℕ) → (seat_at (arrived v k) j).place ≡ (seat_at v j).place
    place = seat_kept (λ (s : Seat). s.place) v.seats k (came_once_more (seat_at v k)) h refl

    sizes : (p : ℕ) → length (turnout_at (arrived v k) p).counts ≡ length (turnout_at v p).counts
    sizes = turnout_kept (λ (t : Turnout). length t.counts) v.instances (seat_at v k).place (turnout_after v k) (length-set (turnout_of v k).counts (reached (turnout_of v k).counts (seat_at v k).came) (once_more (seat_at v k).came))

    counts : (p m : ℕ) → p < length (arrived v k).instances → reached (turnout_at (arrived v k) p).counts m ≡ count_by (is_in p m) (arrived v k).seats
    counts p m hp =
        let inside : p < length v.instances = omega (arith, length-set v.instances (seat_at v k).place (turnout_after v k)) in
        elim (cases_eq p (seat_at v k).place) [
          | inl is ↦ subst (λ q. reached (turnout_at (arrived v k) q).counts m ≡ count_by (is_in q m) (arrived v k).seats) (sym is)
              (ap (λ (t : Turnout). reached t.counts m) (get_or-set_same v.instances (seat_at v k).place (turnout_after v k) no_turnout (tied.within k h))
              ∙ (let changed = reached_changed (turnout_of v k).counts (seat_at v k).came (few_reached v tied k h) one m in
              let was = tied.counts (seat_at v k).place m (tied.within k h) in
              let counted = counted_in v k m h in
              omega (arith, changed, was, counted)))
          | inr other ↦
              ap (λ (t : Turnout). reached t.counts m) (get_or-set_other v.instances (seat_at v k).place p (turnout_after v k) no_turnout other)
              ∙ (tied.counts p m inside
              ∙ sym (counted_same (is_in p m) v.seats k (came_once_more (seat_at v k)) h (ap (λ b. b && ltb m (once_more (seat_at v k).came)) (not_of p other) ∙ sym (ap (λ b. b && ltb m (seat_at v k).came) (not_of p other)))))
        ]
      where
        not_of : (q : ℕ) → q ≢ (seat_at v k).place → ((seat_at v k).place == q) ≡ false
        not_of q other = ne_eqb (seat_at v k).place q (λ e. other (sym e))

-- and whoever runs the block
pub tied_running : (v : Syncs) → IsTied v → (p : ℕ) (running : Option ℕ) → IsTied (with_running v p running)
tied_running v tied p running = record {
  apart = tied.apart;
  within = λ j hj. let old = tied.within j hj in omega (arith, length-set v.instances p (record (turnout_at v p) { running = running }));
  same = tied.same;
  alike = tied.alike;
  counts = λ q m hq. ap (λ c. reached c m) (counts q) ∙ tied.counts q m (omega (arith, length-set v.instances p (record (turnout_at v p) { running = running })));
  sizes = λ q hq. ap length (counts q) ∙ tied.sizes q (omega (arith, length-set v.instances p (record (turnout_at v p) { running = running })));
}
  where
    counts : (q : ℕ) → (turnout_at (with_running v p running) q).counts ≡ (turnout_at v q).counts
    counts = turnout_kept (λ (t : Turnout). t.counts) v.instances p (record (turnout_at v p) { running = running }) refl

-- fewer have come to later meetings
pub reached_fewer : (counts : List ℕ) (a b : ℕ) → a ≤ b → reached counts b ≤ reached counts a
reached_fewer counts a b h = sum_by-le-sum_by (λ c. one_if (ltb b c)) (λ c. one_if (ltb a c)) counts (λ c. fewer c)
  where
    fewer : (c : ℕ) → one_if (ltb b c) ≤ one_if (ltb a c)
    fewer c = elim (cases_lt b c) [
      | inl below ↦ let x : one_if (ltb b c) ≡ 1 = ap (λ t. one_if t) (lt-ltb b c below) in let y : one_if (ltb a c) ≡ 1 = ap (λ t. one_if t) (lt-ltb a c (omega arith)) in omega (arith, x, y)
      | inr above ↦ let x : one_if (ltb b c) ≡ 0 = ap (λ t. one_if t) (le-ltb b c above) in omega (arith, x)
    ]
