-- What reads of the tables' fields give, and what the tables keep after a write.
use Rattle.std.proofs.Common.{◌≡◌, ℕ, ◌<◌, List, length, get_or, set, arith, sym, ap, ◌∙◌, subst}
use Rattle.std.specs.Prelude.{Option, Some}
use Rattle.std.specs.BTreeMap.{BTreeMap, get}
use Rattle.std.proofs.lemmas.List.{get_or_read, get_or-map, length-set, length-map}
use Rattle.hls_sync.specs.declared.visits.HlsRow.{HlsRow}
use Rattle.hls_sync.specs.declared.seats.Seat.{Seat}
use Rattle.hls_sync.specs.Turnouts.{Turnout, reached, advanced, IsFalling}
use Rattle.hls_sync.specs.Syncs.{Syncs, no_seat, no_turnout, seat_at, turnout_at, turnout_of, rows_of, IsGiven, IsSeat}
use Rattle.hls_sync.specs.Numbers.{pair_cmp}
use Rattle.hls_sync.specs.Kept.{IsTied}
use Rattle.hls_sync.proofs.Tied.{few_reached, one_there, seat_kept, came_once_more, turnout_after, tied_arrived, tied_running}

abbrev pub tables : List Seat → List Turnout → Syncs
tables seats instances = record { seats = seats; instances = instances }

abbrev pub with_runner : Turnout → Option ℕ → Turnout
with_runner t running = record t { running = running }

abbrev pub with_more : Turnout → ℕ → Turnout
with_more t came = record t { counts = advanced t.counts came }

-- a seat that is read, and its instance
pub read_seat : (v : Syncs) (k : ℕ) (s : Seat) → k < length v.seats → s ≡ get_or v.seats k s → s ≡ seat_at v k
read_seat v k s h is = get_or_read v.seats k s h is no_seat

pub place_within : (v : Syncs) → IsTied v → (k : ℕ) → k < length v.seats → (s : Seat) → s ≡ seat_at v k → s.place < length v.instances
place_within v tied k h s es = subst (λ (x : Seat). x.place < length v.instances) (sym es) (tied.within k h)

pub read_turnout : (v : Syncs) → IsTied v → (k : ℕ) → k < length v.seats → (s : Seat) (t : Turnout) → s ≡ seat_at v k → t ≡ get_or v.instances s.place t → t ≡ turnout_of v k
read_turnout v tied k h s t es et = get_or_read v.instances s.place t (place_within v tied k h s es) et no_turnout ∙ ap (λ (x : Seat). turnout_at v x.place) es

pub few_read : (v : Syncs) → IsTied v → (k : ℕ) → k < length v.seats → (s : Seat) (t : Turnout) → s ≡ seat_at v k → t ≡ turnout_of v k → reached t.counts s.came < length t.counts
few_read v tied k h s t es et =
    subst (λ (x : Seat). reached t.counts x.came < length t.counts) (sym es)
    (subst (λ (u : Turnout). reached u.counts (seat_at v k).came < length u.counts) (sym et) (few_reached v tied k h))

pub one_read : (v : Syncs) → IsTied v → (k : ℕ) → k < length v.seats → (s : Seat) (t : Turnout) → s ≡ seat_at v k → t ≡ turnout_of v k → IsFalling t.counts
    → get_or t.counts (reached t.counts s.came) 0 ≡ s.came
one_read v tied k h s t es et falls =
    subst (λ (x : Seat). get_or t.counts (reached t.counts x.came) 0 ≡ x.came) (sym es)
    (subst (λ (u : Turnout). get_or u.counts (reached u.counts (seat_at v k).came) 0 ≡ (seat_at v k).came) (sym et)
    (one_there v tied k h (subst (λ (u : Turnout). IsFalling u.counts) et falls)))

-- the tables after a task comes
pub tied_written : (v : Syncs) → IsTied v → (k : ℕ) → k < length v.seats → (s s' : Seat) (t t' : Turnout) → s ≡ seat_at v k → t ≡ turnout_of v k → IsFalling t.counts
    → s' ≡ came_once_more (seat_at v k) → t' ≡ with_more t s.came
    → IsTied (tables (set v.seats k s') (set v.instances s.place t'))
tied_written v tied k h s s' t t' es et falls is_s is_t =
    subst (λ (x : Seat). IsTied (tables (set v.seats k x) (set v.instances s.place t'))) (sym is_s)
    (subst (λ (x : Turnout). IsTied (tables (set v.seats k (came_once_more (seat_at v k))) (set v.instances s.place x)))
    (sym (is_t ∙ (ap (λ (u : Turnout). with_more u s.came) et ∙ ap (λ (x : Seat). with_more (turnout_of v k) x.came) es)))
    (subst (λ (x : Seat). IsTied (tables (set v.seats k (came_once_more (seat_at v k))) (set v.instances x.place (turnout_after v k)))) (sym es)
    (tied_arrived v tied k h (one_there v tied k h (subst (λ (u : Turnout). IsFalling u.counts) et falls)))))

pub tied_run : (v : Syncs) → IsTied v → (p : ℕ) (t t' : Turnout) (running : Option ℕ) → p < length v.instances → t ≡ get_or v.instances p t → t' ≡ with_runner t running
    → IsTied (tables v.seats (set v.instances p t'))
tied_run v tied p t t' running h is e =
    subst (λ (x : Turnout). IsTied (tables v.seats (set v.instances p x))) (sym (e ∙ ap (λ (x : Turnout). with_runner x running) (get_or_read v.instances p t h is no_turnout)))
    (tied_running v tied p running)

-- each row is still found
pub finds_kept : (index : BTreeMap (ℕ × ℕ) ℕ) (seats : List Seat) (k : ℕ) (s : Seat) → k < length seats → s.row ≡ (get_or seats k no_seat).row
    → ((j : ℕ) → j < length seats → get pair_cmp index ((get_or seats j no_seat).row.construct, (get_or seats j no_seat).row.task) ≡ Some j)
    → (j : ℕ) → j < length (set seats k s) → get pair_cmp index ((get_or (set seats k s) j no_seat).row.construct, (get_or (set seats k s) j no_seat).row.task) ≡ Some j
finds_kept index seats k s h same old j hj =
    ap (λ (r : HlsRow). get pair_cmp index (r.construct, r.task)) (seat_kept (λ (x : Seat). x.row) seats k s h same j) ∙ old j (omega (arith, length-set seats k s))

-- a row that was given has a seat, which is found
pub given_seat : (v : Syncs) (construct inst task : ℕ) (given : IsGiven v construct inst task) → IsSeat v given.0 construct inst task
given_seat v construct inst task given =
    let h : given.0 < length v.seats = let inside : given.0 < length (rows_of v) = given.1 in omega (arith, length-map v.seats (λ (s : Seat). s.row)) in
    record { within = h; row = sym (get_or-map (λ (s : Seat). s.row) v.seats given.0 no_seat (record { construct = construct; task = task; inst = inst }) h) ∙ given.2 }

pub found_seat : (v : Syncs) (index : BTreeMap (ℕ × ℕ) ℕ) → ((j : ℕ) → j < length v.seats → get pair_cmp index ((seat_at v j).row.construct, (seat_at v j).row.task) ≡ Some j)
    → (k construct inst task : ℕ) → IsSeat v k construct inst task → get pair_cmp index (construct, task) ≡ Some k
found_seat v index finds k construct inst task seat = sym (ap (λ (r : HlsRow). get pair_cmp index (r.construct, r.task)) seat.row) ∙ finds k seat.within
