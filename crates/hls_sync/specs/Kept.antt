-- What the tables keep.
use Rattle.std.specs.Prelude.{◌≡◌, ℕ, ◌<◌, ◌==◌, ◌&&◌, nat_lt, Bool, length, Some}
use Rattle.std.specs.List.{count_by}
use Rattle.std.specs.BTreeMap.{get}
use Rattle.hls_sync.specs.declared.seats.Seat.{Seat}
use Rattle.hls_sync.specs.declared.syncs.HlsSync.TheInside.{Inside}
use Rattle.hls_sync.specs.Turnouts.{reached}
use Rattle.hls_sync.specs.Numbers.{pair_cmp}
use Rattle.hls_sync.specs.Syncs.{Syncs, seat_at, turnout_at}

-- a seat of the instance of a number
abbrev pub is_of : ℕ → Seat → Bool
is_of p s = s.place == p

-- a seat of the instance whose task has come to a meeting
abbrev pub is_in : ℕ → ℕ → Seat → Bool
is_in p m s = s.place == p && nat_lt m s.came

-- Seats and instances agree.
pub record IsTied (v : Syncs) : Type 0 where
  pub apart : (j k : ℕ) → j < length v.seats → k < length v.seats → (seat_at v j).row.construct ≡ (seat_at v k).row.construct
      → (seat_at v j).row.task ≡ (seat_at v k).row.task → j ≡ k
  pub within : (k : ℕ) → k < length v.seats → (seat_at v k).place < length v.instances
  pub same : (j k : ℕ) → j < length v.seats → k < length v.seats → (seat_at v j).row.construct ≡ (seat_at v k).row.construct
      → (seat_at v j).row.inst ≡ (seat_at v k).row.inst → (seat_at v j).place ≡ (seat_at v k).place
  pub alike : (j k : ℕ) → j < length v.seats → k < length v.seats → (seat_at v j).place ≡ (seat_at v k).place
      → ((seat_at v j).row.construct ≡ (seat_at v k).row.construct) × ((seat_at v j).row.inst ≡ (seat_at v k).row.inst)
  pub counts : (p m : ℕ) → p < length v.instances → reached (turnout_at v p).counts m ≡ count_by (is_in p m) v.seats
  pub sizes : (p : ℕ) → p < length v.instances → length (turnout_at v p).counts ≡ count_by (is_of p) v.seats

abbrev pub seen_of : Inside → Syncs
seen_of s = record { seats = s.seats.items; instances = s.instances.items }

-- Each row is found, and seats and instances agree.
pub record IsKept (s : Inside) : Type 0 where
  pub finds : (k : ℕ) → k < length s.seats.items → get pair_cmp s.index ((seat_at (seen_of s) k).row.construct, (seat_at (seen_of s) k).row.task) ≡ Some k
  pub tied : IsTied (seen_of s)
