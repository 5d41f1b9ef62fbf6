-- Calls that are to fail, by number.
use Rattle.std.specs.Prelude.{ℕ, ◌+◌, ◌-◌, ◌^◌, Bool, ◌&&◌, List, nat_lt, nat_eq, min, count_by}
use Rattle.std.specs.List.{list_any}

-- The numbers of the calls that fail, and the number of the next call, both counted from 0.
pub record FailsAt : Type 0 where
  pub listed : List ℕ
  pub calls : ℕ

-- whether the next call fails
abbrev pub fails_now : FailsAt → Bool
fails_now f = nat_lt f.calls (2 ^ 64 - 1) && list_any (λ k. nat_eq k f.calls) f.listed

-- one call more
abbrev pub counted : FailsAt → FailsAt
counted f = record f { calls = min (f.calls + 1) (2 ^ 64 - 1) }

-- how many of the listed calls are past
abbrev pub failed_so_far : FailsAt → ℕ
failed_so_far f = count_by (λ k. nat_lt k f.calls) f.listed
