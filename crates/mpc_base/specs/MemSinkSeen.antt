-- What a sink in memory is to those who call it.
use Rattle.std.specs.Prelude.{ℕ, ◌-◌, Bool, ◌&&◌, not, List, length, min, nat_le, ◌==◌}
use Rattle.mpc_base.specs.FailLists.{FailsAt}

-- The bytes taken, the most bytes of one write, the most bytes of all, which writes fail, and how many did.
pub record MemSinkSeen : Type 0 where
  pub bytes : List ℕ
  pub step : ℕ
  pub room : ℕ
  pub fails : FailsAt
  pub faults : ℕ

-- how many bytes of a piece a write takes
abbrev pub taken_by : MemSinkSeen → List ℕ → ℕ
taken_by s piece = min (min (length piece) s.step) (s.room - length s.bytes)

-- there is a piece, and no room is left for it
abbrev pub finds_no_room : MemSinkSeen → List ℕ → Bool
finds_no_room s piece = not (length piece == 0) && nat_le s.room (length s.bytes)
