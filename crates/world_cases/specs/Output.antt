-- How much a task may print.
use Rattle.std.specs.Prelude.{◌≡◌, ℕ, ◌+◌, ◌<◌, ◌≤◌, List, [], ◌∷◌, length}
use Rattle.mpc_values.specs.declared.calls.Call.TheVariants as call
use Rattle.mpc_values.specs.declared.faults.Fault.TheVariants as fault
use Rattle.run_model.specs.Setup.{Setup}
use Rattle.run_model.specs.Played.{asks, Goes}
use Rattle.run_model.specs.Scenes.{int, flat, gives, broke}

abbrev pub two : Setup
two = flat 2 []

pub record Output : Type 0 where
  -- of two texts the first fits into 1,048,576 bytes and both together do not; what another task printed does not count
  pub second_is_too_long : (first second : List ℕ) → length first ≤ 1048576 → 1048576 < length first + length second → length second ≤ 1048576 →
      Goes two (
      asks 0 (call.Print first) 9 (gives (int (length first)))
      ∷ asks 1 (call.Print second) 9 (gives (int (length second)))
      ∷ asks 0 (call.Print second) 10 (broke fault.OutputFull)
      ∷ [])
  -- the last byte fits, and a text of none after it
  pub just_fits : (first second : List ℕ) → length first + length second ≡ 1048576 →
      Goes two (
      asks 0 (call.Print first) 9 (gives (int (length first)))
      ∷ asks 0 (call.Print second) 9 (gives (int (length second)))
      ∷ asks 0 (call.Print []) 10 (gives (int 0))
      ∷ [])
