-- What is left of a text while a sink takes it.
use Rattle.std.specs.Prelude.{◌≡◌, ℕ, ◌≤◌, List, take, drop, length, Option}
use Rattle.mpc_base.specs.Told.{Took}

-- the sink took the text but for what is left of it
abbrev pub Sent : Option (List ℕ) → List ℕ → Option (List ℕ) → List ℕ → Type 0
Sent before text after left = (n : ℕ) × (n ≤ length text) × (left ≡ drop n text) × Took before (take n text) after
