-- What is said of every line of a pragma.
use Rattle.std.specs.Prelude.{◌≡◌, ℕ, List}
use Rattle.hls_pragma.specs.declared.directives.Pragma.{Pragma}
use Rattle.hls_pragma.specs.Reads.{Reads}

-- a line is read in one way
pub record ReadingLaws : Type 0 where
  pub one_reading : (line : List ℕ) (p q : Pragma) → Reads line p → Reads line q → q ≡ p
