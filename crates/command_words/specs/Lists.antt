-- Lists of numbers joined by commas.
use Rattle.std.specs.Prelude.{ℕ, ◌==◌, if◌then◌else◌, List, [], ◌∷◌, ◌++◌, Option, Some, None, option_map}
use Rattle.command_words.specs.Numbers.{number_between}

-- a byte more at the head of the first piece
abbrev pub with_byte : ℕ → List (List ℕ) → List (List ℕ)
with_byte byte [] = (byte ∷ []) ∷ []
with_byte byte (piece ∷ more) = (byte ∷ piece) ∷ more

-- the pieces of a text between its commas
unfoldable pub pieces : List ℕ → List (List ℕ)
pieces [] = [] ∷ []
pieces (byte ∷ more) = if byte == 44 then [] ∷ pieces more else with_byte byte (pieces more)

-- one more number before others, where there are all
abbrev pub with_number : Option ℕ → Option (List ℕ) → Option (List ℕ)
with_number None others = None
with_number (Some number) others = option_map (λ (numbers : List ℕ). number ∷ numbers) others

-- the numbers of all pieces, each of at most 255, or none
abbrev pub numbers_of : List (List ℕ) → Option (List ℕ)
numbers_of [] = Some []
numbers_of (piece ∷ more) = with_number (number_between 0 255 piece) (numbers_of more)

-- the numbers that a list has
abbrev pub listed : List ℕ → Option (List ℕ)
listed text = numbers_of (pieces text)
