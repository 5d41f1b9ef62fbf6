-- What the code makes of a split's arguments: the members that ask for a colour, with it.
use Rattle.std.specs.Prelude.{◌≡◌, ℕ, ℤ, ◌==◌, List, map, filter, filter_map, position, Option}
use Rattle.std.specs.Option.{option_map}
use Rattle.std.specs.List.Sorted.{IsNonDecreasingBy, IsPermutation}
use Rattle.mpi_comm.specs.declared.splitting.Asked.{Asked}
use Rattle.mpi_comm.specs.Splitting.{Chosen, colour_in, is_colour, tasks_of_colour}
use Rattle.mpi_comm.specs.Numbers.{number_from}

-- a member with a colour
abbrev pub asked_as : ℕ × Chosen → ℕ → Asked
asked_as m colour = record { colour = colour; key = m.1.key; task = m.0 }

-- a member with the colour that it asks for, if it asks for one
abbrev pub asked_in : ℕ × Chosen → Option Asked
asked_in m = option_map (asked_as m) (colour_in m.1.colour)

-- the same of a task with its colour and its key
abbrev pub asked_by : (ℕ × ℤ) × ℤ → Option Asked
asked_by m = asked_in (m.0.0, record { colour = m.0.1; key = m.1 })

-- the tasks of one colour, in the order of the list
abbrev pub tasks_at : List Asked → ℕ → List ℕ
tasks_at asked colour = map (λ (a : Asked). a.task) (filter (λ (a : Asked). a.colour == colour) asked)

-- the number of the group of what a member asks for, by its colour's place; 0 for no colour
abbrev pub number_at : ℕ → List ℕ → Option ℕ → ℕ
number_at first colours asked = number_from first (position (λ colour. is_colour colour asked) colours)

-- the list is by rising colour
abbrev pub AreByColour : List Asked → Type 0
AreByColour asked = IsNonDecreasingBy (λ (a : Asked). a.colour) asked

-- The list has the members that ask for a colour, by rising colour, and those of one colour by key and then by old rank.
pub record IsAskedOf (chosen : List (ℕ × Chosen)) (asked : List Asked) : Type 0 where
  pub sorted : AreByColour asked
  pub moved : IsPermutation (filter_map asked_in chosen) asked
  pub groups : (colour : ℕ) → tasks_at asked colour ≡ tasks_of_colour chosen colour
