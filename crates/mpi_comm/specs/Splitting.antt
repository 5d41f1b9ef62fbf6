-- The groups that a split makes (MPI 3.1, section 6.4.2).
use Rattle.std.specs.Prelude.{ℕ, ℤ, pos, negsuc, ◌==◌, Bool, false, int_le, nat_lt, if◌then◌else◌, List, [], ◌∷◌, map, filter, filter_map, zip, Option, Some, None}

-- What a member asks of a split.
pub record Chosen : Type 0 where
  pub colour : ℤ
  pub key : ℤ

-- A member that goes to a group: its key and its task.
pub record Keyed : Type 0 where
  pub key : ℤ
  pub task : ℕ

-- the members in the order of their keys, with one more after those whose keys are not greater than its own
abbrev pub placed : Keyed → List Keyed → List Keyed
placed one [] = one ∷ []
placed one (first ∷ more) = if int_le first.key one.key then first ∷ placed one more else one ∷ first ∷ more

-- the same from a list, one after the other: so equal keys stay in the order of the list
abbrev pub by_key : List Keyed → List Keyed → List Keyed
by_key sorted [] = sorted
by_key sorted (one ∷ more) = by_key (placed one sorted) more

-- the colour's number, none for MPI_UNDEFINED
abbrev pub colour_in : ℤ → Option ℕ
colour_in (pos colour) = Some colour
colour_in (negsuc n) = None

-- the colours, by rising number, with one more, where it is not among them
abbrev pub with_colour : ℕ → List ℕ → List ℕ
with_colour colour [] = colour ∷ []
with_colour colour (first ∷ more) =
    if first == colour then first ∷ more
    else if nat_lt first colour then first ∷ with_colour colour more
    else colour ∷ first ∷ more

-- the colours of a list by rising number, each once
abbrev pub rising : List ℕ → List ℕ
rising [] = []
rising (colour ∷ more) = with_colour colour (rising more)

-- it is this colour
abbrev pub is_colour : ℕ → Option ℕ → Bool
is_colour colour None = false
is_colour colour (Some other) = other == colour

-- The tasks of one colour, by key and then by old rank: of members by rank with what each of them asks.
abbrev pub tasks_of_colour : List (ℕ × Chosen) → ℕ → List ℕ
tasks_of_colour chosen colour =
    map (λ (k : Keyed). k.task)
    (by_key [] (map (λ (m : ℕ × Chosen). record { key = m.1.key; task = m.0 }) (filter (λ (m : ℕ × Chosen). is_colour colour (colour_in m.1.colour)) chosen)))

-- the groups of a split, by rising colour; members and what they ask are in rank order
abbrev pub groups_of : List ℕ → List Chosen → List (List ℕ)
groups_of members chosen =
    map (tasks_of_colour (zip members chosen)) (rising (filter_map (λ (c : Chosen). colour_in c.colour) chosen))
