-- How many communicators a meeting makes, and how many members each has.
use Rattle.std.proofs.Common.{◌≡◌, ◌≢◌, ◌⊎◌, inl, inr, ◌<◌, ◌≤◌, ◌+◌, ◌==◌, ℕ, ℤ, zero, suc, Bool, true, false, int_le, nat_lt, if◌then◌else◌, List, [], ◌∷◌, ◌++◌, map, filter, filter_map, zip, length, slice_get, slice_set, Option, Some, None, refl, ap, sym, ◌∙◌, subst, length-append, arith}
use Rattle.std.specs.List.{cons_option, range_with_len}
use Rattle.std.proofs.lemmas.List.{length-map}
use Rattle.std.proofs.lemmas.List.FromFn.{length-range_with_len}
use Rattle.std.proofs.lemmas.Bool.Decides.{eqb_tells}
use Rattle.std.proofs.lemmas.Option.{slice_get_within}
use Rattle.mpi_comm.specs.declared.communicators.Communicator.{Communicator}
use Rattle.mpi_comm.specs.Splitting.{Chosen, Keyed, placed, by_key, colour_in, with_colour, rising, is_colour, tasks_of_colour, groups_of}
use Rattle.mpi_comm.specs.Making.{made_by, with_dup, with_split, freed_at, freed}
use Rattle.run_model.proofs.Lists.{get_before, get_set_same, get_set_other, length_set}

-- each of these communicators has at most so many members
abbrev pub FewMembers : ℕ → List Communicator → Type 0
FewMembers limit comms = (index : ℕ) (comm : Communicator) → slice_get comms index ≡ Some comm → length comm.members ≤ limit

length_placed : (one : Keyed) (sorted : List Keyed) → length (placed one sorted) ≡ length sorted + 1
length_placed one [] = refl
length_placed one (first ∷ more) = by (int_le first.key one.key)
    (length_placed one more)
  where
    by : (b : Bool) → length (placed one more) ≡ length more + 1 → length (if b then first ∷ placed one more else one ∷ first ∷ more) ≡ length (first ∷ more) + 1
    by true h = omega (arith, h)
    by false h = omega arith

length_by_key : (sorted more : List Keyed) → length (by_key sorted more) ≡ length sorted + length more
length_by_key sorted [] = omega arith
length_by_key sorted (one ∷ more) = omega (arith, length_by_key (placed one sorted) more, length_placed one sorted)

length_filter : {X : Type 0} (test : X → Bool) (xs : List X) → length (filter test xs) ≤ length xs
length_filter test [] = omega arith
length_filter test (x ∷ xs) = by (test x) (length_filter test xs)
  where
    by : (b : Bool) → length (filter test xs) ≤ length xs → length (if b then x ∷ filter test xs else filter test xs) ≤ length (x ∷ xs)
    by true h = omega (arith, h)
    by false h = omega (arith, h)

length_zip : {X Y : Type 0} (xs : List X) (ys : List Y) → length (zip xs ys) ≤ length xs
length_zip [] ys = omega arith
length_zip (x ∷ xs) [] = omega arith
length_zip (x ∷ xs) (y ∷ ys) = omega (arith, length_zip xs ys)

pub length_filter_map : {X Y : Type 0} (f : X → Option Y) (xs : List X) → length (filter_map f xs) ≤ length xs
length_filter_map f [] = omega arith
length_filter_map f (x ∷ xs) = by (f x) (length_filter_map f xs)
  where
    by : (o : Option _) → length (filter_map f xs) ≤ length xs → length (cons_option o (filter_map f xs)) ≤ length (x ∷ xs)
    by None h = omega (arith, h)
    by (Some y) h = omega (arith, h)

length_colour : (colour : ℕ) (colours : List ℕ) → length (with_colour colour colours) ≤ length colours + 1
length_colour colour [] = omega arith
length_colour colour (first ∷ more) = by (first == colour) (nat_lt first colour) (length_colour colour more)
  where
    by : (b c : Bool) → length (with_colour colour more) ≤ length more + 1
        → length (if b then first ∷ more else if c then first ∷ with_colour colour more else colour ∷ first ∷ more) ≤ length (first ∷ more) + 1
    by true c h = omega arith
    by false true h = omega (arith, h)
    by false false h = omega arith

length_rising : (colours : List ℕ) → length (rising colours) ≤ length colours
length_rising [] = omega arith
length_rising (colour ∷ more) = omega (arith, length_rising more, length_colour colour (rising more))

colour_few : (members : List ℕ) (chosen : List Chosen) (colour : ℕ) → length (tasks_of_colour (zip members chosen) colour) ≤ length members
colour_few members chosen colour =
    omega (
      arith,
      length-map (by_key [] (map (λ (m : ℕ × Chosen). record { key = m.1.key; task = m.0 }) (filter (λ (m : ℕ × Chosen). is_colour colour (colour_in m.1.colour)) (zip members chosen)))) (λ (k : Keyed). k.task),
      length_by_key [] (map (λ (m : ℕ × Chosen). record { key = m.1.key; task = m.0 }) (filter (λ (m : ℕ × Chosen). is_colour colour (colour_in m.1.colour)) (zip members chosen))),
      length-map {B = Keyed} (filter (λ (m : ℕ × Chosen). is_colour colour (colour_in m.1.colour)) (zip members chosen)) (λ (m : ℕ × Chosen). record { key = m.1.key; task = m.0 }),
      length_filter (λ (m : ℕ × Chosen). is_colour colour (colour_in m.1.colour)) (zip members chosen),
      length_zip members chosen,
    )

-- how many groups a split makes
groups_few : (members : List ℕ) (chosen : List Chosen) → length (groups_of members chosen) ≤ length chosen
groups_few members chosen =
    omega (
      arith,
      length-map (rising (filter_map (λ (c : Chosen). colour_in c.colour) chosen)) (tasks_of_colour (zip members chosen)),
      length_rising (filter_map (λ (c : Chosen). colour_in c.colour) chosen),
      length_filter_map (λ (c : Chosen). colour_in c.colour) chosen,
    )

pub some_comm : (a b : Communicator) → Some a ≡ Some b → a ≡ b
some_comm a b h = cc

-- communicators that are made are few and small
made_few : (limit parent meeting : ℕ) (members : List ℕ) (chosen : List Chosen) (colours : List ℕ) (index : ℕ) (comm : Communicator) → length members ≤ limit
    → slice_get (map (made_by parent meeting) (map (tasks_of_colour (zip members chosen)) colours)) index ≡ Some comm → length comm.members ≤ limit
made_few limit parent meeting members chosen [] index comm h e = absurd (never e)
  where
    never : None ≡ Some comm → ⊥
    never e' = cc
made_few limit parent meeting members chosen (colour ∷ more) zero comm h e =
    let is : made_by parent meeting (tasks_of_colour (zip members chosen) colour) ≡ comm = some_comm _ comm e in
    let size : length (tasks_of_colour (zip members chosen) colour) ≡ length comm.members = ap (λ (c : Communicator). length c.members) is in
    omega (arith, size, h, colour_few members chosen colour)
made_few limit parent meeting members chosen (colour ∷ more) (suc index) comm h e = made_few limit parent meeting members chosen more index comm h e

-- the same of a list with more behind it
append_few : (limit : ℕ) (comms more : List Communicator) → FewMembers limit comms → FewMembers limit more → FewMembers limit (comms ++ more)
append_few limit [] more h g index comm e = g index comm e
append_few limit (first ∷ comms) more h g zero comm e = h zero comm e
append_few limit (first ∷ comms) more h g (suc index) comm e = append_few limit comms more (λ i c e'. h (suc i) c e') g index comm e

pub dup_few : (limit : ℕ) (comms : List Communicator) (parent meeting : ℕ) (members : List ℕ) → 1 ≤ limit → length members ≤ limit → FewMembers limit comms
    → FewMembers limit (with_dup comms parent meeting members) × (length (with_dup comms parent meeting members) ≤ length comms + limit)
dup_few limit comms parent meeting members one few h =
    (append_few limit comms (made_by parent meeting members ∷ []) h only, omega (arith, one, length-append comms (made_by parent meeting members ∷ [])))
  where
    only : FewMembers limit (made_by parent meeting members ∷ [])
    only zero comm e =
        let size : length members ≡ length comm.members = ap (λ (c : Communicator). length c.members) (some_comm _ comm e) in
        omega (arith, size, few)
    only (suc index) comm e = absurd (never e)
      where
        never : None ≡ Some comm → ⊥
        never e' = cc

pub split_few : (limit : ℕ) (comms : List Communicator) (parent meeting : ℕ) (members : List ℕ) (chosen : List Chosen) → length members ≤ limit → length chosen ≤ limit → FewMembers limit comms
    → FewMembers limit (with_split comms parent meeting members chosen) × (length (with_split comms parent meeting members chosen) ≤ length comms + limit)
split_few limit comms parent meeting members chosen few asked h = (
  append_few limit comms (map (made_by parent meeting) (groups_of members chosen)) h
      (λ index comm e. made_few limit parent meeting members chosen (rising (filter_map (λ (c : Chosen). colour_in c.colour) chosen)) index comm few e),
  omega (arith, asked, length-append comms (map (made_by parent meeting) (groups_of members chosen)), length-map (groups_of members chosen) (made_by parent meeting), groups_few members chosen),
)

freed_small : (limit : ℕ) (comms : List Communicator) (index : ℕ) (o : Option Communicator) → slice_get comms index ≡ o → FewMembers limit comms
    → FewMembers limit (freed_at comms index o) × (length (freed_at comms index o) ≤ length comms + limit)
freed_small limit comms index None is h = (h, omega arith)
freed_small limit comms index (Some freed') is h = (λ other comm e. by other comm e (eqb_tells other index), omega (arith, length_set comms index (record freed' { lives = false })))
  where
    by : (other : ℕ) (comm : Communicator) → slice_get (slice_set comms index (record freed' { lives = false })) other ≡ Some comm
        → ((other == index) ≡ true) × (other ≡ index) ⊎ ((other == index) ≡ false) × (other ≢ index) → length comm.members ≤ limit
    by other comm e (inl same) =
        let there : index < length comms = slice_get_within comms index freed' is in
        let is_it : record freed' { lives = false } ≡ comm = some_comm _ comm (sym (get_set_same comms index (record freed' { lives = false }) there) ∙ ap (slice_get (slice_set comms index (record freed' { lives = false }))) (sym same.1) ∙ e) in
        let size : length freed'.members ≡ length comm.members = ap (λ (c : Communicator). length c.members) is_it in
        omega (arith, size, h index freed' is)
    by other comm e (inr apart) = h other comm (sym (get_set_other comms index other (record freed' { lives = false }) apart.1) ∙ e)

pub free_few : (limit : ℕ) (comms : List Communicator) (number : ℕ) → FewMembers limit comms → FewMembers limit (freed comms number) × (length (freed comms number) ≤ length comms + limit)
free_few limit comms zero h = (h, omega arith)
free_few limit comms (suc index) h = freed_small limit comms index (slice_get comms index) refl h
