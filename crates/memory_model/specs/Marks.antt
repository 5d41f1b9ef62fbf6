-- Which places messages under way have marked.
use Rattle.std.specs.Prelude.{ℕ, Bool, false, ◌||◌}
use Rattle.std.specs.List.{list_any, range_with_len}
use Rattle.mpc_values.specs.declared.values.Obj.{Obj}
use Rattle.mpc_values.specs.declared.owners.Owner.{Owner}

-- a test of places: of an owner, its object, and the place's number
abbrev pub Places : Type 0
Places = Owner → Obj → ℕ → Bool

-- Which places a send that is not completed has, and which such a receive has (MPI 3.1, sections 3.7.2 and 3.7.3).
-- Those who know the messages give these two tests.
pub record Marks : Type 0 where
  pub sent : Places
  pub received : Places

-- what a load, or the range of a send, may not touch: the places of receives
abbrev pub barred_to_loads : Marks → Places
barred_to_loads marks = marks.received

-- what a store, or the range of a receive, may not touch: the places of sends and of receives
abbrev pub barred_to_stores : Marks → Places
barred_to_stores marks owner obj place = marks.sent owner obj place || marks.received owner obj place

-- one of so many places, from a number on, passes the test
abbrev pub is_some_place : Places → Owner → Obj → ℕ → ℕ → Bool
is_some_place test owner obj at count = list_any (test owner obj) (range_with_len at count)

-- no message is under way
abbrev pub no_marks : Marks
no_marks = record { sent = λ owner obj place. false; received = λ owner obj place. false }
