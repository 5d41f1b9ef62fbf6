-- Maps, rows and vectors by what their pointers lead to.
use Rattle.std.specs.Prelude.{◌≡◌, ℕ, List, [], ◌∷◌, Vec, Option, None, Some}
use Rattle.std.specs.Borrow.{Bor}
use Rattle.std.specs.Global.{Global}

-- each with the bytes in place of the vector that holds them
abbrev pub by_name : {X : Type 0} → List (Vec ℕ Global × X) → List (List ℕ × X)
by_name [] = []
by_name (e ∷ es) = (e.0.items, e.1) ∷ by_name es

-- rows by the bytes of their names
abbrev pub by_text : {X : Type 0} → List (Bor (List ℕ) × X) → List (List ℕ × X)
by_text [] = []
by_text (row ∷ rows) = (row.0.now, row.1) ∷ by_text rows

-- the vector has these items, or there is none where they are none
abbrev pub Holds : {X : Type 0} → Option (Vec X Global) → Option (List X) → Type 0
Holds (Some v) (Some items) = v.items ≡ items
Holds None None = Unit {0}
Holds v items = ⊥
