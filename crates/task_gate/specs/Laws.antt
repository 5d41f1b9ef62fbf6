-- What holds of all histories, claims and passes, for those who compose visits and joins.
use Rattle.std.specs.Prelude.{◌≡◌, ◌≢◌, ℕ, List, [], ◌∷◌, ◌++◌, length}
use base.Stored.{Gv}
use Rattle.atomic_table.specs.Seated.{TableId}
use Rattle.task_gate.specs.History.{items_of, StartsWith, Keeps, KeepsAll}
use Rattle.task_gate.specs.Passes.{AllNew, IsNew, IsAt, leaving_with}
use Rattle.task_gate.specs.declared.passes.Pass.{Pass}

-- How histories begin with one another, and whose items they have.
pub record HistoryLaws : Type 0 where
  pub same : (h : List (ℕ × Gv)) → StartsWith h h
  pub front : (h more : List (ℕ × Gv)) → StartsWith (h ++ more) h
  pub composed : (seen log later : List (ℕ × Gv)) → StartsWith log seen → StartsWith later log → StartsWith later seen
  pub items_both : (n : ℕ) (front back : List (ℕ × Gv)) → items_of n (front ++ back) ≡ items_of n front ++ items_of n back
  pub items_own : (n : ℕ) (x : Gv) (h : List (ℕ × Gv)) → items_of n (h ++ (n, x) ∷ []) ≡ items_of n h ++ x ∷ []
  pub items_other : (n m : ℕ) (x : Gv) (h : List (ℕ × Gv)) → m ≢ n → items_of m (h ++ (n, x) ∷ []) ≡ items_of m h
  pub items_at : (n : ℕ) (x : Gv) (front back : List (ℕ × Gv)) → items_of n (front ++ (n, x) ∷ back) ≡ items_of n front ++ x ∷ items_of n back
  pub items_front : (n : ℕ) (seen log : List (ℕ × Gv)) → StartsWith log seen → (more : List Gv) × (items_of n log ≡ items_of n seen ++ more)

-- Which claims a history keeps.
pub record ClaimLaws : Type 0 where
  pub both : (log : List (ℕ × Gv)) (cs ds : List (ℕ × List (ℕ × Gv))) → KeepsAll log cs → KeepsAll log ds → KeepsAll log (cs ++ ds)
  pub parts : (log : List (ℕ × Gv)) (cs ds : List (ℕ × List (ℕ × Gv))) → KeepsAll log (cs ++ ds) → KeepsAll log cs × KeepsAll log ds
  pub only : (log : List (ℕ × Gv)) (cs : List (ℕ × List (ℕ × Gv))) (n : ℕ) (seen : List (ℕ × Gv)) → cs ≡ (n, seen) ∷ [] → KeepsAll log cs → Keeps log (n, seen)
  pub longer : (log later : List (ℕ × Gv)) (c : ℕ × List (ℕ × Gv)) → Keeps log c → StartsWith later log → items_of c.0 later ≡ items_of c.0 log → Keeps later c
  pub leaves : (h seen : List (ℕ × Gv)) (cs : List (ℕ × List (ℕ × Gv))) (n : ℕ) → cs ≡ (n, seen) ∷ [] → leaving_with h cs ≡ (n, h) ∷ []

-- The passes of a new gate, taken from the last.
pub record PassLaws : Type 0 where
  pub last : (z : TableId) (b : Gv) (ps : List Pass) (p : Pass) → AllNew z b (ps ++ p ∷ []) → AllNew z b ps × IsNew z b (length ps) p
  pub at : (z : TableId) (b : Gv) (n : ℕ) (p : Pass) → IsNew z b n p → IsAt z n p
