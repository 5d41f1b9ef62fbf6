-- Live rows, and rows over a region.
use Rattle.std.proofs.Common.{◌≡◌, ℕ, List, inl, inr, subst, Option, Some, None, is_some, true, IsSomeAnd, refl, sym, ap, ◌∙◌}
use Rattle.std.proofs.lemmas.Bool.{cases_eq}
use Rattle.block_table.specs.declared.rows.Row.{Row}
use Rattle.block_table.specs.declared.rows.Mark.{Mark}
use Rattle.block_table.specs.Rows.{Live, Rows, live, row_in, Changes}
use Rattle.word_region.specs.Places.{Places, cell, IsHeld}
use Rattle.heap_runs.specs.Objects.{Agree}

-- a key of which something holds is live
pub is_live : (slot : Option Live) (P : Live → Type 0) → IsSomeAnd slot P → is_some slot ≡ true
is_live None P holds = absurd holds
is_live (Some l) P holds = refl

same_row : (a b : Row) → Some a ≡ Some b → a ≡ b
same_row a b e = cc

-- what holds of the row that was read holds of the live row
pub live_row : (slot : Option Live) (row : Row) (P : Row → Type 0) → Some row ≡ row_in slot → P row → IsSomeAnd slot (λ l. P l.row)
live_row None row P is holds = absurd (cc)
live_row (Some l) row P is holds = subst P (same_row row l.row is) holds

-- the rows are as they were, and the places that were held still are
pub agree_kept : (rows : Rows) (old new : Places) → Agree rows old → ((p : ℕ) → is_some (cell old.cells p) ≡ true → is_some (cell new.cells p) ≡ true) → Agree rows new
agree_kept rows old new was keeps = record { held = λ key row is p from until. keeps p (was.held key row is p from until) }

-- one row more, whose places are held
pub agree_added : (old new : Rows) (places : Places) (key : ℕ) (row : Row) (marks : List Mark) → Agree old places
    → Changes old new key (Some (record { row = row; marks = marks })) → IsHeld places.cells row.base row.len → Agree new places
agree_added old new places key row marks was changes here = record {
  held = λ k r is. elim (cases_eq k key) [
    | inl same ↦ (let e : Some r ≡ Some row = is ∙ ap row_in (ap (λ n. live new n) same ∙ changes.changed) in
        subst (λ (x : Row). IsHeld places.cells x.base x.len) (sym (same_row r row e)) here)
    | inr other ↦ was.held k r (is ∙ ap row_in (changes.others k other))
  ];
}
