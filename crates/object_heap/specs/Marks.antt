-- The marks of a heap's places, by the names of their objects.
use Rattle.std.specs.Prelude.{◌≡◌, ℕ, if◌then◌else◌, Option, Some, None}
use Rattle.mpc_values.specs.declared.values.Obj.{Obj}
use Rattle.mpc_values.specs.declared.owners.Owner.{Owner}
use Rattle.memory_model.specs.Marks as model
use Rattle.block_table.specs.declared.rows.Mark.{Mark}
use Rattle.block_table.specs.declared.rows.Mark.TheVariants.{Free}
use Rattle.block_table.specs.Rows.{Rows, IsNamed, Marks, mark_at, is_in, is_send, is_receive}
use Rattle.object_heap.specs.Layout.{Layout}
use Rattle.object_heap.specs.Objects.{key_named}

-- the mark of a place of a key's row, where there is one
abbrev pub mark_where : Rows → Option ℕ → ℕ → Mark
mark_where rows None p = Free
mark_where rows (Some key) p = mark_at rows key p

-- the mark of a place of an owner's object; Free where no such object lives
abbrev pub mark_of : Layout → Owner → Obj → ℕ → Mark
mark_of h owner obj p = mark_where h.rows (key_named h.rows owner obj) p

-- which places sends have, and which receives have
abbrev pub marks_in : Layout → model.Marks
marks_in h = record {
  sent = λ owner obj place. is_send (mark_of h owner obj place);
  received = λ owner obj place. is_receive (mark_of h owner obj place);
}

-- every place is marked as before
abbrev pub KeepsMarks : Layout → Layout → Type 0
KeepsMarks old new = (owner : Owner) (obj : Obj) (p : ℕ) → mark_of new owner obj p ≡ mark_of old owner obj p

-- The marks of some places of a key's object are changed, and every other place is marked as before.
pub record Remarks (old new : Layout) (key at len : ℕ) (change : Mark → Mark) : Type 0 where
  pub table : Marks old.rows new.rows key at len change
  pub here : (owner : Owner) (obj : Obj) (p : ℕ) → IsNamed old.rows key owner obj
      → mark_of new owner obj p ≡ (if is_in at len p then change (mark_of old owner obj p) else mark_of old owner obj p)
  pub others : (owner : Owner) (obj : Obj) (p : ℕ) → (IsNamed old.rows key owner obj → ⊥) → mark_of new owner obj p ≡ mark_of old owner obj p
