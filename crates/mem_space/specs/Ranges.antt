-- The places that a word names for a task.
use Rattle.std.specs.Prelude.{◌≡◌, ℕ, ◌+◌, ◌≤◌, length, Some, Bool, false, if◌then◌else◌}
use Rattle.mpc_values.specs.declared.values.Word.{Word}
use Rattle.mpc_values.specs.declared.values.Word.TheVariants.{Ptr}
use Rattle.mpc_values.specs.declared.values.Obj.{Obj}
use Rattle.mpc_values.specs.declared.faults.Fault.{Fault}
use Rattle.memory_model.specs.Memory.{Memory, Object}
use Rattle.memory_model.specs.Marks.{Marks, Places, barred_to_loads, barred_to_stores, is_some_place}
use Rattle.memory_model.specs.Ranges.{NoRange, range_of}
use Rattle.block_table.specs.declared.rows.Span.{Span}
use Rattle.object_heap.specs.Layout.{IsSpan}
use Rattle.object_heap.specs.Objects.{Shows, key_named, object_in}
use Rattle.object_heap.specs.Marks.{marks_in}
use Rattle.mem_space.specs.Spaces.{Space, owner_for}

-- the places that may not be loaded, or else not be stored to
abbrev pub barred : Bool → Marks → Places
barred stored marks = if stored then barred_to_stores marks else barred_to_loads marks

-- The word names these places for the task, and none of them is barred.
pub record IsRange (s : Space) (task : ℕ) (at : Word) (count : ℕ) (stored : Bool) (span : Span) : Type 0 where
  pub obj : Obj
  pub names : at ≡ Ptr obj span.at
  pub len : span.len ≡ count
  pub there : IsSpan s.heap span (owner_for s.sharing task obj) obj
  pub key : key_named s.heap.rows (owner_for s.sharing task obj) obj ≡ Some span.key
  pub object : Object
  pub lives : object_in s.heap (owner_for s.sharing task obj) obj ≡ Some object
  pub within : span.at + count ≤ length object.words
  pub allowed : is_some_place (barred stored (marks_in s.heap)) (owner_for s.sharing task obj) obj span.at count ≡ false

-- To name the places has this fault, in every memory that the space shows.
abbrev pub IsNoRange : Space → ℕ → Word → ℕ → Bool → Fault → Type 0
IsNoRange s task at count stored fault =
    (m : Memory) → Shows s.heap m → range_of (owner_for s.sharing task) (barred stored (marks_in s.heap)) m at count ≡ NoRange fault
