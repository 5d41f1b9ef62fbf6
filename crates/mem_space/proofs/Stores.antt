-- Loads and stores.
use Rattle.std.proofs.Common.{◌≡◌, ℕ, ◌+◌, ◌<◌, ◌≤◌, Bool, true, false, slice_get, Some, Result, Err, refl, sym, ap, ◌∙◌, arith, length-set}
use Rattle.mpc_values.specs.declared.values.Word.{Word}
use Rattle.mpc_values.specs.declared.values.Word.TheVariants.{Ptr}
use Rattle.mpc_values.specs.declared.values.Obj.{Obj}
use Rattle.mpc_values.specs.declared.answers.Answer.TheVariants.{Done}
use Rattle.mpc_values.specs.declared.faults.Fault.{Fault}
use Rattle.mpc_values.specs.declared.faults.Fault.TheVariants.{Bounds, PendingTouch}
use Rattle.memory_model.specs.Memory.{Memory, object_of, with_object}
use Rattle.memory_model.specs.Marks.{is_some_place}
use Rattle.memory_model.specs.Ranges.{Within, range_of}
use Rattle.memory_model.specs.Access.{Objects, Breaks, given, load, load_in, store, store_in, with_word}
use Rattle.block_table.specs.declared.rows.Span.{Span}
use Rattle.block_table.specs.declared.rows.Row.{Row}
use Rattle.object_heap.specs.Layout.{Layout, IsSpan}
use Rattle.object_heap.specs.Objects.{Shows, key_named}
use Rattle.object_heap.specs.Marks.{marks_in}
use Rattle.object_heap.specs.Changes.{Edits}
use Rattle.mem_space.specs.Spaces.{Space, owner_for, objects_in}
use Rattle.mem_space.specs.Ranges.{IsRange, IsNoRange, barred}
use Rattle.mem_space.specs.Accesses.{Answered, loaded}
use Rattle.object_heap.proofs.Heaps.{shows_given}
use Rattle.mem_space.proofs.Heaps.{Found}
use Rattle.mem_space.proofs.Ranges.{outside, touched, within}
use Rattle.mem_space.proofs.Counts.{SameSizes, sizes_put}

module _ (s : Space) (task : ℕ) (at : Word) (count : ℕ) (stored : Bool) (span : Span) (r : IsRange s task at count stored span) (m : Memory) (shows : Shows s.heap m) where
  -- the range that the word names, in every memory that the space shows
  pub range_within : range_of (owner_for s.sharing task) (barred stored (marks_in s.heap)) m at count ≡ Within (owner_for s.sharing task r.obj) r.obj span.at r.object
  range_within =
      ap (λ w. range_of (owner_for s.sharing task) (barred stored (marks_in s.heap)) m w count) r.names
      ∙ within (owner_for s.sharing task) (barred stored (marks_in s.heap)) m r.obj span.at count r.object (shows (owner_for s.sharing task r.obj) r.obj ∙ r.lives) r.within r.allowed

pub no_range_load : (s : Space) (task : ℕ) (at : Word) (fault : Fault) → IsNoRange s task at 1 false fault → (m : Memory) → Shows s.heap m
    → loaded (Err fault) (objects_in s m task) ≡ load (owner_for s.sharing task) (marks_in s.heap) (objects_in s m task) at
no_range_load s task at fault none m shows = sym (ap (load_in (objects_in s m task)) (none m shows))

pub load_is : (s : Space) (task : ℕ) (at : Word) (span : Span) (result : Result Word Fault) (word : Word) (r : IsRange s task at 1 false span) → Some word ≡ slice_get r.object.words span.at
    → ((o : Objects) → loaded result o ≡ given o (Some word)) → (m : Memory) → Shows s.heap m
    → loaded result (objects_in s m task) ≡ load (owner_for s.sharing task) (marks_in s.heap) (objects_in s m task) at
load_is s task at span result word r is told m shows =
    told (objects_in s m task) ∙ (ap (given (objects_in s m task)) is ∙ sym (ap (load_in (objects_in s m task)) (range_within s task at 1 false span r m shows)))

pub no_range_store : (s : Space) (task : ℕ) (at word : Word) (fault : Fault) → IsNoRange s task at 1 true fault → (m : Memory) → Shows s.heap m
    → store (owner_for s.sharing task) (marks_in s.heap) (objects_in s m task) at word ≡ Breaks fault
no_range_store s task at word fault none m shows = ap (store_in (objects_in s m task) word) (none m shows)

pub store_is : (s : Space) (heap : Layout) (task : ℕ) (at word : Word) (span : Span) → IsRange s task at 1 true span → Edits s.heap heap span.key (λ object. with_word object span.at word)
    → (m : Memory) → Shows s.heap m → Answered (record s { heap = heap }) task Done (store (owner_for s.sharing task) (marks_in s.heap) (objects_in s m task) at word)
store_is s heap task at word span r edits m shows = record {
  memory = with_object m (owner_for s.sharing task r.obj) r.obj (with_word r.object span.at word);
  gives = ap (store_in (objects_in s m task) word) (range_within s task at 1 true span r m shows);
  shows = shows_given s.heap heap m (owner_for s.sharing task r.obj) r.obj (with_word r.object span.at word) shows (edits.object (owner_for s.sharing task r.obj) r.obj r.object r.there.named r.lives);
}

pub store_sizes : (s : Space) (heap : Layout) (task : ℕ) (at word : Word) (span : Span) → IsRange s task at 1 true span → Edits s.heap heap span.key (λ object. with_word object span.at word) → SameSizes s.heap heap
store_sizes s heap task at word span r edits =
    sizes_put s.heap heap (owner_for s.sharing task r.obj) r.obj r.object (with_word r.object span.at word) r.lives (length-set r.object.words span.at word)
    (edits.object (owner_for s.sharing task r.obj) r.obj r.object r.there.named r.lives)

module _ (s : Space) (task : ℕ) (obj : Obj) (place count : ℕ) (stored : Bool) (key : ℕ) (row : Row) (f : Found s.heap (owner_for s.sharing task obj) obj row) where
  lives_in : (m : Memory) → Shows s.heap m → object_of m (owner_for s.sharing task obj) obj ≡ Some f.object
  lives_in m shows = shows (owner_for s.sharing task obj) obj ∙ f.is

  pub past_row : row.len < place + count → IsNoRange s task (Ptr obj place) count stored Bounds
  past_row past m shows =
      outside (owner_for s.sharing task) (barred stored (marks_in s.heap)) m obj place count f.object (lives_in m shows) (omega (arith, f.len))

  pub touched_row : place + count ≤ row.len → is_some_place (barred stored (marks_in s.heap)) (owner_for s.sharing task obj) obj place count ≡ true → IsNoRange s task (Ptr obj place) count stored PendingTouch
  touched_row fits is m shows =
      touched (owner_for s.sharing task) (barred stored (marks_in s.heap)) m obj place count f.object (lives_in m shows) (omega (arith, f.len)) is

  pub range_there : place + count ≤ row.len → 0 < count → is_some_place (barred stored (marks_in s.heap)) (owner_for s.sharing task obj) obj place count ≡ false
      → IsSpan s.heap (record { key = key; at = place; len = count }) (owner_for s.sharing task obj) obj → key_named s.heap.rows (owner_for s.sharing task obj) obj ≡ Some key
      → IsRange s task (Ptr obj place) count stored (record { key = key; at = place; len = count })
  range_there fits some is there named = record {
    obj = obj;
    names = refl;
    len = refl;
    there = there;
    key = named;
    object = f.object;
    lives = f.is;
    within = omega (arith, f.len);
    allowed = is;
  }
