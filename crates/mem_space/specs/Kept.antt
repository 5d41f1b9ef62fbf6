-- What a space keeps.
use Rattle.std.specs.Prelude.{◌≡◌, ℕ, ◌<◌, ◌≤◌, List, length, slice_index, None}
use Rattle.mpc_values.specs.declared.values.Obj.TheVariants.{Dyn}
use Rattle.mpc_values.specs.declared.owners.Owner.TheVariants.{Task}
use Rattle.object_heap.specs.Layout.{Layout}
use Rattle.object_heap.specs.Objects.{object_in}
use Rattle.mem_space.specs.declared.space.Space.TheInside.{Inside}
use Rattle.mem_space.specs.Spaces.{Space}
use Rattle.mem_space.specs.Words.{live_of}

abbrev pub seen_of : Inside → Space
seen_of s = record { heap = s.heap; sharing = s.levels; quota = s.quota; made = s.made.items }

-- Of the objects that a task makes none lives but those whose names it gave, which are counted from 1; so many words of
-- them live, within the quota.
pub record IsCounted (heap : Layout) (quota task made used : ℕ) : Type 0 where
  pub first : object_in heap (Task task) (Dyn 0) ≡ None
  pub later : (number : ℕ) → made < number → object_in heap (Task task) (Dyn number) ≡ None
  pub words : used ≡ live_of heap task made
  pub within : used ≤ quota

-- So it is for each of so many tasks.
pub record AreCounted (heap : Layout) (quota tasks : ℕ) (made used : List ℕ) : Type 0 where
  pub all_made : length made ≡ tasks
  pub all_used : length used ≡ tasks
  pub each : (task : ℕ) → task < tasks → IsCounted heap quota task (slice_index made task) (slice_index used task)

pub record IsKept (s : Inside) : Type 0 where
  pub variables : s.variables ≡ length s.levels.shapes
  pub counted : AreCounted s.heap s.quota (length s.levels.cores) s.made.items s.used.items
