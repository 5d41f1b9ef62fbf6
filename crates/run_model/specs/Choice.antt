-- In which order the tasks of a serial run step.
use Rattle.std.specs.Prelude.{ℕ, zero, suc, ◌+◌, ◌-◌, ◌*◌, ◌%◌, Bool, if◌then◌else◌, List, [], ◌∷◌, ◌++◌, length, filter, find, slice_get, Option, Some, None, option_map}
use Rattle.std.specs.List.{range_with_len}
use Rattle.rand_core.specs.Pcg32Seed.{pcg32_seed}
use Rattle.rand_pcg.specs.Lcg.{Lcg}
use Rattle.rand_pcg.specs.Pcg.{pcg32, pcg32_of_seed}
use Rattle.mpc_base.specs.declared.picks.Picks.{Picks}
use Rattle.mpc_base.specs.declared.picks.Picks.TheVariants.{RoundRobin, Seeded, Listed}
use Rattle.run_model.specs.Setup.{Setup, tasks_of}
use Rattle.run_model.specs.World.{World}
use Rattle.run_model.specs.Start.{start}
use Rattle.run_model.specs.Go.{go, makes, world_after}

-- How far the picking has come: one after the other, by the words of a generator, or as they are listed. `next` is the
-- task after the last that went, 0 at the start.
pub data Picker : Type 0 where
  InTurn : (next : ℕ) → Picker
  ByWords : (generator : Lcg) → Picker
  FromList : (tasks : List ℕ) (next : ℕ) → Picker

-- how the picking starts
abbrev pub first_picker : Picks → Picker
first_picker RoundRobin = InTurn 0
first_picker (Seeded seed) = ByWords (pcg32_of_seed (pcg32_seed 16 seed))
first_picker (Listed tasks) = FromList tasks 0

-- the task makes an entry
abbrev pub can_go : Setup → World → ℕ → Bool
can_go setup w task = makes (go setup w task)

-- all tasks by rising number, from one on and cyclically
abbrev pub from_task : Setup → ℕ → List ℕ
from_task setup next = range_with_len next (tasks_of setup - next) ++ range_with_len 0 next

-- A task that goes next, and the picking after it.
pub record Pick : Type 0 where
  pub task : ℕ
  pub after : Picker

-- the next task that can go, in turn
abbrev pub in_turn : Setup → World → ℕ → Option Pick
in_turn setup w next =
    option_map (λ task. record { task = task; after = InTurn (task + 1) }) (find (can_go setup w) (from_task setup next))

-- one of these tasks, by a word modulo how many they are
abbrev pub by_word : List ℕ → ℕ × Lcg → Option Pick
by_word [] drawn = None
by_word (task ∷ more) drawn =
    option_map (λ picked. record { task = picked; after = ByWords drawn.1 }) (slice_get (task ∷ more) (drawn.0 % length (task ∷ more)))

-- the first listed task that can go; after the list, in turn
abbrev pub listed : Setup → World → List ℕ → ℕ → Option Pick
listed setup w [] next = in_turn setup w next
listed setup w (task ∷ more) next =
    if can_go setup w task then Some (record { task = task; after = FromList more (task + 1) }) else listed setup w more next

-- the task that goes next, where one can go
abbrev pub picked : Setup → World → Picker → Option Pick
picked setup w (InTurn next) = in_turn setup w next
picked setup w (ByWords generator) = by_word (filter (can_go setup w) (range_with_len 0 (tasks_of setup))) (pcg32 generator)
picked setup w (FromList tasks next) = listed setup w tasks next

-- the task that goes next, and the tasks after it
abbrev pub with_pick : Option Pick → (Pick → List ℕ) → List ℕ
with_pick None more = []
with_pick (Some pick) more = pick.task ∷ more pick

-- at most so many tasks one after the other, until the run has ended and none can go
unfoldable pub choices : ℕ → Setup → World → Picker → List ℕ
choices zero setup w picker = []
choices (suc left) setup w picker =
    with_pick (picked setup w picker) (λ pick. choices left setup (world_after w (go setup w pick.task)) pick.after)

-- The order of a serial run. Each task has at most its allowed entries, and the run one more, which ends it with Calls; so
-- no run is longer.
abbrev pub choice : Setup → Picks → List ℕ
choice setup picks = choices (tasks_of setup * setup.calls + 1) setup (start setup) (first_picker picks)
