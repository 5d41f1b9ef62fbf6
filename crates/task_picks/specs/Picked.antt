-- What a picker is to those who call it, and what it picks.
use Rattle.std.specs.Prelude.{ℕ, ◌+◌, ◌<◌, Bool, true, List, drop, filter, Option, None, Some, ◌≡◌}
use Rattle.std.specs.List.{range_with_len}
use Rattle.rand_pcg.specs.Lcg.{Lcg}
use Rattle.rand_pcg.specs.Pcg.{pcg32}
use Rattle.run_model.specs.Setup.{setup_of, tasks_of}
use Rattle.run_model.specs.Choice.{can_go, Pick, picked, by_word, listed, in_turn}
use Rattle.run_model.specs.Choice as choice
use Rattle.node_core.specs.Held.{Held, world_in}
use Rattle.task_picks.specs.declared.picker.Picker.{Picker}
use Rattle.task_picks.specs.declared.picker.Picker.TheVariants.{InTurn, ByWords, FromList}

-- a task of a node makes an entry
abbrev pub goes : Held → ℕ → Bool
goes held task = can_go (setup_of held.setup) (world_in held) task

-- the task is there, and makes an entry
pub record CanGo (held : Held) (task : ℕ) : Type 0 where
  pub there : task < tasks_of (setup_of held.setup)
  pub goes : goes held task ≡ true

-- the picking by what the code keeps of it
abbrev pub picker_of : Picker → choice.Picker
picker_of (InTurn next) = choice.InTurn next
picker_of (ByWords generator) = choice.ByWords generator
picker_of (FromList list place next) = choice.FromList (drop place list.items) next

-- what the code picked, as the definitions say it
abbrev pub pick_of : choice.Picker → Option ℕ → Option Pick
pick_of after None = None
pick_of after (Some task) = Some (record { task = task; after = after })

-- the task that was picked, if one was, is the one that goes next, and the picking has gone on
abbrev pub Picked : Held → choice.Picker → choice.Picker → Option ℕ → Type 0
Picked held old new result = picked (setup_of held.setup) (world_in held) old ≡ pick_of new result

-- the same of a generator
abbrev pub Drawn : Held → Lcg → Lcg → Option ℕ → Type 0
Drawn held old new result =
    by_word (filter (goes held) (range_with_len 0 (tasks_of (setup_of held.setup)))) (pcg32 old) ≡ pick_of (choice.ByWords new) result

-- the first of the listed tasks that can go was found, or there is none
abbrev pub Listing : Held → List ℕ → ℕ → ℕ → Option ℕ → Type 0
Listing held tasks old new None =
    (next : ℕ) → listed (setup_of held.setup) (world_in held) (drop old tasks) next ≡ in_turn (setup_of held.setup) (world_in held) next
Listing held tasks old new (Some task) =
    ((next : ℕ) → listed (setup_of held.setup) (world_in held) (drop old tasks) next
    ≡ Some (record { task = task; after = choice.FromList (drop new tasks) (task + 1) })) × CanGo held task
