-- One step of one task: what its program asks, and what becomes of it.
use Rattle.std.specs.Prelude.{ℕ, Bool, true, false, not, ◌||◌, if◌then◌else◌, slice_get, Option, Some, None, is_some}
use Rattle.c_tree.specs.Asking.{Next, Asks, Over, Misfit}
use Rattle.c_tree.specs.Next.{next_of}
use Rattle.run_model.specs.declared.progress.Ask.{Ask}
use Rattle.run_model.specs.declared.progress.Course.{Course}
use Rattle.run_model.specs.Setup.{Setup}
use Rattle.run_model.specs.World.{World}
use Rattle.run_model.specs.Act.{is_enabled}
use Rattle.run_model.specs.Steps.{Step, Stays, Makes, visited, answers_of}

-- the step makes an entry
abbrev pub makes : Step → Bool
makes Stays = false
makes (Makes entry world) = true

-- the world after a step
abbrev pub world_after : World → Step → World
world_after w Stays = w
world_after w (Makes entry world) = world

-- the main of the task has ended
abbrev pub has_finished : Course → Bool
has_finished course = is_some course.exit

-- a noted call is not enabled
abbrev pub is_held : Setup → World → ℕ → Option Ask → Bool
is_held setup w task None = false
is_held setup w task (Some ask) = not (is_enabled setup w.core task ask.call)

-- A task is blocked where its noted call is not enabled.
abbrev pub is_blocked : Setup → World → ℕ → Course → Bool
is_blocked setup w task course = is_held setup w task course.noted

-- A task may go where no fault or abort has ended the run, it has not finished, and it is not blocked. Where all tasks
-- have finished, and where the run is stuck, none may.
abbrev pub may_go : Setup → World → ℕ → Option Course → Bool
may_go setup w task None = false
may_go setup w task (Some course) = not (is_some w.log.last || (has_finished course || is_blocked setup w task course))

-- the step by what the task asks
abbrev pub go_next : Setup → World → ℕ → Next → Step
go_next setup w task (Asks call line) = visited setup w task call line
go_next setup w task Over = Stays
go_next setup w task Misfit = Stays

-- the step of a task that asks this
unfoldable pub go_with : Setup → World → ℕ → Next → Step
go_with setup w task next = if may_go setup w task (slice_get w.log.courses task) then go_next setup w task next else Stays

-- One step of a task: it asks what its program asks after the task's own answers. It makes no entry where the run has
-- ended, where there is no such task, where the task has finished, or where it is blocked; nor where its program asks
-- nothing more, or has had an answer that fits no call of it, as no typed program has.
unfoldable pub go : Setup → World → ℕ → Step
go setup w task = go_with setup w task (next_of setup.program (answers_of w task))
