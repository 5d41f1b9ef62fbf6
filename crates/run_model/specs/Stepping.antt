-- What laws say of steps and of runs.
use Rattle.std.specs.Prelude.{◌≡◌, ◌≤◌, ◌==◌, ◌+◌, ◌*◌, ℕ, true, if◌then◌else◌, List, filter_map, length, slice_get, All, Option, Some, None}
use Rattle.std.specs.List.{sum_by}
use Rattle.mpc_values.specs.declared.calls.Call.{Call}
use Rattle.mpc_values.specs.declared.answers.Answer.{Answer}
use Rattle.mpc_base.specs.declared.journals.Out.{Out}
use Rattle.mpc_base.specs.declared.journals.Out.TheVariants as out
use Rattle.mpc_base.specs.declared.journals.Entry.{Entry}
use Rattle.c_tree.specs.Asking.{Asks}
use Rattle.c_tree.specs.Next.{next_of}
use Rattle.run_model.specs.declared.progress.Course.{Course}
use Rattle.run_model.specs.Setup.{Setup, tasks_of}
use Rattle.run_model.specs.World.{World}
use Rattle.run_model.specs.Steps.{Makes, made_by, tried, answers_of}
use Rattle.run_model.specs.Go.{may_go}
use Rattle.run_model.specs.Run.{Ran}

-- How a task's step comes about: the task may go, its program asks a call at a line, and the entry and the world are what
-- that call comes to.
pub record IsStep (setup : Setup) (w : World) (task : ℕ) (entry : Entry) (after : World) : Type 0 where
  pub call : Call
  pub line : ℕ
  pub course : Course
  pub there : slice_get w.log.courses task ≡ Some course
  pub may : may_go setup w task (Some course) ≡ true
  pub asked : next_of setup.program (answers_of w task) ≡ Asks call line
  pub made : made_by w task call line (tried setup w task call) ≡ Makes entry after

-- the answer that an entry tells of
abbrev pub answer_told : Out → Option Answer
answer_told (out.Did answer) = Some answer
answer_told (out.Broke fault) = None
answer_told out.Waits = None

-- the same, where it is one of the task
abbrev pub answer_to : ℕ → Entry → Option Answer
answer_to task entry = if entry.task == task then answer_told entry.out else None

-- the answers that entries tell of a task, in order
abbrev pub answers_told : ℕ → List Entry → List Answer
answers_told task entries = filter_map (answer_to task) entries

-- how many entries the courses count together
abbrev pub counted : List Course → ℕ
counted courses = sum_by (λ (course : Course). course.entries) courses

-- A run counts its entries by task; each task has at most its allowed entries until a fault or abort has ended the run; and
-- there is at most one entry more than are allowed to all.
pub record Bounded (setup : Setup) (r : Ran) : Type 0 where
  pub courses : length r.world.log.courses ≡ tasks_of setup
  pub total : length r.entries ≡ counted r.world.log.courses
  pub few : r.world.log.last ≡ None → All (λ (course : Course). course.entries ≤ setup.calls) r.world.log.courses
  pub most : length r.entries ≤ tasks_of setup * setup.calls + 1
