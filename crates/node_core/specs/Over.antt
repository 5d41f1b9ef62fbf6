-- When a task asks nothing more.
use Rattle.std.specs.Prelude.{◌||◌, ℕ, Bool, is_some}
use Rattle.run_model.specs.World.{World}
use Rattle.run_model.specs.Steps.{course_of}
use Rattle.run_model.specs.Go.{has_finished}

-- the task has finished, or something has ended the run
abbrev pub is_over : World → ℕ → Bool
is_over w task = is_some w.log.last || has_finished (course_of w.log task)
