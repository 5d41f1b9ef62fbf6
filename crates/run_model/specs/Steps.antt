-- What a visit of a task makes: its entry, and the world after it.
use Rattle.std.specs.Prelude.{ℕ, ℤ, ◌+◌, if◌then◌else◌, List, [], ◌∷◌, ◌++◌, nat_le, slice_get, slice_set, Option, Some, None}
use Rattle.mpc_values.specs.declared.calls.Call.{Call}
use Rattle.mpc_values.specs.declared.calls.Call.TheVariants as call
use Rattle.mpc_values.specs.declared.answers.Answer.{Answer}
use Rattle.mpc_values.specs.declared.faults.Fault.TheVariants.{Calls}
use Rattle.mpc_values.specs.CallTable.{call_number}
use Rattle.mpc_base.specs.declared.journals.Out.{Out}
use Rattle.mpc_base.specs.declared.journals.Out.TheVariants as out
use Rattle.mpc_base.specs.declared.journals.Entry.{Entry}
use Rattle.run_model.specs.declared.progress.Ask.{Ask}
use Rattle.run_model.specs.declared.progress.Course.{Course}
use Rattle.run_model.specs.declared.progress.Last.{Last}
use Rattle.run_model.specs.declared.progress.Last.TheVariants.{Faulted, Aborted}
use Rattle.run_model.specs.Setup.{Setup}
use Rattle.run_model.specs.World.{Core, Log, World}
use Rattle.run_model.specs.Start.{first_course}
use Rattle.run_model.specs.Outcomes.{Outcome, Does, Fails, Waits}
use Rattle.run_model.specs.Act.{act}

-- What a step makes: nothing, or an entry of the journal and the world after it.
pub data Step : Type 0 where
  Stays : Step
  Makes : (entry : Entry) (world : World) → Step

-- what became of a call, as the journal tells it
abbrev pub out_of : Outcome → Out
out_of (Does answer core) = out.Did answer
out_of (Fails fault) = out.Broke fault
out_of Waits = out.Waits

-- the core after a call; a fault leaves it as it was, and so does a call that waits
abbrev pub core_after : Core → Outcome → Core
core_after core (Does answer after) = after
core_after core (Fails fault) = core
core_after core Waits = core

-- a task's entry of a call at a line
abbrev pub entry_of : ℕ → Call → ℕ → Out → Entry
entry_of task call line out' = record { task = task; line = line; call = call_number call; out = out' }

-- the waiting call that is noted: one that has to wait
abbrev pub noted_after : Call → ℕ → Out → Option Ask
noted_after call line (out.Did answer) = None
noted_after call line (out.Broke fault) = None
noted_after call line out.Waits = Some (record { call = call; line = line })

-- the exit code of main, once its end is answered
abbrev pub exit_after : Option ℤ → Call → Out → Option ℤ
exit_after exit (call.Finish code) (out.Did answer) = Some code
exit_after exit other out' = exit

-- a task's course after one entry more
abbrev pub course_after : Course → Call → ℕ → Out → Course
course_after course call line out' = record { entries = course.entries + 1; noted = noted_after call line out'; exit = exit_after course.exit call out' }

-- a task's answers after one entry more
abbrev pub answers_after : List Answer → Out → List Answer
answers_after answers (out.Did answer) = answers ++ answer ∷ []
answers_after answers (out.Broke fault) = answers
answers_after answers out.Waits = answers

-- what has ended the run, after one entry more: a fault, or an abort that was answered
abbrev pub last_after : Option Last → ℕ → Call → ℕ → Out → Option Last
last_after last task call line (out.Broke fault) = Some (Faulted task fault line)
last_after last task (call.Abort comm code) line (out.Did answer) = Some (Aborted task code line)
last_after last task call line out' = last

-- the same by position
abbrev pub course_at : Option Course → Course
course_at None = first_course
course_at (Some course) = course

-- how far a task has come
abbrev pub course_of : Log → ℕ → Course
course_of log task = course_at (slice_get log.courses task)

-- the same by position
abbrev pub answers_at : Option (List Answer) → List Answer
answers_at None = []
answers_at (Some answers) = answers

-- the answers that a task has had
abbrev pub answers_of : World → ℕ → List Answer
answers_of w task = answers_at (slice_get w.log.answers task)

-- The log after one entry more of a task. It changes alike for every call, and looks at nothing but what became of it.
abbrev pub log_after : Log → ℕ → Call → ℕ → Out → Log
log_after log task call line out' = record {
  courses = slice_set log.courses task (course_after (course_of log task) call line out');
  answers = slice_set log.answers task (answers_after (answers_at (slice_get log.answers task)) out');
  last = last_after log.last task call line out';
}

-- What a call of a task comes to. Before all faults of its own comes Calls, where the task has as many entries as are
-- allowed.
abbrev pub tried : Setup → World → ℕ → Call → Outcome
tried setup w task call = if nat_le setup.calls (course_of w.log task).entries then Fails Calls else act setup w.core task call

-- the step of a call that comes to this
abbrev pub made_by : World → ℕ → Call → ℕ → Outcome → Step
made_by w task call line outcome =
    Makes (entry_of task call line (out_of outcome)) (record { core = core_after w.core outcome; log = log_after w.log task call line (out_of outcome) })

-- A call of a task at a line makes one entry.
unfoldable pub visited : Setup → World → ℕ → Call → ℕ → Step
visited setup w task call line = made_by w task call line (tried setup w task call)
