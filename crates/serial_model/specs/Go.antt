-- One step of one task.
use Rattle.std.specs.Prelude.{ℕ, pos, ◌+◌, Bool, ◌||◌, if◌then◌else◌, List, [], ◌∷◌, ◌++◌, length, nat_le, slice_get, slice_index, slice_set, Option, Some, None, is_some}
use Rattle.std.specs.List.{list_all}
use Rattle.mpc_values.specs.declared.limits.TheConstants.{DEFAULT_QUOTA, MAX_OUTPUT_BYTES, DEFAULT_CALLS}
use Rattle.mpc_values.specs.declared.values.Word.TheVariants.{Int}
use Rattle.mpc_values.specs.declared.calls.Call.{Call}
use Rattle.mpc_values.specs.declared.calls.Call.TheVariants as call
use Rattle.mpc_values.specs.declared.answers.Answer.{Answer}
use Rattle.mpc_values.specs.declared.answers.Answer.TheVariants.{Gives}
use Rattle.mpc_values.specs.declared.faults.Fault.{Fault}
use Rattle.mpc_values.specs.declared.faults.Fault.TheVariants.{OutputFull, Calls}
use Rattle.mpc_base.specs.declared.journals.Out.{Out}
use Rattle.mpc_base.specs.declared.journals.Out.TheVariants.{Did, Broke}
use Rattle.mpc_base.specs.declared.journals.Entry.{Entry}
use Rattle.mpc_values.specs.CallTable.{call_number}
use Rattle.c_tree.specs.Asking.{Next, Asks, Over, Misfit}
use Rattle.c_tree.specs.Next.{next_of}
use Rattle.c_tree.specs.ProgramOf.{program_of}
use Rattle.serial_memory.specs.Memory.{Memory}
use Rattle.serial_memory.specs.Access.{Objects, Access, Answers, Breaks, load, store, new, malloc, drop, free}
use Rattle.serial_model.specs.declared.records.Setup.{Setup}
use Rattle.serial_model.specs.World.{World, TaskState, owner_of}

-- What a call does: an answer, with the memory and the task behind it, or a fault; or it is one that the programs which
-- are run today do not make.
pub data Act : Type 0 where
  Does : (answer : Answer) (memory : Memory) (task : TaskState) → Act
  Fails : (fault : Fault) → Act
  Unbuilt : Act

-- the most words that a task's live locals and blocks have together
abbrev pub quota : ℕ
quota = DEFAULT_QUOTA

-- the most bytes of output that a task may print
abbrev pub output_limit : ℕ
output_limit = MAX_OUTPUT_BYTES

-- the most entries that a task may have in the journal
abbrev pub calls_limit : ℕ
calls_limit = DEFAULT_CALLS

-- the objects that an access of a task finds
abbrev pub objects_of : Memory → TaskState → Objects
objects_of m state = record { memory = m; made = state.made }

-- an access changes memory, and how many objects the task has made, alone
abbrev pub accessed : TaskState → Access → Act
accessed state (Answers answer objects) = Does answer objects.memory (record state { made = objects.made })
accessed state (Breaks fault) = Fails fault

-- A print puts its bytes behind the task's output and gives their number, or is OutputFull.
abbrev pub print : Memory → TaskState → List ℕ → Act
print m state text =
    if nat_le (length state.output + length text) output_limit
    then Does (Gives (Int (pos (length text)))) m (record state { output = state.output ++ text })
    else Fails OutputFull

-- what a call of a task does
abbrev pub act : ℕ → Memory → TaskState → Call → Act
act task m state (call.Load at) = accessed state (load (owner_of task) (objects_of m state) at)
act task m state (call.Store at word) = accessed state (store (owner_of task) (objects_of m state) at word)
act task m state (call.New len) = accessed state (new quota task (objects_of m state) len)
act task m state (call.Drop obj) = accessed state (drop task (objects_of m state) obj)
act task m state (call.Malloc n) = accessed state (malloc quota task (objects_of m state) n)
act task m state (call.Free at) = accessed state (free task (objects_of m state) at)
act task m state (call.Print text) = print m state text
act task m state (call.Broke fault) = Fails fault
act task m state (call.Finish code) = Does (Gives (Int code)) m (record state { exit = Some code })
act task m state other = Unbuilt

-- What a step makes: nothing, or an entry of the journal and the world behind it.
pub data Step : Type 0 where
  Stays : Step
  Makes : (entry : Entry) (world : World) → Step

abbrev pub entry_of : ℕ → Call → ℕ → Out → Entry
entry_of task call line out = record { task = task; line = line; call = call_number call; out = out }

abbrev pub answers_at : Option (List Answer) → List Answer
answers_at None = []
answers_at (Some answers) = answers

-- the answers that a task has had
abbrev pub answers_of : World → ℕ → List Answer
answers_of w task = answers_at (slice_get w.answers task)

-- how many entries a task has in the journal
abbrev pub count_of : World → ℕ → ℕ
count_of w task = slice_index w.counts task

-- the counts with one entry of a task more
abbrev pub counted : World → ℕ → List ℕ
counted w task = slice_set w.counts task (count_of w task + 1)

-- the entry and the world behind a call of a task that has a fault: nothing else has changed
abbrev pub fails : World → ℕ → Call → ℕ → Fault → Step
fails w task call line fault =
    Makes (entry_of task call line (Broke fault)) (record w { counts = counted w task; last = Some (record { task = task; fault = fault; line = line }) })

-- the entry and the world behind a call of a task
abbrev pub acted : World → ℕ → Call → ℕ → Act → Step
acted w task call line (Does answer memory state) =
    Makes (entry_of task call line (Did answer)) (record {
      memory = memory;
      tasks = slice_set w.tasks task state;
      counts = counted w task;
      answers = slice_set w.answers task (answers_of w task ++ answer ∷ []);
      last = w.last;
    })
acted w task call line Unbuilt = Stays
acted w task call line (Fails fault) = fails w task call line fault

-- A call of a task. Before all faults of its own comes Calls, where the task has as many entries as are allowed.
abbrev pub visited : World → ℕ → TaskState → Call → ℕ → Step
visited w task state call line =
    if nat_le calls_limit (count_of w task) then fails w task call line Calls else acted w task call line (act task w.memory state call)

abbrev pub has_finished : TaskState → Bool
has_finished state = is_some state.exit

-- a run has ended by a fault, or when all its tasks have finished
abbrev pub has_ended : World → Bool
has_ended w = is_some w.last || list_all has_finished w.tasks

abbrev pub go_next : World → ℕ → TaskState → Next → Step
go_next w task state (Asks call line) = visited w task state call line
go_next w task state Over = Stays
go_next w task state Misfit = Stays

-- a task that has not finished asks what its program asks behind the task's own answers
abbrev pub go_task : Setup → World → ℕ → Option TaskState → Step
go_task setup w task None = Stays
go_task setup w task (Some state) =
    if has_finished state then Stays else go_next w task state (next_of (program_of setup.program) (answers_of w task))

-- One step of a task. It makes no entry where the run has ended, where there is no such task, or where the task
-- has finished.
abbrev pub go : Setup → World → ℕ → Step
go setup w task = if has_ended w then Stays else go_task setup w task (slice_get w.tasks task)
