-- What each call on a space comes to is the access of the definitions, of every memory that the space shows.
use Rattle.std.specs.Prelude.{◌≡◌, ℕ, Result, Ok, Err}
use Rattle.mpc_values.specs.declared.values.Word.{Word}
use Rattle.mpc_values.specs.declared.answers.Answer.{Answer}
use Rattle.mpc_values.specs.declared.answers.Answer.TheVariants.{Done, Gives}
use Rattle.mpc_values.specs.declared.faults.Fault.{Fault}
use Rattle.memory_model.specs.Memory.{Memory}
use Rattle.memory_model.specs.Access.{Objects, Access, Answers, Breaks}
use Rattle.object_heap.specs.Objects.{Shows}
use Rattle.mem_space.specs.Spaces.{Space, objects_in}

-- a load by what the code answered; it changes nothing
abbrev pub loaded : Result Word Fault → Objects → Access
loaded (Ok word) o = Answers (Gives word) o
loaded (Err fault) o = Breaks fault

-- An access gives this answer; the space shows the memory that it leaves, and counts the objects that the task has made.
pub record Answered (s : Space) (task : ℕ) (answer : Answer) (access : Access) : Type 0 where
  pub memory : Memory
  pub gives : access ≡ Answers answer (objects_in s memory task)
  pub shows : Shows s.heap memory

-- What was done is the access of every memory that the space showed: it has the same answer, and leaves what the space
-- shows now. Or it has the same fault, and the space is as it was.
abbrev pub Comes : Space → Space → ℕ → (Objects → Access) → Result Answer Fault → Type 0
Comes old new task access (Ok answer) = (m : Memory) → Shows old.heap m → Answered new task answer (access (objects_in old m task))
Comes old new task access (Err fault) = ((m : Memory) → Shows old.heap m → access (objects_in old m task) ≡ Breaks fault) × (new ≡ old)

-- what a call that tells nothing was answered
abbrev pub done : {T : Type 0} → Result T Fault → Result Answer Fault
done (Ok nothing) = Ok Done
done (Err fault) = Err fault

-- what a call that gives a word was answered
abbrev pub given : Result Word Fault → Result Answer Fault
given (Ok word) = Ok (Gives word)
given (Err fault) = Err fault
