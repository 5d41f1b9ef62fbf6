-- What the node's functions answer, as the words of the model.
use Rattle.std.specs.Prelude.{ℕ, ℤ, List, Result, Ok, Err, Option}
use Rattle.mpc_values.specs.declared.owners.Owner.TheVariants.{Task}
use Rattle.mpc_values.specs.declared.answers.Answer.{Answer}
use Rattle.mpc_values.specs.declared.faults.Fault.{Fault}
use Rattle.serial_memory.specs.Access.{Range, Places, NoPlaces, Objects, Access, Answers, Breaks}
use Rattle.serial_model.specs.World.{TaskState}
use Rattle.serial_model.specs.Go.{Act, Does, Fails}
use Rattle.serial_node.specs.declared.ranges.Span.{Span}

-- the range that was found
abbrev pub range_seen : Result Span Fault → Range
range_seen (Ok span) = Places (Task 0) span.obj span.at span.object.now
range_seen (Err fault) = NoPlaces fault

-- what an access did, with the objects that stand then
abbrev pub access_seen : Objects → Result Answer Fault → Access
access_seen objects (Ok answer) = Answers answer objects
access_seen objects (Err fault) = Breaks fault

abbrev pub task_seen : ℕ → List ℕ → Option ℤ → TaskState
task_seen made output exit = record { made = made; output = output; exit = exit }

-- what a call did, with what stands then
abbrev pub act_seen : Objects → List ℕ → Option ℤ → Result Answer Fault → Act
act_seen objects output exit (Ok answer) = Does answer objects.memory (task_seen objects.made output exit)
act_seen objects output exit (Err fault) = Fails fault
