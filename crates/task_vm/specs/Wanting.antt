-- What a task wants.
use Rattle.std.specs.Prelude.{Bool, List}
use Rattle.mpc_values.specs.declared.answers.Answer.{Answer}
use Rattle.c_tree.specs.Asking as asking
use Rattle.c_code.specs.FlatCode.{FlatCode}
use Rattle.c_code.specs.Machine.{Mach}
use Rattle.c_code.specs.Demands.{Demands}
use Rattle.c_code.specs.Following.{AsksNow}
use Rattle.task_vm.specs.Tasks.{Tasked, IsAsking, ends_task}
use Rattle.task_vm.specs.declared.states.Want.{Want}
use Rattle.task_vm.specs.declared.states.Want.TheVariants.{Ask}

-- the machine asks this now
abbrev pub WantsNow : FlatCode → Mach → Want → Type 0
WantsNow code m (Ask call line) = AsksNow code m call line

-- the task asks this
abbrev pub IsWanting : Tasked → Want → Type 0
IsWanting task (Ask call line) = IsAsking task call line

-- behind these answers the code demands this
abbrev pub DemandsWant : FlatCode → List Answer → Want → Type 0
DemandsWant code given (Ask call line) = Demands code given (asking.Asks call line)

-- whether nothing is asked behind the answer
abbrev pub ends_of : Want → Bool
ends_of (Ask call line) = ends_task call
