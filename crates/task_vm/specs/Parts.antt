-- The parts of a script.
use Rattle.std.specs.Prelude.{ℕ, ◌+◌, ◌<◌, ◌^◌, List}
use Rattle.c_tree.specs.declared.mpi.MpiFunction.{MpiFunction}
use Rattle.c_tree.specs.declared.scripts.ScriptStep.{ScriptStep}
use Rattle.c_tree.specs.MpiScripts.{steps_of, each_of, last_of}
use Rattle.c_code.specs.Machine as machine
use Rattle.task_vm.specs.declared.scripts.Phase.{Phase}
use Rattle.task_vm.specs.declared.scripts.Phase.TheVariants.{First, Requests, Last}

abbrev pub phase_of : Phase → machine.Phase
phase_of First = machine.First
phase_of (Requests left) = machine.Requests left
phase_of Last = machine.Last

-- the steps of a part
abbrev pub part_of : MpiFunction → Phase → List ScriptStep
part_of function First = steps_of function
part_of function (Requests left) = each_of function
part_of function Last = last_of function

-- the requests up to the last one have numbers of 32 bits
abbrev pub IsIndexed : Phase → ℕ → Type 0
IsIndexed First index = Unit {0}
IsIndexed (Requests left) index = index + left < 2 ^ 32
IsIndexed Last index = Unit {0}
