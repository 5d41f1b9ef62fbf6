-- What a task asks next, behind a list of answers.
use Rattle.std.specs.Prelude.{ℕ, zero, suc, ◌-◌, ℤ, pos, List, [], ◌∷◌, Option, Some, None, slice_get, Bool}
use Rattle.mpc_values.specs.declared.limits.TheConstants.{MAX_DEPTH, MAX_TURNS}
use Rattle.mpc_values.specs.declared.values.Word.{Word}
use Rattle.mpc_values.specs.declared.values.Word.TheVariants.{Int, Null}
use Rattle.mpc_values.specs.declared.calls.Call.TheVariants as call
use Rattle.mpc_values.specs.declared.faults.Fault.TheVariants.{Depth}
use Rattle.mpc_values.specs.declared.answers.Answer.{Answer}
use Rattle.c_tree.specs.declared.program.Width.TheVariants as width
use Rattle.c_tree.specs.Programs.{Function, Program}
use Rattle.c_tree.specs.Numbers.{number_of}
use Rattle.c_tree.specs.Asking.{Next, State, ◌>>=◌, ask, fault, tick}
use Rattle.c_tree.specs.Scripts.{over}
use Rattle.c_tree.specs.Evaluation.{Calls}
use Rattle.c_tree.specs.Execution.{Exit, Normal, Broken, Continued, Returned, called, exit_of}

-- calls of functions that may go so many deep; where a call meets both limits, that of the turns comes first
abbrev pub calls_of : List Function → ℕ → Calls
calls_of functions zero number arguments line = do
  _ ← tick line
  fault Depth line
calls_of functions (suc depth) number arguments line = called (calls_of functions depth) (slice_get functions number) arguments line

-- the arguments of main: argc is 1, and argv has no value that a program reads
abbrev pub arguments_of_main : List Bool → List Word
arguments_of_main [] = []
arguments_of_main (count ∷ more) = Int (pos 1) ∷ Null ∷ []

-- the end of main at a line, with its exit code
abbrev pub finish : ℕ → ℤ → State → Next
finish line code s = ask (call.Finish code) line (λ answer s'. over s'.answers) s

abbrev pub finish_main : Function → Exit → State → Next
finish_main main Normal s = finish main.end_line (pos 0) s
finish_main main (Broken line) s = finish main.end_line (pos 0) s
finish_main main (Continued line) s = finish main.end_line (pos 0) s
finish_main main (Returned line value) s = finish line (number_of width.Int value) s

-- What a task asks whose main is a function, behind these answers, with so many turns and calls so deep at the most.
abbrev pub next_in : List Function → Option Function → ℕ → ℕ → List Answer → Next
next_in functions None depth turns answers = over answers
next_in functions (Some main) depth turns answers =
    exit_of (calls_of functions depth) main (arguments_of_main main.params) 0 (finish_main main) (record { slots = []; turns = turns; answers = answers })

-- What a task that runs a program asks next, after these answers. Main is at depth 1, so the calls that may be open in it are
-- one less than the depth that is allowed.
abbrev pub next_of : Program → List Answer → Next
next_of program answers = next_in program.functions (slice_get program.functions program.main) (MAX_DEPTH - 1) MAX_TURNS answers
