-- The code of a program, and what makes code right for a program.
use Rattle.std.specs.Prelude.{◌<◌, List, length, slice_get}
use Rattle.mpc_values.specs.declared.answers.Answer.{Answer}
use Rattle.c_tree.specs.Programs.{Program}
use Rattle.c_tree.specs.Next.{next_of}
use Rattle.c_code.specs.FlatCode.{FlatCode}
use Rattle.c_code.specs.Demands.{Demands}
use Rattle.c_compile.specs.Compiled.{functions_code, entries_from, params_of}

-- the code of a program
abbrev pub compiled : Program → FlatCode
compiled program = record {
  instrs = functions_code program.functions;
  entries = entries_from 0 program.functions;
  main = program.main;
  arguments = params_of (slice_get program.functions program.main);
}

-- Behind every list of answers, the code demands what the program asks.
abbrev pub Behaves : FlatCode → Program → Type 0
Behaves code program = (answers : List Answer) → Demands code answers (next_of program answers)

-- main is one of the program's functions
abbrev pub HasMain : Program → Type 0
HasMain program = program.main < length program.functions
