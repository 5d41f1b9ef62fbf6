-- The code that a test runs: it loads an int, and ends with whether it holds.
use Rattle.std.specs.Prelude.{List, [], ◌∷◌}
use Rattle.mpc_values.specs.declared.values.Word.{Word}
use Rattle.mpc_values.specs.declared.values.Word.TheVariants.{Ptr}
use Rattle.mpc_values.specs.declared.values.Obj.TheVariants.{Glob}
use Rattle.c_tree.specs.declared.program.Scalar.TheVariants.{Number}
use Rattle.c_tree.specs.declared.program.Width.TheVariants as width
use Rattle.c_code.specs.declared.instr.Instr.{Instr}
use Rattle.c_code.specs.declared.instr.Instr.TheVariants.{Push, Load, Truth, Return}
use Rattle.c_code.specs.declared.code.Entry.{Entry}
use Rattle.c_code.specs.FlatCode.{FlatCode, flat}

abbrev pub place : Word
place = Ptr (Glob 0) 0

abbrev pub sample_instrs : List Instr
sample_instrs = Push place ∷ Load (Number width.Int) 4 ∷ Truth ∷ Return 5 ∷ []

abbrev pub sample_entry : Entry
sample_entry = record { start = 0; slots = 0 }

abbrev pub sample_code : FlatCode
sample_code = flat sample_instrs (sample_entry ∷ []) 0 0
