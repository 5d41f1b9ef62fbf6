-- The code of a program, as definitions and contracts see it.
use Rattle.std.specs.Prelude.{ℕ, List}
use Rattle.c_code.specs.declared.instr.Instr.{Instr}
use Rattle.c_code.specs.declared.code.Entry.{Entry}

-- The instructions, where each function's begin, the number of main, and how many parameters main has.
pub record FlatCode : Type 0 where
  pub instrs : List Instr
  pub entries : List Entry
  pub main : ℕ
  pub arguments : ℕ

abbrev pub flat : List Instr → List Entry → ℕ → ℕ → FlatCode
flat instrs entries main arguments = record { instrs = instrs; entries = entries; main = main; arguments = arguments }
