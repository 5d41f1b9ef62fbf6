-- Which bytes a class has.
use Rattle.std.specs.Prelude.{ℕ, Bool}
use Rattle.c_lex.specs.declared.bytes.Class.{Class}
use Rattle.c_lex.specs.declared.bytes.Class.TheVariants.{NameByte, Gap, LineByte}
use Rattle.c_lex.specs.Bytes.{is_gap, is_name_byte, is_line_byte}

abbrev pub passes : Class → ℕ → Bool
passes NameByte c = is_name_byte c
passes Gap c = is_gap c
passes LineByte c = is_line_byte c
