-- What operations on numbers give, or their faults (C99, sections 6.5.3 and 6.5.5 to 6.5.12).
use Rattle.std.specs.Prelude.{ℤ, pos, ◌+ℤ◌, ◌-ℤ◌, ◌*ℤ◌, ◌^◌, Bool, not, ◌&&◌, if◌then◌else◌, neg_ℤ, int_le, int_lt, int_div, int_rem, unsigned_abs, Result, Ok, Err}
use Rattle.std.specs.Int.{int_bit_and, int_bit_or, int_bit_xor, int_bit_not, int_shr, w64}
use Rattle.std.specs.Ordering.{int_eq}
use Rattle.mpc_values.specs.declared.faults.Fault.{Fault}
use Rattle.mpc_values.specs.declared.faults.Fault.TheVariants as fault
use Rattle.c_tree.specs.declared.program.Width.{Width}
use Rattle.c_tree.specs.declared.program.Width.TheVariants.{Long}
use Rattle.c_tree.specs.declared.program.Operation.{Operation}
use Rattle.c_tree.specs.declared.program.Operation.TheVariants.{Add, Subtract, Multiply, Divide, Remainder, ShiftLeft, ShiftRight, BitAnd, BitXor, BitOr}
use Rattle.c_tree.specs.declared.program.Comparison.{Comparison}
use Rattle.c_tree.specs.declared.program.Comparison.TheVariants.{Less, Greater, LessEqual, GreaterEqual, Equal, NotEqual}
use Rattle.c_tree.specs.Numbers.{bits_of, is_within, std_width, wrapped}

-- a result, which has to be a number of the type
abbrev pub in_type : Width → ℤ → Result ℤ Fault
in_type w z = if is_within w z then Ok z else Err fault.Overflow

-- A quotient that cannot be had is Divide, where the divisor is 0, or Overflow. What the quotient leaves is asked
-- for where there is one.
abbrev pub divided : Width → ℤ → ℤ → ℤ → Result ℤ Fault
divided w x y given =
    if int_eq y (pos 0) then Err fault.Divide else (if is_within w (int_div x y) then Ok given else Err fault.Overflow)

-- a shift, whose count is from 0 to below the width
abbrev pub shifted : Width → ℤ → Result ℤ Fault → Result ℤ Fault
shifted w count given = if int_le (pos 0) count && int_lt count (pos (bits_of w)) then given else Err fault.Shift

-- What an operation of a type gives. `/` truncates, `%` has the sign of the left side, `<<` multiplies by a power of
-- two, and `>>` rounds down. The count of a shift may be a long.
abbrev pub computed : Width → Operation → ℤ → ℤ → Result ℤ Fault
computed w Add x y = in_type w (x +ℤ y)
computed w Subtract x y = in_type w (x -ℤ y)
computed w Multiply x y = in_type w (x *ℤ y)
computed w Divide x y = divided w x y (int_div x y)
computed w Remainder x y = divided w x y (int_rem x y)
computed w ShiftLeft x y = shifted w y (in_type w (x *ℤ pos (2 ^ unsigned_abs y)))
computed w ShiftRight x y = shifted w y (Ok (int_shr x (unsigned_abs y)))
computed w BitAnd x y = Ok (int_bit_and (std_width w) x y)
computed w BitXor x y = Ok (int_bit_xor (std_width w) x y)
computed w BitOr x y = Ok (int_bit_or (std_width w) x y)

-- the type of the right operand: that of the operation, but for a shift's count
abbrev pub right_width : Width → Operation → Width
right_width w ShiftLeft = Long
right_width w ShiftRight = Long
right_width w operation = w

-- the same of any two numbers: each becomes one of its operand's type first
abbrev pub operated : Width → Operation → ℤ → ℤ → Result ℤ Fault
operated w operation x y = computed w operation (wrapped w x) (wrapped (right_width w operation) y)

-- `-`
abbrev pub negated : Width → ℤ → Result ℤ Fault
negated w x = in_type w (neg_ℤ (wrapped w x))

-- `~`
abbrev pub complemented : ℤ → ℤ
complemented x = int_bit_not w64 x

-- a comparison of two numbers
abbrev pub compared : Comparison → ℤ → ℤ → Bool
compared Less x y = int_lt x y
compared Greater x y = int_lt y x
compared LessEqual x y = int_le x y
compared GreaterEqual x y = int_le y x
compared Equal x y = int_eq x y
compared NotEqual x y = not (int_eq x y)
