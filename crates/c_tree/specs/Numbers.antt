-- Numbers of the language: an int has 32 bits and a long 64, in two's complement.
use Rattle.std.specs.Prelude.{ℕ, ℤ, pos, negsuc, Bool, nat_lt}
use Rattle.std.specs.Int.{int_wrap, w32, w64}
use Rattle.std.specs.Int as std
use Rattle.mpc_values.specs.declared.values.Word.{Word}
use Rattle.mpc_values.specs.declared.values.Word.TheVariants.{Undef, Int, Null, Ptr, Comm, Req}
use Rattle.c_tree.specs.declared.program.Width.{Width}
use Rattle.c_tree.specs.declared.program.Width.TheVariants as width

-- the width of a type of numbers, as the library names it
abbrev pub std_width : Width → std.Width
std_width width.Int = w32
std_width width.Long = w64

-- how many bits a type of numbers has
abbrev pub bits_of : Width → ℕ
bits_of width.Int = 32
bits_of width.Long = 64

-- the greatest number of a type and 1, which is as far below 0 as its least number
abbrev pub bound_of : Width → ℕ
bound_of width.Int = 2147483648
bound_of width.Long = 9223372036854775808

-- whether a number is one of a type; `negsuc n` is the number -(n + 1)
abbrev pub is_within : Width → ℤ → Bool
is_within w (pos n) = nat_lt n (bound_of w)
is_within w (negsuc n) = nat_lt n (bound_of w)

-- a number that becomes one of a type: it wraps
abbrev pub wrapped : Width → ℤ → ℤ
wrapped w z = int_wrap (std_width w) z

-- a word read where a number of a type is due: a number wraps, and a word of another kind is 0
abbrev pub number_of : Width → Word → ℤ
number_of w (Int z) = wrapped w z
number_of w Undef = pos 0
number_of w Null = pos 0
number_of w (Ptr obj at) = pos 0
number_of w (Comm comm) = pos 0
number_of w (Req req) = pos 0
