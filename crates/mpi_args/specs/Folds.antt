-- What the predefined operations of reductions make of two numbers (MPI 3.1, section 5.9.2).
use Rattle.std.specs.Prelude.{ℤ, pos, ◌+ℤ◌, Bool, ◌&&◌, ◌||◌, not, if◌then◌else◌, ◌*ℤ◌}
use Rattle.std.specs.Int.{Width, w32, w64, int_max, int_min, int_wrap, int_bit_and, int_bit_or, int_bit_xor}
use Rattle.std.specs.Ordering.{int_eq}
use Rattle.mpc_values.specs.declared.values.Op.{Op}
use Rattle.mpc_values.specs.declared.values.Op.TheVariants.{Max, Min, Sum, Prod, Land, Band, Lor, Bor, Lxor, Bxor}
use Rattle.mpc_values.specs.declared.values.Datatype.{Datatype}
use Rattle.mpc_values.specs.declared.values.Datatype.TheVariants.{Int, Long}

-- an int has 32 bits, a long 64
abbrev pub width_of : Datatype → Width
width_of Int = w32
width_of Long = w64

-- C's truth of a number
abbrev pub is_nonzero : ℤ → Bool
is_nonzero z = not (int_eq z (pos 0))

-- what a logical operation gives
abbrev pub number_of : Bool → ℤ
number_of b = if b then pos 1 else pos 0

-- the numbers differ in truth
abbrev pub differs : Bool → Bool → Bool
differs a b = if a then not b else b

-- The sum and the product are wrapped in two's complement of the datatype. The other operations do not look at
-- it: they are those of 64 bits.
abbrev pub fold_of : Op → Datatype → ℤ → ℤ → ℤ
fold_of Max kind a b = int_max a b
fold_of Min kind a b = int_min a b
fold_of Sum kind a b = int_wrap (width_of kind) (a +ℤ b)
fold_of Prod kind a b = int_wrap (width_of kind) (a *ℤ b)
fold_of Land kind a b = number_of (is_nonzero a && is_nonzero b)
fold_of Band kind a b = int_bit_and w64 a b
fold_of Lor kind a b = number_of (is_nonzero a || is_nonzero b)
fold_of Bor kind a b = int_bit_or w64 a b
fold_of Lxor kind a b = number_of (differs (is_nonzero a) (is_nonzero b))
fold_of Bxor kind a b = int_bit_xor w64 a b
