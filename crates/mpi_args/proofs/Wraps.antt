-- A number wrapped to 32 bits, by its remainder modulo 2^32.
use Rattle.std.proofs.Common.{◌≡◌, ℤ, pos, ap}
use Rattle.std.specs.Int.{w32, cast_signed, int_wrap, int_rem_euclid}
use Rattle.std.specs.Int.RustNames.{unsigned_abs}

pub wrapped_by : (z r : ℤ) → r ≡ int_rem_euclid z (pos 4294967296) → cast_signed w32 (unsigned_abs r) ≡ int_wrap w32 z
unfolding int_wrap
wrapped_by z r e = ap (λ x. cast_signed w32 (unsigned_abs x)) e
