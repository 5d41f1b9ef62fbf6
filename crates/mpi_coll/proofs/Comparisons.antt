-- Tests of numbers, and two tests together.
use Rattle.std.proofs.Common.{◌≡◌, ◌≢◌, ℕ, ◌<◌, ◌≤◌, Bool, true, false, ◌==◌, ◌&&◌, not, refl, sym, ◌∙◌, arith}
use Rattle.std.specs.Prelude.{nat_lt}
use Rattle.std.proofs.lemmas.Bool.{false≢true}
use Rattle.std.proofs.lemmas.Bool.Decides.{nat_tests}

pub lt_yes : (m n : ℕ) → m < n → nat_lt m n ≡ true
lt_yes m n h = grind (arith, nat_tests)

pub lt_no : (m n : ℕ) → n ≤ m → nat_lt m n ≡ false
lt_no m n h = grind (arith, nat_tests)

pub lt_from : (m n : ℕ) → nat_lt m n ≡ true → m < n
lt_from m n h = grind (arith, nat_tests)

pub ge_from : (m n : ℕ) → nat_lt m n ≡ false → n ≤ m
ge_from m n h = grind (arith, nat_tests)

pub eq_yes : (m n : ℕ) → m ≡ n → (m == n) ≡ true
eq_yes m n h = grind (arith, nat_tests)

pub eq_no : (m n : ℕ) → m ≢ n → (m == n) ≡ false
eq_no m n h = grind (arith, nat_tests)

pub eq_from : (m n : ℕ) → (m == n) ≡ true → m ≡ n
eq_from m n h = grind (arith, nat_tests)

pub ne_from : (m n : ℕ) → (m == n) ≡ false → m ≢ n
ne_from m n h e = false≢true (sym h ∙ eq_yes m n e)

pub both_yes : (x y : Bool) → x ≡ true → y ≡ true → (x && y) ≡ true
both_yes x y p q = rw (p, q) refl

pub both_from : (x y : Bool) → (x && y) ≡ true → (x ≡ true) × (y ≡ true)
both_from true y h = (refl, h)
both_from false y h = absurd (false≢true h)

pub no_left : (x y : Bool) → x ≡ false → (x && y) ≡ false
no_left x y p = rw p refl

pub no_right : (x y : Bool) → y ≡ false → (x && y) ≡ false
no_right true y p = p
no_right false y p = refl

-- the second test fails where the first passes
pub no_second : (x y : Bool) → (x ≡ true → y ≡ false) → (x && y) ≡ false
no_second true y h = h refl
no_second false y h = refl

pub not_from : (b : Bool) → not b ≡ true → b ≡ false
not_from true h = absurd (false≢true h)
not_from false h = refl
