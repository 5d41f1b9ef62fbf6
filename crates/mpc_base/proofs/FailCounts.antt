-- How the count of failed calls grows by a call.
use Rattle.std.proofs.Common.{◌≡◌, ℕ, ◌+◌, ◌-◌, ◌^◌, ◌≤◌, ◌<◌, Bool, true, false, cond, ◌&&◌, ◌||◌, List, [], ◌∷◌, nat_lt, nat_eq, min, refl, sym, arith, count_by}
use Rattle.std.proofs.lemmas.Bool.Decides.{nat_tests}
use Rattle.std.proofs.lemmas.List.Sums.{sum_by-cons}
use Rattle.std.specs.List.{list_any}
use Rattle.std.specs.Bool.{OnTrue, OnFalse}
use Rattle.mpc_base.specs.FailLists.{FailsAt, fails_now, counted, failed_so_far}

below-more : (k x : ℕ) → cond (nat_lt x (k + 1)) 1 0 ≡ cond (nat_lt x k) 1 0 + cond (nat_eq x k) 1 0
below-more k x = grind (arith, nat_tests)

-- the numbers below k + 1 are those below k, and k
count_below-more : (k : ℕ) (xs : List ℕ) → count_by (λ x. nat_lt x (k + 1)) xs ≡ count_by (λ x. nat_lt x k) xs + count_by (λ x. nat_eq x k) xs
count_below-more k [] = refl
count_below-more k (x ∷ xs) =
    omega (arith, count_below-more k xs, below-more k x, sum_by-cons (λ x. cond (nat_lt x (k + 1)) 1 0) x xs, sum_by-cons (λ x. cond (nat_lt x k) 1 0) x xs, sum_by-cons (λ x. cond (nat_eq x k) 1 0) x xs)

count_listed : (k : ℕ) (xs : List ℕ) → list_any (λ x. nat_eq x k) xs ≡ true → 1 ≤ count_by (λ x. nat_eq x k) xs
count_listed k [] h = absurd (cc h)
count_listed k (x ∷ xs) h =
    rw (sum_by-cons (λ x. cond (nat_eq x k) 1 0) x xs) (elim (nat_eq x k) as (λ b. b || list_any (λ x. nat_eq x k) xs ≡ true → 1 ≤ cond b 1 0 + count_by (λ x. nat_eq x k) xs) [
      | true ↦ λ _. omega arith
      | false ↦ λ rest. omega (arith, count_listed k xs rest)
    ] h)

count_unlisted : (k : ℕ) (xs : List ℕ) → list_any (λ x. nat_eq x k) xs ≡ false → count_by (λ x. nat_eq x k) xs ≡ 0
count_unlisted k [] h = refl
count_unlisted k (x ∷ xs) h =
    rw (sum_by-cons (λ x. cond (nat_eq x k) 1 0) x xs) (elim (nat_eq x k) as (λ b. b || list_any (λ x. nat_eq x k) xs ≡ false → cond b 1 0 + count_by (λ x. nat_eq x k) xs ≡ 0) [
      | true ↦ λ no. absurd (cc no)
      | false ↦ λ rest. omega (arith, count_unlisted k xs rest)
    ] h)

next_below : (calls : ℕ) → nat_lt calls (2 ^ 64 - 1) ≡ true → min (calls + 1) (2 ^ 64 - 1) ≡ calls + 1
next_below calls h = grind (arith, nat_tests)

next_at_end : (calls : ℕ) → calls ≤ 2 ^ 64 - 1 → nat_lt calls (2 ^ 64 - 1) ≡ false → min (calls + 1) (2 ^ 64 - 1) ≡ calls
next_at_end calls small h = grind (arith, nat_tests)

-- a call that fails raises the count
risen : (f : FailsAt) → fails_now f ≡ true → failed_so_far f < failed_so_far (counted f)
risen f h =
    elim (nat_lt f.calls (2 ^ 64 - 1)) as (λ b. nat_lt f.calls (2 ^ 64 - 1) ≡ b → b && list_any (λ k. nat_eq k f.calls) f.listed ≡ true → failed_so_far f < failed_so_far (counted f)) [
      | true ↦ λ below listed.
          rw (next_below f.calls below) (omega (arith, count_below-more f.calls f.listed, count_listed f.calls f.listed listed))
      | false ↦ λ below no. absurd (cc no)
    ] refl h

-- any other call leaves it
still : (f : FailsAt) → f.calls ≤ 2 ^ 64 - 1 → fails_now f ≡ false → failed_so_far (counted f) ≡ failed_so_far f
still f small h =
    elim (nat_lt f.calls (2 ^ 64 - 1)) as (λ b. nat_lt f.calls (2 ^ 64 - 1) ≡ b → b && list_any (λ k. nat_eq k f.calls) f.listed ≡ false → failed_so_far (counted f) ≡ failed_so_far f) [
      | true ↦ λ below unlisted.
          rw (next_below f.calls below) (omega (arith, count_below-more f.calls f.listed, count_unlisted f.calls f.listed unlisted))
      | false ↦ λ past _. rw (next_at_end f.calls small past) refl
    ] refl h

pub risen_on : (b : Bool) (f : FailsAt) (next : ℕ) → next ≡ min (f.calls + 1) (2 ^ 64 - 1) → b ≡ fails_now f → OnTrue b (failed_so_far f < failed_so_far (record f { calls = next }))
risen_on true f next is h = rw is (risen f (sym h))
risen_on false f next is h = tt

pub still_on : (b : Bool) (f : FailsAt) (next : ℕ) → next ≡ min (f.calls + 1) (2 ^ 64 - 1) → f.calls ≤ 2 ^ 64 - 1 → b ≡ fails_now f → OnFalse b (failed_so_far (record f { calls = next }) ≡ failed_so_far f)
still_on true f next is small h = tt
still_on false f next is small h = rw is (still f small (sym h))
