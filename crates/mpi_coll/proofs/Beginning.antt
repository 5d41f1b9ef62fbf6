-- The tables before the first arrival.
use Rattle.std.proofs.Common.{◌≡◌, ℕ, [], map, get_or, inl, inr, refl, sym, arith}
use Rattle.std.specs.Prelude.{nat_lt}
use Rattle.std.specs.List.{range_with_len}
use Rattle.std.proofs.lemmas.Bool.{cases_lt}
use Rattle.std.proofs.lemmas.List.{get_or_past}
use Rattle.std.proofs.lemmas.List.FromFn.{length-map-range_with_len, get_or-map-range_with_len}
use Rattle.mpi_coll.specs.Rooms.{begun, past, IsWhole}
use Rattle.mpi_coll.specs.Shown.{Shows}
use Rattle.mpi_coll.proofs.Comparisons.{lt_no}
use Rattle.mpi_coll.proofs.Lists.{counts_none}

pub alike : {X : Type 0} (x : X) (members rank : ℕ) → get_or (map (λ (r : ℕ). x) (range_with_len 0 members)) rank x ≡ x
alike x members rank = elim (cases_lt rank members) [
  | inl lt ↦ get_or-map-range_with_len (λ (r : ℕ). x) 0 members rank rank x lt (omega arith)
  | inr ge ↦ get_or_past (map (λ (r : ℕ). x) (range_with_len 0 members)) rank x (omega (arith, ge, length-map-range_with_len (λ (r : ℕ). x) 0 members))
]

pub whole-begun : (members : ℕ) → IsWhole (begun members)
whole-begun members = record {
  even = refl;
  low = λ rank h. omega arith;
  high = λ rank. omega (arith, alike {X = ℕ} 0 members rank);
  left = λ rank. omega (arith, alike {X = ℕ} 0 members rank);
  each = λ some. absurd (omega arith);
  behind = λ some.
      let none : past (map (λ rank. 0) (range_with_len 0 members)) 0 ≡ 0 =
      counts_none (λ n. nat_lt 0 n) (map (λ rank. 0) (range_with_len 0 members)) 0 (λ i h. lt_no 0 (get_or (map (λ rank. 0) (range_with_len 0 members)) i 0) (omega (arith, alike {X = ℕ} 0 members i))) in
      omega (arith, none, some);
  gathered = λ place g got. let nay : ⊥ = cc in absurd nay;
}

pub shows-begun : (numbers : ℕ → ℕ → ℕ) (members comm : ℕ) → Shows numbers (begun members) [] comm
shows-begun numbers members comm = record {
  turns = record {
    came = λ meeting rank. sym (lt_no meeting 0 (omega arith));
    latest = λ rank a got. let nay : ⊥ = cc in absurd nay;
    found = λ rank a got. let nay : ⊥ = cc in absurd nay;
    once = λ index a got own. let nay : ⊥ = cc in absurd nay;
  };
  made = λ rank. alike {X = ℕ} 0 members rank;
  held = λ place rank g a got came. let nay : ⊥ = cc in absurd nay;
  left = λ rank a got. let nay : ⊥ = cc in absurd nay;
  due = λ rank a h got full unleft. let nay : ⊥ = cc in absurd nay;
}
