-- Counts of a list that falls: those above a number stand in front.
use Rattle.std.proofs.Common.{◌≡◌, ◌≢◌, ℕ, ◌+◌, ◌≤◌, ◌<◌, Bool, true, false, cond, ◌==◌, ltb, List, [], ◌∷◌, length, get_or, arith, refl, sym, ap, ◌∙◌, subst, inl, inr, zero, suc, ltb-true, ltb-false}
use Rattle.std.specs.List.{count_by, prefix_len, AllWithin}
use Rattle.std.specs.List.Sorted.{IsPartitionedBy, IsPartitionPoint}
use Rattle.std.proofs.lemmas.Bool.{cases_eq, cases_order, le-ltb, lt-ltb, cond-true, cond-false}
use Rattle.std.proofs.lemmas.Bool.Decides.{nat_tests}
use Rattle.std.proofs.lemmas.List.{get_or_default, get_or-set_same, get_or-set_other, length-set}
use Rattle.std.proofs.lemmas.List.Sums.{sum_by-cons, sum_by-set, sum_by-le-sum_by, prefix_len_passes, prefix_len_stops, prefix_len-le-length}
use Rattle.hls_sync.specs.Turnouts.{reached, once_more, advanced, IsFalling}

-- one where a test passes, as counts add up
abbrev pub one_if : Bool → ℕ
one_if b = cond b 1 0

-- what passes stands in front, and nothing else does
pub count_split : {X : Type 0} (p : X → Bool) (xs : List X) (i : ℕ) → i ≤ length xs
    → AllWithin (λ x. p x ≡ true) xs 0 i → AllWithin (λ x. p x ≡ false) xs i (length xs) → count_by p xs ≡ i
count_split p [] i h front back = omega arith
count_split p (x ∷ xs) zero h front back =
    let here : one_if (p x) ≡ 0 = cond-false (p x) 1 0 (back 0 x (omega arith) (omega arith)) in
    let rest : count_by p xs ≡ 0 = count_split p xs zero (omega arith) (λ k d a b. absurd (omega arith)) (λ k d a b. back (suc k) d (omega arith) (omega arith)) in
    sum_by-cons (λ y. one_if (p y)) x xs ∙ omega (arith, here, rest)
count_split p (x ∷ xs) (suc i) h front back =
    let here : one_if (p x) ≡ 1 = cond-true (p x) 1 0 (front 0 x (omega arith) (omega arith)) in
    let rest : count_by p xs ≡ i = count_split p xs i (omega arith) (λ k d a b. front (suc k) d (omega arith) (omega arith)) (λ k d a b. back (suc k) d (omega arith) (omega arith)) in
    sum_by-cons (λ y. one_if (p y)) x xs ∙ omega (arith, here, rest)

one_le : (a b : Bool) → (a ≡ true → b ≡ true) → one_if a ≤ one_if b
one_le false b w = omega arith
one_le true b w = let e : one_if b ≡ 1 = cond-true b 1 0 (w refl) in omega (arith, e)

-- where each that passes one test passes another, and one passes the other alone
pub count_less : {X : Type 0} (p q : X → Bool) (xs : List X) (k : ℕ) (d : X) → k < length xs
    → ((x : X) → p x ≡ true → q x ≡ true) → p (get_or xs k d) ≡ false → q (get_or xs k d) ≡ true → count_by p xs + 1 ≤ count_by q xs
count_less p q [] k d h weaker misses passes = absurd (omega arith)
count_less p q (x ∷ xs) zero d h weaker misses passes =
    let here : one_if (p x) ≡ 0 = cond-false (p x) 1 0 misses in
    let there : one_if (q x) ≡ 1 = cond-true (q x) 1 0 passes in
    omega (arith, here, there, sum_by-cons (λ y. one_if (p y)) x xs, sum_by-cons (λ y. one_if (q y)) x xs, sum_by-le-sum_by (λ y. one_if (p y)) (λ y. one_if (q y)) xs (λ y. one_le (p y) (q y) (weaker y)))
count_less p q (x ∷ xs) (suc k) d h weaker misses passes =
    omega (arith, one_le (p x) (q x) (weaker x), count_less p q xs k d (omega arith) weaker misses passes, sum_by-cons (λ y. one_if (p y)) x xs, sum_by-cons (λ y. one_if (q y)) x xs)

-- a list that falls is parted at each number
pub falling_parted : (counts : List ℕ) → IsFalling counts → (m : ℕ) → IsPartitionedBy (λ c. ltb m c) counts
falling_parted counts f m i j d order within passes =
    let at_j : m < get_or counts j d = ltb-true m (get_or counts j d) passes in
    let falls : get_or counts j 0 ≤ get_or counts i 0 = f.falls i j order within in
    lt-ltb m (get_or counts i d) (omega (arith, get_or_default counts j d 0 within, get_or_default counts i d 0 (omega arith)))

pub reached_at_point : (counts : List ℕ) (m i : ℕ) → i ≤ length counts → IsPartitionPoint (λ c. ltb m c ≡ true) (λ c. ltb m c ≡ false) counts i → reached counts m ≡ i
reached_at_point counts m i h point = count_split (λ c. ltb m c) counts i h point.0 point.1

reached_prefix : (counts : List ℕ) → IsFalling counts → (m : ℕ) → reached counts m ≡ prefix_len (λ c. ltb m c) counts
reached_prefix counts f m =
    count_split (λ c. ltb m c) counts (prefix_len (λ c. ltb m c) counts) (prefix_len-le-length (λ c. ltb m c) counts)
    (λ k d a b. prefix_len_passes (λ c. ltb m c) counts k d b)
    (λ k d a b.
    let stops : get_or counts (prefix_len (λ c. ltb m c) counts) d ≤ m = ltb-false m _ (prefix_len_stops (λ c. ltb m c) counts d (omega arith)) in
    let falls : get_or counts k 0 ≤ get_or counts (prefix_len (λ c. ltb m c) counts) 0 = f.falls (prefix_len (λ c. ltb m c) counts) k a b in
    le-ltb m (get_or counts k d) (omega (arith, get_or_default counts k d 0 b, get_or_default counts (prefix_len (λ c. ltb m c) counts) d 0 (omega arith))))

-- the counts in front are above the number
pub reached_above : (counts : List ℕ) → IsFalling counts → (m i : ℕ) → i < reached counts m → m < get_or counts i 0
reached_above counts f m i h = ltb-true m (get_or counts i 0) (prefix_len_passes (λ c. ltb m c) counts i 0 (omega (arith, reached_prefix counts f m)))

-- and the others are not
pub reached_below : (counts : List ℕ) → IsFalling counts → (m i : ℕ) → reached counts m ≤ i → i < length counts → get_or counts i 0 ≤ m
reached_below counts f m i h within =
    let e = reached_prefix counts f m in
    let stops : get_or counts (prefix_len (λ c. ltb m c) counts) 0 ≤ m = ltb-false m _ (prefix_len_stops (λ c. ltb m c) counts 0 (omega (arith, e))) in
    let falls : get_or counts i 0 ≤ get_or counts (prefix_len (λ c. ltb m c) counts) 0 = f.falls (prefix_len (λ c. ltb m c) counts) i (omega (arith, e)) within in
    omega arith

pub one_more : (m came : ℕ) → one_if (ltb m (came + 1)) ≡ one_if (ltb m came) + one_if (m == came)
one_more m came = elim (cases_order m came) [
  | inl same ↦ grind (arith, nat_tests)
  | inr (inl below) ↦ grind (arith, nat_tests)
  | inr (inr above) ↦ grind (arith, nat_tests)
]

-- the counts of a task that comes once more
pub reached_changed : (counts : List ℕ) (came : ℕ) → reached counts came < length counts → get_or counts (reached counts came) 0 ≡ came
    → (m : ℕ) → reached (advanced counts came) m + one_if (ltb m came) ≡ reached counts m + one_if (ltb m (once_more came))
reached_changed counts came there one m =
    let changed = sum_by-set (λ c. one_if (ltb m c)) counts (reached counts came) (once_more came) 0 there in
    let old : one_if (ltb m (get_or counts (reached counts came) 0)) ≡ one_if (ltb m came) = ap (λ c. one_if (ltb m c)) one in
    omega (arith, changed, old)

-- it is one more at its meeting
pub reached_advanced : (counts : List ℕ) (came : ℕ) → once_more came ≡ came + 1 → reached counts came < length counts → get_or counts (reached counts came) 0 ≡ came
    → (m : ℕ) → reached (advanced counts came) m ≡ reached counts m + one_if (m == came)
reached_advanced counts came few there one m =
    let changed = reached_changed counts came there one m in
    let more : one_if (ltb m (once_more came)) ≡ one_if (ltb m (came + 1)) = ap (λ c. one_if (ltb m c)) few in
    omega (arith, changed, more, one_more m came)

pub falling_advanced : (counts : List ℕ) (came : ℕ) → came < 4294967296 → IsFalling counts → reached counts came < length counts → get_or counts (reached counts came) 0 ≡ came
    → IsFalling (advanced counts came)
falling_advanced counts came fits f there one = record { falls = falls }
  where
    kept : (j : ℕ) → j ≢ reached counts came → get_or (advanced counts came) j 0 ≡ get_or counts j 0
    kept j other = get_or-set_other counts (reached counts came) j (once_more came) 0 other

    here : get_or (advanced counts came) (reached counts came) 0 ≡ once_more came
    here = get_or-set_same counts (reached counts came) (once_more came) 0 there

    falls : (i j : ℕ) → i ≤ j → j < length (advanced counts came) → get_or (advanced counts came) j 0 ≤ get_or (advanced counts came) i 0
    falls i j order within =
        let inside : j < length counts = omega (arith, length-set counts (reached counts came) (once_more came)) in
        let old : get_or counts j 0 ≤ get_or counts i 0 = f.falls i j order inside in
        elim (cases_eq i (reached counts came)) [
          | inl i_is ↦ elim (cases_eq j (reached counts came)) [
            | inl j_is ↦ subst (λ n. get_or (advanced counts came) j 0 ≤ get_or (advanced counts came) n 0) (j_is ∙ sym i_is) (omega arith)
            | inr j_not ↦
                let at_i : get_or (advanced counts came) i 0 ≡ once_more came = ap (λ n. get_or (advanced counts came) n 0) i_is ∙ here in
                let was : get_or counts i 0 ≡ came = ap (λ n. get_or counts n 0) i_is ∙ one in
                omega (arith, kept j j_not, at_i, was, old)
          ]
          | inr i_not ↦ elim (cases_eq j (reached counts came)) [
            | inl j_is ↦
                let at_j : get_or (advanced counts came) j 0 ≡ once_more came = ap (λ n. get_or (advanced counts came) n 0) j_is ∙ here in
                omega (arith, at_j, kept i i_not, reached_above counts f came i (omega arith))
            | inr j_not ↦ omega (arith, kept i i_not, kept j j_not)
          ]
        ]
