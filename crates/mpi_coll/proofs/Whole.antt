-- The tables stay whole in each step.
use Rattle.std.proofs.Common.{◌≡◌, ◌≢◌, ℕ, ◌+◌, ◌-◌, ◌<◌, ◌≤◌, false, List, [], ◌∷◌, ◌++◌, length, drop, get_or, set, inl, inr, ap, sym, ◌∙◌, subst, arith}
use Rattle.std.specs.Prelude.{Some, slice_get, nat_lt}
use Rattle.std.proofs.lemmas.Bool.{cases_eq, cases_lt}
use Rattle.std.proofs.lemmas.List.{length-set, length_push, length-drop, get_or-set_same, get_or-set_other, set_past}
use Rattle.std.proofs.lemmas.List.FromFn.{length-map-range_with_len}
use Rattle.std.proofs.lemmas.Option.{slice_get_within}
use Rattle.mpc_values.specs.declared.values.Word.{Word}
use Rattle.mpc_values.specs.declared.collectives.Coll.{Coll}
use Rattle.mpi_coll.specs.Rooms.{Gathered, Tables, size_in, past, fresh, come_to, IsWhole}
use Rattle.mpi_coll.proofs.Comparisons.{lt_yes, lt_no}
use Rattle.mpi_coll.proofs.Lists.{count_if, count_by-set, counts_none, counts_below, counts_below_two, slice_get-push_cases, slice_get-set_cases, slice_get-drop_1}

-- whether a member that had arrived m times, and then once more, is past n
past_yes : (n m : ℕ) → n < m → count_if (nat_lt n m) ≡ 1
past_yes n m h = ap count_if (lt_yes n m h)

past_no : (n m : ℕ) → m ≤ n → count_if (nat_lt n m) ≡ 0
past_no n m h = ap count_if (lt_no n m h)

abbrev empty : List Word
empty = []

module _ (made : List ℕ) (rank : ℕ) (within : rank < length made) where
  abbrev m : ℕ
  m = get_or made rank 0

  one_more : (n : ℕ) → past (set made rank (m + 1)) n + count_if (nat_lt n m) ≡ past made n + count_if (nat_lt n (m + 1))
  one_more n = count_by-set (λ k. nat_lt n k) made rank (m + 1) 0 within

  -- one more is past the meeting that the member comes to, and as many as before are past another
  pub past-own : past (set made rank (m + 1)) m ≡ past made m + 1
  past-own = omega (arith, one_more m, past_no m m (omega arith), past_yes m (m + 1) (omega arith))

  pub past-other : (n : ℕ) → n ≢ m → past (set made rank (m + 1)) n ≡ past made n
  past-other n nay = elim (cases_lt n m) [
    | inl lt ↦ omega (arith, one_more n, past_yes n m lt, past_yes n (m + 1) (omega arith))
    | inr ge ↦ omega (arith, one_more n, past_no n m ge, past_no n (m + 1) (let g : m ≤ n = ge in omega (arith, nay)))
  ]

module _ (t : Tables) (whole : IsWhole t) where
  -- one meeting more waits, which nobody has come to
  pub whole-opened : (coll : Coll) → IsWhole (record t { waiting = t.waiting ++ fresh (size_in t) coll ∷ [] })
  whole-opened coll = record {
    even = whole.even;
    low = whole.low;
    high = λ rank. omega (arith, whole.high rank, length_push t.waiting (fresh (size_in t) coll));
    left = whole.left;
    each = whole.each;
    behind = whole.behind;
    gathered = λ place g got. elim (slice_get-push_cases t.waiting (fresh (size_in t) coll) g place got) [
      | inl old ↦ let h = whole.gathered place g old in record { asked = h.asked; given = h.given; counted = h.counted }
      | inr new ↦ record {
        asked = ap (λ (g : Gathered). length g.asked) new.1 ∙ length-map-range_with_len (λ rank. coll) 0 (size_in t);
        given = ap (λ (g : Gathered). length g.given) new.1 ∙ length-map-range_with_len (λ (rank : ℕ). empty) 0 (size_in t);
        counted = ap (λ (g : Gathered). g.arrived) new.1 ∙ sym (counts_none (λ n. nat_lt (t.full + place) n) t.made 0 (λ i h.
            let e = whole.high i in let p = new.0 in
            lt_no (t.full + place) (get_or t.made i 0) (omega arith)));
      }
    ];
  }

  -- what a member asks and gives is written down
  pub whole-put : (place : ℕ) (g h : Gathered) → slice_get t.waiting place ≡ Some g → h.arrived ≡ g.arrived → length h.asked ≡ length g.asked → length h.given ≡ length g.given
      → IsWhole (record t { waiting = set t.waiting place h })
  whole-put place g h there arrived asked given = record {
    even = whole.even;
    low = whole.low;
    high = λ rank. omega (arith, whole.high rank, length-set t.waiting place h);
    left = whole.left;
    each = whole.each;
    behind = whole.behind;
    gathered = λ p k got. elim (slice_get-set_cases t.waiting place h k p got) [
      | inl here ↦ let w = whole.gathered place g there in record {
        asked = ap (λ (g : Gathered). length g.asked) here.1 ∙ (asked ∙ w.asked);
        given = ap (λ (g : Gathered). length g.given) here.1 ∙ (given ∙ w.given);
        counted = ap (λ (g : Gathered). g.arrived) here.1 ∙ (arrived ∙ (w.counted ∙ ap (λ n. past t.made (t.full + n)) (sym here.0)));
      }
      | inr old ↦ let w = whole.gathered p k old.1 in record { asked = w.asked; given = w.given; counted = w.counted }
    ];
  }

  -- a member leaves
  pub whole-left : (rank : ℕ) → IsWhole (record t { gone = set t.gone rank (get_or t.made rank 0); results = set t.results rank [] })
  whole-left rank = record {
    even = length-set t.gone rank (get_or t.made rank 0) ∙ whole.even;
    low = whole.low;
    high = whole.high;
    left = λ r. elim (cases_eq r rank) [
      | inl same ↦ elim (cases_lt rank (length t.gone)) [
        | inl lt ↦ omega (arith, ap (λ k. get_or (set t.gone rank (get_or t.made rank 0)) k 0) same, get_or-set_same t.gone rank (get_or t.made rank 0) 0 lt, ap (λ k. get_or t.made k 0) same)
        | inr ge ↦ omega (arith, ap (λ ks. get_or ks r 0) (set_past t.gone rank (get_or t.made rank 0) ge), whole.left r)
      ]
      | inr nay ↦ omega (arith, get_or-set_other t.gone rank r (get_or t.made rank 0) 0 nay, whole.left r)
    ];
    each = λ some. length-set t.results rank [] ∙ whole.each some;
    behind = whole.behind;
    gathered = λ p k got. let w = whole.gathered p k got in record { asked = w.asked; given = w.given; counted = w.counted };
  }

  module _ (rank : ℕ) (within : rank < length t.made) where
    abbrev once_more : List ℕ
    once_more = set t.made rank (get_or t.made rank 0 + 1)

    long : length once_more ≡ length t.made
    long = length-set t.made rank (get_or t.made rank 0 + 1)

    own : get_or once_more rank 0 ≡ get_or t.made rank 0 + 1
    own = get_or-set_same t.made rank (get_or t.made rank 0 + 1) 0 within

    other : (r : ℕ) → r ≢ rank → get_or once_more r 0 ≡ get_or t.made r 0
    other r nay = get_or-set_other t.made rank r (get_or t.made rank 0 + 1) 0 nay

    left_more : (r : ℕ) → get_or t.gone r 0 ≤ get_or once_more r 0
    left_more r = elim (cases_eq r rank) [
      | inl same ↦ omega (arith, whole.left r, ap (λ k. get_or once_more k 0) same, own, ap (λ k. get_or t.made k 0) same)
      | inr nay ↦ omega (arith, whole.left r, other r nay)
    ]

    -- an arrival that does not fill its meeting
    pub whole-entered : (g : Gathered) → slice_get t.waiting (get_or t.made rank 0 - t.full) ≡ Some g
        → (get_or t.made rank 0 ≡ t.full → g.arrived + 1 ≢ length t.made)
        → IsWhole (record t { made = once_more; waiting = set t.waiting (get_or t.made rank 0 - t.full) (come_to g) })
    whole-entered g there last = record {
      even = whole.even ∙ sym long;
      left = left_more;
      each = λ some. whole.each some ∙ sym long;
      low = λ r h. elim (cases_eq r rank) [
        | inl same ↦ let e = whole.low rank within in subst (λ k. t.full ≤ get_or once_more k 0) (sym same) (omega (arith, own))
        | inr nay ↦ omega (arith, other r nay, whole.low r (omega (arith, long)))
      ];
      high = λ r. elim (cases_eq r rank) [
        | inl same ↦
            let e = whole.low rank within in let p = slice_get_within t.waiting (get_or t.made rank 0 - t.full) g there in
            subst (λ k. get_or once_more k 0 ≤ t.full + length (set t.waiting (get_or t.made rank 0 - t.full) (come_to g))) (sym same)
            (omega (arith, own, length-set t.waiting (get_or t.made rank 0 - t.full) (come_to g)))
        | inr nay ↦ omega (arith, other r nay, whole.high r, length-set t.waiting (get_or t.made rank 0 - t.full) (come_to g))
      ];
      behind = λ some. elim (cases_eq t.full (get_or t.made rank 0)) [
        | inl same ↦
            let w = whole.gathered (get_or t.made rank 0 - t.full) g there in
            let n : g.arrived ≡ past t.made t.full = w.counted ∙ ap (past t.made) (omega (arith, same)) in
            let more : past once_more t.full ≡ past t.made t.full + 1 = subst (λ k. past once_more k ≡ past t.made k + 1) (sym same) (past-own t.made rank within) in
            let not_all : g.arrived + 1 ≢ length t.made = last (sym same) in
            let few : past t.made t.full < length t.made = whole.behind (omega arith) in
            omega (arith, n, more, not_all, few, long)
        | inr nay ↦ omega (arith, past-other t.made rank within t.full nay, whole.behind (omega (arith, some, long)), long)
      ];
      gathered = λ p k got. elim (slice_get-set_cases t.waiting (get_or t.made rank 0 - t.full) (come_to g) k p got) [
        | inl here ↦ let w = whole.gathered (get_or t.made rank 0 - t.full) g there in record {
          asked = ap (λ (g : Gathered). length g.asked) here.1 ∙ (w.asked ∙ sym long);
          given = ap (λ (g : Gathered). length g.given) here.1 ∙ (w.given ∙ sym long);
          counted =
              let e = whole.low rank within in
              let before : g.arrived ≡ past t.made (get_or t.made rank 0) = w.counted ∙ ap (past t.made) (omega arith) in
              let now : past once_more (get_or t.made rank 0) ≡ past once_more (t.full + p) = ap (past once_more) (omega (arith, here.0)) in
              let one : k.arrived ≡ g.arrived + 1 = ap (λ (g : Gathered). g.arrived) here.1 in
              let more = past-own t.made rank within in
              omega (arith, before, now, one, more);
        }
        | inr old ↦ let w = whole.gathered p k old.1 in record {
          asked = w.asked ∙ sym long;
          given = w.given ∙ sym long;
          counted = let e = whole.low rank within in w.counted ∙ sym (past-other t.made rank within (t.full + p) (λ same. old.0 (omega (arith, same))));
        }
      ];
    }

    -- the arrival that fills the first meeting
    pub whole-filled : (g : Gathered) (results : List (List Word)) → slice_get t.waiting 0 ≡ Some g → get_or t.made rank 0 ≡ t.full → g.arrived + 1 ≡ length t.made → length results ≡ length t.made
        → IsWhole (record t { made = once_more; full = t.full + 1; results = results; waiting = drop 1 t.waiting })
    whole-filled g results there next last even = record {
      even = whole.even ∙ sym long;
      left = left_more;
      each = λ some. even ∙ sym long;
      low = λ r h. elim (cases_eq r rank) [
        | inl same ↦ subst (λ k. t.full + 1 ≤ get_or once_more k 0) (sym same) (omega (arith, own, next))
        | inr nay ↦ all_came r nay (omega (arith, h, long))
      ];
      high = λ r. elim (cases_eq r rank) [
        | inl same ↦ subst (λ k. get_or once_more k 0 ≤ t.full + 1 + length (drop 1 t.waiting)) (sym same) (omega (arith, own, next))
        | inr nay ↦ omega (arith, other r nay, whole.high r, length-drop 1 t.waiting, slice_get_within t.waiting 0 g there)
      ];
      behind = λ some.
          let fails : nat_lt (t.full + 1) (get_or once_more rank 0) ≡ false = lt_no (t.full + 1) (get_or once_more rank 0) (omega (arith, own, next)) in
          let below : past once_more (t.full + 1) + 1 ≤ length once_more = counts_below (λ n. nat_lt (t.full + 1) n) once_more rank (t.full + 2) 0 (omega (arith, long)) fails (lt_yes (t.full + 1) (t.full + 2) (omega arith)) in
          omega arith;
      gathered = λ p k got.
          let w = whole.gathered (p + 1) k (sym (slice_get-drop_1 t.waiting p) ∙ got) in record {
            asked = w.asked ∙ sym long;
            given = w.given ∙ sym long;
            counted =
                let before : k.arrived ≡ past t.made (t.full + 1 + p) = w.counted ∙ ap (past t.made) (omega arith) in
                before ∙ sym (past-other t.made rank within (t.full + 1 + p) (λ e. omega (arith, next, e)));
          };
    }
      where
        counted : past t.made t.full + 1 ≡ length t.made
        counted = let w = whole.gathered 0 g there in let e : g.arrived ≡ past t.made t.full = w.counted ∙ ap (past t.made) (omega arith) in omega (arith, e, last)

        all_came : (r : ℕ) → r ≢ rank → r < length t.made → t.full + 1 ≤ get_or once_more r 0
        all_came r nay h = elim (cases_lt t.full (get_or t.made r 0)) [
          | inl lt ↦ omega (arith, other r nay, lt)
          | inr ge ↦
              let two : past t.made t.full + 2 ≤ length t.made = counts_below_two (λ n. nat_lt t.full n) t.made rank r (t.full + 1) 0 within h nay
              (lt_no t.full (get_or t.made rank 0) (omega arith))
              (lt_no t.full (get_or t.made r 0) (omega arith))
              (lt_yes t.full (t.full + 1) (omega arith)) in
              absurd (omega (arith, two, counted))
        ]
