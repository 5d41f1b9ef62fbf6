-- The tables as rows are read.
use Rattle.std.proofs.Common.{◌≡◌, ◌⊎◌, ℕ, ◌+◌, ◌≤◌, ◌<◌, Bool, true, false, cond, ◌==◌, ltb, List, [], ◌∷◌, ◌++◌, length, map, take, get_or, set, replicate, arith, refl, sym, ap, ◌∙◌, subst, inl, inr, suc}
use Rattle.std.specs.Prelude.{Option, Some, None, MatchOption}
use Rattle.std.specs.List.{count_by, Contains, range_with_len}
use Rattle.std.specs.Ordering.{is_eq, nat_cmp}
use Rattle.std.specs.declared.cmp.Ordering.{Ordering}
use Rattle.std.specs.declared.cmp.Ordering.TheVariants.{Less, Equal, Greater}
use Rattle.std.specs.BTreeMap.{BTreeMap, get, is_at}
use Rattle.std.specs.Map.{lookup}
use Rattle.std.proofs.lemmas.Cmp.{tied_itself, then_total, on_total, nat_cmp_total}
use Rattle.std.proofs.lemmas.Map.Lookups.{exact_pairs, exact_unsigned}
use Rattle.std.proofs.lemmas.Bool.{cases_Bool, cases_eq, cases_lt, eq-eqb, eqb-true, ne_eqb, and_from, and_parts, and_right, both_ways, false_from_ne_true, le-ltb}
use Rattle.std.proofs.lemmas.List.{get_or_default, get_or_read, get_or_append_left, get_or_push, get_or-set_same, get_or-set_other, get_or-map, get_or-take, length-set, length_push, length-map, length-take-le, length-replicate, get_or-replicate, map_push, take_more, replicate_more}
use Rattle.std.proofs.lemmas.List.Elements.{Contains-get_or}
use Rattle.std.proofs.lemmas.List.Sums.{sum_by_push, sum_by-cons, get_or-le-sum_by}
use Rattle.hls_sync.specs.declared.visits.HlsRow.{HlsRow}
use Rattle.hls_sync.specs.declared.seats.Seat.{Seat}
use Rattle.hls_sync.specs.Meetings.{Site, instance_size}
use Rattle.hls_sync.specs.Turnouts.{Turnout, reached}
use Rattle.hls_sync.specs.Syncs.{no_seat, no_turnout}
use Rattle.hls_sync.specs.Shown.{visit_at, IsApart, is_mate, IsSiteOf, ShowsSeat, Shows}
use Rattle.hls_sync.specs.Numbers.{pair_cmp, Numbers}
use Rattle.hls_sync.specs.Kept.{is_of, is_in, IsTied}
use Rattle.hls_sync.proofs.Counts.{one_if, count_split}

-- keys
equal_from_is_eq : (o : Ordering) → is_eq o ≡ true → o ≡ Equal
equal_from_is_eq Less h = let never : ⊥ = cc in absurd never
equal_from_is_eq Equal h = refl
equal_from_is_eq Greater h = let never : ⊥ = cc in absurd never

pair_exact : (x y : ℕ × ℕ) → pair_cmp x y ≡ Equal → x ≡ y
pair_exact = exact_pairs nat_cmp nat_cmp exact_unsigned exact_unsigned

pair_itself : (x : ℕ × ℕ) → pair_cmp x x ≡ Equal
pair_itself x = tied_itself (then_total (on_total (λ (t : ℕ × ℕ). t.0) nat_cmp_total) (on_total (λ (t : ℕ × ℕ). t.1) nat_cmp_total)) x

pair_same : (x y : ℕ × ℕ) → x ≡ y → is_eq (pair_cmp x y) ≡ true
pair_same x y same = subst (λ (z : ℕ × ℕ). is_eq (pair_cmp x z) ≡ true) same (ap is_eq (pair_itself x))

pair_other : (x y : ℕ × ℕ) → (x ≡ y → ⊥) → is_eq (pair_cmp x y) ≡ false
pair_other x y other = false_from_ne_true (is_eq (pair_cmp x y)) (λ h. other (pair_exact x y (equal_from_is_eq (pair_cmp x y) h)))

pair_cases : (x y : ℕ × ℕ) → (x ≡ y) ⊎ (x ≡ y → ⊥)
pair_cases x y = elim (cases_Bool (is_eq (pair_cmp x y))) [
  | inl same ↦ inl (pair_exact x y (equal_from_is_eq (pair_cmp x y) same))
  | inr other ↦ inr (λ e. both_ways (is_eq (pair_cmp x y)) other (pair_same x y e))
]

abbrev pub quiet : List ℕ → Turnout
quiet counts = record { counts = counts; running = None }

abbrev pub new_seat : HlsRow → ℕ → Seat
new_seat row place = record { row = row; came = 0; place = place }

abbrev pub grown : Turnout → Turnout
grown t = record t { counts = t.counts ++ 0 ∷ [] }

abbrev pub key_of : Seat → ℕ × ℕ
key_of s = (s.row.construct, s.row.task)

abbrev pub pair_of : HlsRow → ℕ × ℕ
pair_of r = (r.construct, r.inst)

-- The tables of the first rows: each row has its seat, each pair of a construct and an instance its number, and nobody has come.
pub record IsMade (given : List HlsRow) (n : ℕ) (seats : List Seat) (index : BTreeMap (ℕ × ℕ) ℕ) (instances : List Turnout) (numbers : BTreeMap (ℕ × ℕ) ℕ) : Type 0 where
  pub rows : map (λ (s : Seat). s.row) seats ≡ take n given
  pub came : (k : ℕ) → k < length seats → (get_or seats k no_seat).came ≡ 0
  pub finds : (k : ℕ) → k < length seats → get pair_cmp index (key_of (get_or seats k no_seat)) ≡ Some k
  pub numbered : (k : ℕ) → k < length seats → get pair_cmp numbers (pair_of (get_or seats k no_seat).row) ≡ Some (get_or seats k no_seat).place
  pub named : (x y : ℕ × ℕ) (p : ℕ) → get pair_cmp numbers x ≡ Some p → get pair_cmp numbers y ≡ Some p → x ≡ y
  pub bound : (x : ℕ × ℕ) (p : ℕ) → get pair_cmp numbers x ≡ Some p → p < length instances
  pub counts : (p : ℕ) → p < length instances → get_or instances p no_turnout ≡ quiet (replicate (count_by (is_of p) seats) 0)

pub made_none : (given : List HlsRow) (index numbers : BTreeMap (ℕ × ℕ) ℕ) → index.entries ≡ [] → numbers.entries ≡ [] → IsMade given 0 [] index [] numbers
made_none given index numbers no_keys no_pairs = record {
  rows = refl;
  came = λ k h. absurd (omega arith);
  finds = λ k h. absurd (omega arith);
  numbered = λ k h. absurd (omega arith);
  named = λ x y p is_x is_y. let never : None ≡ Some p = sym (empty x) ∙ is_x in absurd (cc);
  bound = λ x p is_x. let never : None ≡ Some p = sym (empty x) ∙ is_x in absurd (cc);
  counts = λ p h. absurd (omega arith);
}
  where
    empty : (x : ℕ × ℕ) → get pair_cmp numbers x ≡ None
    empty x = ap (lookup (is_at (pair_cmp x))) no_pairs

count_none : {X : Type 0} (p : X → Bool) (xs : List X) → ((k : ℕ) (d : X) → k < length xs → p (get_or xs k d) ≡ false) → count_by p xs ≡ 0
count_none p xs fails = count_split p xs 0 (omega arith) (λ k d a b. absurd (omega arith)) (λ k d a b. fails k d b)

-- what holds of each seat and of one more
pushed : (P : Seat → ℕ → Type 0) (seats : List Seat) (s : Seat) → ((k : ℕ) → k < length seats → P (get_or seats k no_seat) k) → P s (length seats)
    → (k : ℕ) → k < length (seats ++ s ∷ []) → P (get_or (seats ++ s ∷ []) k no_seat) k
pushed P seats s old new k h = elim (cases_lt k (length seats)) [
  | inl before ↦ subst (λ x. P x k) (sym (get_or_append_left seats (s ∷ []) no_seat k before)) (old k before)
  | inr after ↦
      let last : length seats ≡ k = omega (arith, length_push seats s) in
      subst (λ x. P x k) (sym (get_or_push seats s no_seat k last)) (subst (P s) last new)
]

-- the tables with one row more
pub made_more : (given : List HlsRow) (n : ℕ) (seats : List Seat) (index index' : BTreeMap (ℕ × ℕ) ℕ) (instances instances' instances2 : List Turnout) (numbers numbers' : BTreeMap (ℕ × ℕ) ℕ) (row : HlsRow) (place : ℕ)
    → IsApart given → n < length given → row ≡ get_or given n row → IsMade given n seats index instances numbers
    → Numbers numbers numbers' instances instances' row place
    → instances2 ≡ set instances' place (grown (get_or instances' place no_turnout))
    → ((q : ℕ × ℕ) → get pair_cmp index' q ≡ cond (is_eq (pair_cmp (row.construct, row.task) q)) (Some (length seats)) (get pair_cmp index q))
    → IsMade given (n + 1) (seats ++ new_seat row place ∷ []) index' instances2 numbers'
made_more given n seats index index' instances instances' instances2 numbers numbers' row place apart within is_row made numbered added found = record {
  rows = map_push (λ (s : Seat). s.row) seats (new_seat row place) ∙ (ap (λ rs. rs ++ row ∷ []) made.rows ∙ (ap (λ r. take n given ++ r ∷ []) is_row ∙ sym (take_more given n row within)));
  came = pushed (λ s k. s.came ≡ 0) seats (new_seat row place) made.came refl;
  finds = pushed (λ s k. get pair_cmp index' (key_of s) ≡ Some k) seats (new_seat row place)
      (λ k h. found (key_of (get_or seats k no_seat)) ∙ (ap (λ b. cond b (Some (length seats)) (get pair_cmp index (key_of (get_or seats k no_seat)))) (pair_other (row.construct, row.task) (key_of (get_or seats k no_seat)) (other_key k h)) ∙ made.finds k h))
      (found (row.construct, row.task) ∙ ap (λ b. cond b (Some (length seats)) (get pair_cmp index (row.construct, row.task))) (pair_same (row.construct, row.task) (row.construct, row.task) refl));
  numbered = pushed (λ s k. get pair_cmp numbers' (pair_of s.row) ≡ Some s.place) seats (new_seat row place)
      (λ k h. kept (pair_of (get_or seats k no_seat).row) (get_or seats k no_seat).place (made.numbered k h))
      own;
  named = named;
  bound = λ x p is_x. bound x p is_x;
  counts = counts;
}
  where
    short : length seats ≡ n
    short = sym (length-map seats (λ (s : Seat). s.row)) ∙ (ap length made.rows ∙ length-take-le n given (omega arith))

    row_at : (k : ℕ) → k < length seats → (get_or seats k no_seat).row ≡ get_or given k row
    row_at k h = sym (get_or-map (λ (s : Seat). s.row) seats k no_seat row h) ∙ (ap (λ rs. get_or rs k row) made.rows ∙ get_or-take n given k row (omega (arith, short)))

    other_key : (k : ℕ) → k < length seats → (row.construct, row.task) ≡ key_of (get_or seats k no_seat) → ⊥
    other_key k h same =
        apart k n row (omega (arith, short)) within
        (sym (ap (λ (r : HlsRow). r.construct) (row_at k h)) ∙ (sym (ap (λ (x : ℕ × ℕ). x.0) same) ∙ ap (λ (r : HlsRow). r.construct) is_row))
        (sym (ap (λ (r : HlsRow). r.task) (row_at k h)) ∙ (sym (ap (λ (x : ℕ × ℕ). x.1) same) ∙ ap (λ (r : HlsRow). r.task) is_row))

    own : get pair_cmp numbers' (pair_of row) ≡ Some place
    own = numbered.numbers (pair_of row) ∙ ap (λ b. cond b (Some place) (get pair_cmp numbers (pair_of row))) (pair_same (pair_of row) (pair_of row) refl)

    apart_from : (x : ℕ × ℕ) → ((pair_of row) ≡ x → ⊥) → get pair_cmp numbers' x ≡ get pair_cmp numbers x
    apart_from x other = numbered.numbers x ∙ ap (λ b. cond b (Some place) (get pair_cmp numbers x)) (pair_other (pair_of row) x other)

    -- the number is the one that the (pair_of row) had, or the next
    by_number : (o : Option ℕ) → MatchOption o ((place ≡ length instances) × (instances' ≡ instances ++ quiet [] ∷ [])) (λ p. (place ≡ p) × (instances' ≡ instances))
        → ((o ≡ None) × (place ≡ length instances) × (instances' ≡ instances ++ quiet [] ∷ [])) ⊎ ((o ≡ Some place) × (instances' ≡ instances))
    by_number None m = inl (refl, m.0, m.1)
    by_number (Some p) m = inr (ap (λ q. Some q) (sym m.0), m.1)

    which : ((get pair_cmp numbers (pair_of row) ≡ None) × (place ≡ length instances) × (instances' ≡ instances ++ quiet [] ∷ [])) ⊎ ((get pair_cmp numbers (pair_of row) ≡ Some place) × (instances' ≡ instances))
    which = by_number (get pair_cmp numbers (pair_of row)) numbered.instances

    kept : (x : ℕ × ℕ) (p : ℕ) → get pair_cmp numbers x ≡ Some p → get pair_cmp numbers' x ≡ Some p
    kept x p is_x = elim (pair_cases (pair_of row) x) [
      | inl same ↦
          let had : get pair_cmp numbers (pair_of row) ≡ Some p = ap (get pair_cmp numbers) same ∙ is_x in
          elim which [
            | inl new ↦ let never : None ≡ Some p = sym new.0 ∙ had in absurd (cc)
            | inr old ↦ ap (get pair_cmp numbers') (sym same) ∙ (own ∙ (sym old.0 ∙ had))
          ]
      | inr other ↦ apart_from x other ∙ is_x
    ]

    -- a (pair_of row) that has the number of the row's
    with_number : (x : ℕ × ℕ) → get pair_cmp numbers x ≡ Some place → (pair_of row) ≡ x
    with_number x is_x = elim which [
      | inl new ↦ let below : place < length instances = made.bound x place is_x in let at_end : place ≡ length instances = new.1 in absurd (omega arith)
      | inr old ↦ made.named (pair_of row) x place old.0 is_x
    ]

    place_is : (x : ℕ × ℕ) (p : ℕ) → (pair_of row) ≡ x → get pair_cmp numbers' x ≡ Some p → place ≡ p
    place_is x p same is_x = let e : Some place ≡ Some p = sym own ∙ (ap (get pair_cmp numbers') same ∙ is_x) in cc

    named : (x y : ℕ × ℕ) (p : ℕ) → get pair_cmp numbers' x ≡ Some p → get pair_cmp numbers' y ≡ Some p → x ≡ y
    named x y p is_x is_y = elim (pair_cases (pair_of row) x) [
      | inl x_is ↦ elim (pair_cases (pair_of row) y) [
        | inl y_is ↦ sym x_is ∙ y_is
        | inr y_other ↦ sym x_is ∙ with_number y (sym (apart_from y y_other) ∙ (is_y ∙ ap (λ q. Some q) (sym (place_is x p x_is is_x))))
      ]
      | inr x_other ↦ elim (pair_cases (pair_of row) y) [
        | inl y_is ↦ sym (with_number x (sym (apart_from x x_other) ∙ (is_x ∙ ap (λ q. Some q) (sym (place_is y p y_is is_y))))) ∙ y_is
        | inr y_other ↦ made.named x y p (sym (apart_from x x_other) ∙ is_x) (sym (apart_from y y_other) ∙ is_y)
      ]
    ]

    longer : length instances ≤ length instances'
    longer = elim which [
      | inl new ↦ let e : length instances' ≡ length instances + 1 = ap length new.2 ∙ length_push instances (quiet []) in omega arith
      | inr old ↦ let e : length instances' ≡ length instances = ap length old.1 in omega arith
    ]

    place_within : place < length instances'
    place_within = elim which [
      | inl new ↦ let e : length instances' ≡ length instances + 1 = ap length new.2 ∙ length_push instances (quiet []) in let at_end : place ≡ length instances = new.1 in omega arith
      | inr old ↦ let e : length instances' ≡ length instances = ap length old.1 in let below : place < length instances = made.bound (pair_of row) place old.0 in omega arith
    ]

    length2 : length instances2 ≡ length instances'
    length2 = ap length added ∙ length-set instances' place (grown (get_or instances' place no_turnout))

    bound : (x : ℕ × ℕ) (p : ℕ) → get pair_cmp numbers' x ≡ Some p → p < length instances2
    bound x p is_x = elim (pair_cases (pair_of row) x) [
      | inl same ↦ let e : place ≡ p = place_is x p same is_x in omega (arith, e, length2, place_within)
      | inr other ↦ let below : p < length instances = made.bound x p (sym (apart_from x other) ∙ is_x) in omega (arith, below, length2, longer)
    ]

    -- each instance before the row
    old_counts : (p : ℕ) → p < length instances' → get_or instances' p no_turnout ≡ quiet (replicate (count_by (is_of p) seats) 0)
    old_counts p h = elim which [
      | inr old ↦ ap (λ ts. get_or ts p no_turnout) old.1 ∙ made.counts p (let e : length instances' ≡ length instances = ap length old.1 in omega arith)
      | inl new ↦ elim (cases_lt p (length instances)) [
        | inl before ↦ ap (λ ts. get_or ts p no_turnout) new.2 ∙ (get_or_append_left instances (quiet [] ∷ []) no_turnout p before ∙ made.counts p before)
        | inr after ↦
            let e : length instances' ≡ length instances + 1 = ap length new.2 ∙ length_push instances (quiet []) in
            let last : length instances ≡ p = omega arith in
            let nobody : count_by (is_of p) seats ≡ 0 = count_none (is_of p) seats (λ k d hk.
            let below : (get_or seats k no_seat).place < length instances = made.bound (pair_of (get_or seats k no_seat).row) (get_or seats k no_seat).place (made.numbered k hk) in
            ap (is_of p) (get_or_default seats k d no_seat hk) ∙ ne_eqb (get_or seats k no_seat).place p (λ is. absurd (omega arith))) in
            ap (λ ts. get_or ts p no_turnout) new.2 ∙ (get_or_push instances (quiet []) no_turnout p last
            ∙ ap (λ c. quiet (replicate c 0)) (sym nobody))
      ]
    ]

    counts : (p : ℕ) → p < length instances2 → get_or instances2 p no_turnout ≡ quiet (replicate (count_by (is_of p) (seats ++ new_seat row place ∷ [])) 0)
    counts p h =
        let inside : p < length instances' = omega (arith, length2) in
        let more : count_by (is_of p) (seats ++ new_seat row place ∷ []) ≡ count_by (is_of p) seats + one_if (place == p) = sum_by_push (λ s. one_if (is_of p s)) seats (new_seat row place) in
        elim (cases_eq p place) [
          | inl is ↦ subst (λ q. get_or instances2 q no_turnout ≡ quiet (replicate (count_by (is_of q) (seats ++ new_seat row place ∷ [])) 0)) (sym is)
              (ap (λ ts. get_or ts place no_turnout) added ∙ (get_or-set_same instances' place (grown (get_or instances' place no_turnout)) no_turnout place_within
              ∙ (ap grown (old_counts place place_within)
              ∙ ap (λ cs. quiet (cs)) (replicate_more (count_by (is_of place) seats) 0
              ∙ ap (λ c. replicate c 0) (sym (sum_by_push (λ s. one_if (is_of place s)) seats (new_seat row place) ∙ ap (λ b. count_by (is_of place) seats + one_if b) (eq-eqb place place refl)))))))
          | inr other ↦ ap (λ ts. get_or ts p no_turnout) added ∙ (get_or-set_other instances' place p (grown (get_or instances' place no_turnout)) no_turnout other
              ∙ (old_counts p inside
              ∙ ap (λ c. quiet (replicate c 0)) (let none : one_if (place == p) ≡ 0 = ap one_if (ne_eqb place p (λ e. other (sym e))) in
              let kept : count_by (is_of p) seats ≡ count_by (is_of p) (seats ++ new_seat row place ∷ []) = omega (arith, more, none) in kept)))
        ]

-- the instance of the row is there
number_cases : (o : Option ℕ) (place : ℕ) (before after : List Turnout) → MatchOption o ((place ≡ length before) × (after ≡ before ++ quiet [] ∷ [])) (λ p. (place ≡ p) × (after ≡ before))
    → ((place ≡ length before) × (after ≡ before ++ quiet [] ∷ [])) ⊎ ((o ≡ Some place) × (after ≡ before))
number_cases None place before after m = inl (m.0, m.1)
number_cases (Some p) place before after m = inr (ap (λ q. Some q) (sym m.0), m.1)

pub made_place : (given : List HlsRow) (n : ℕ) (seats : List Seat) (index : BTreeMap (ℕ × ℕ) ℕ) (instances instances' : List Turnout) (numbers numbers' : BTreeMap (ℕ × ℕ) ℕ) (row : HlsRow) (place : ℕ)
    → IsMade given n seats index instances numbers → Numbers numbers numbers' instances instances' row place → place < length instances'
made_place given n seats index instances instances' numbers numbers' row place made numbered = elim (number_cases (get pair_cmp numbers (pair_of row)) place instances instances' numbered.instances) [
  | inl new ↦ let e : length instances' ≡ length instances + 1 = ap length new.1 ∙ length_push instances (quiet []) in let at_end : place ≡ length instances = new.0 in omega arith
  | inr old ↦ let e : length instances' ≡ length instances = ap length old.1 in let below : place < length instances = made.bound (pair_of row) place old.0 in omega arith
]

-- the same, as the code writes it: the instance that is read grows, and the seat's number is the count of seats
pub made_row : (given : List HlsRow) (n : ℕ) (seats : List Seat) (index index' : BTreeMap (ℕ × ℕ) ℕ) (instances instances' : List Turnout) (numbers numbers' : BTreeMap (ℕ × ℕ) ℕ) (row : HlsRow) (place at_seat : ℕ) (old new : Turnout)
    → IsApart given → n < length given → row ≡ get_or given n row → IsMade given n seats index instances numbers
    → Numbers numbers numbers' instances instances' row place
    → old ≡ get_or instances' place old → new ≡ grown old
    → at_seat ≡ length seats → ((q : ℕ × ℕ) → get pair_cmp index' q ≡ cond (is_eq (pair_cmp (row.construct, row.task) q)) (Some at_seat) (get pair_cmp index q))
    → IsMade given (n + 1) (seats ++ new_seat row place ∷ []) index' (set instances' place new) numbers'
made_row given n seats index index' instances instances' numbers numbers' row place at_seat old new apart within is_row made numbered is_old is_new count found =
    made_more given n seats index index' instances instances' (set instances' place new) numbers numbers' row place apart within is_row made numbered
    (ap (set instances' place) (is_new ∙ ap grown (get_or_read instances' place old (made_place given n seats index instances instances' numbers numbers' row place made numbered) is_old no_turnout)))
    (λ q. found q ∙ ap (λ m. cond (is_eq (pair_cmp (row.construct, row.task) q)) (Some m) (get pair_cmp index q)) count)

-- what the tables keep once all rows are read
nobody_reached : (n m : ℕ) → reached (replicate n 0) m ≡ 0
nobody_reached n m = count_none (λ c. ltb m c) (replicate n 0) (λ k d h. ap (ltb m) (get_or-replicate n k 0 d (omega (arith, length-replicate {A = ℕ} n 0))) ∙ le-ltb m 0 (omega arith))

pub made_tied : (given : List HlsRow) (n : ℕ) (seats : List Seat) (index : BTreeMap (ℕ × ℕ) ℕ) (instances : List Turnout) (numbers : BTreeMap (ℕ × ℕ) ℕ)
    → IsMade given n seats index instances numbers → IsTied (record { seats = seats; instances = instances })
made_tied given n seats index instances numbers made = record {
  apart = λ j k hj hk ec et.
      let same : key_of (get_or seats j no_seat) ≡ key_of (get_or seats k no_seat) = cc in
      let e : Some j ≡ Some k = sym (made.finds j hj) ∙ (ap (get pair_cmp index) same ∙ made.finds k hk) in cc;
  within = λ k hk. made.bound (pair_of (get_or seats k no_seat).row) (get_or seats k no_seat).place (made.numbered k hk);
  same = λ j k hj hk ec ei.
      let same : pair_of (get_or seats j no_seat).row ≡ pair_of (get_or seats k no_seat).row = cc in
      let e : Some (get_or seats j no_seat).place ≡ Some (get_or seats k no_seat).place = sym (made.numbered j hj) ∙ (ap (get pair_cmp numbers) same ∙ made.numbered k hk) in cc;
  alike = λ j k hj hk e.
      let same = made.named (pair_of (get_or seats j no_seat).row) (pair_of (get_or seats k no_seat).row) (get_or seats k no_seat).place (made.numbered j hj ∙ ap (λ p. Some p) e) (made.numbered k hk) in
      (ap (λ (x : ℕ × ℕ). x.0) same, ap (λ (x : ℕ × ℕ). x.1) same);
  counts = λ p m hp. ap (λ (t : Turnout). reached t.counts m) (made.counts p hp) ∙ (nobody_reached (count_by (is_of p) seats) m
      ∙ sym (count_none (is_in p m) seats (λ k d hk. ap (is_in p m) (get_or_default seats k d no_seat hk)
      ∙ and_right ((get_or seats k no_seat).place == p) (ltb m (get_or seats k no_seat).came) (ap (ltb m) (made.came k hk) ∙ le-ltb m 0 (omega arith)))));
  sizes = λ p hp. ap (λ (t : Turnout). length t.counts) (made.counts p hp) ∙ length-replicate (count_by (is_of p) seats) 0;
}

count_agree : {X : Type 0} (p q : X → Bool) (xs : List X) (d : X) → ((k : ℕ) → k < length xs → p (get_or xs k d) ≡ q (get_or xs k d)) → count_by p xs ≡ count_by q xs
count_agree p q [] d same = refl
count_agree p q (x ∷ xs) d same =
    sum_by-cons (λ y. one_if (p y)) x xs
    ∙ (ap (λ b. one_if b + count_by p xs) (same 0 (omega arith))
    ∙ (ap (λ n. one_if (q x) + n) (count_agree p q xs d (λ k h. same (suc k) (omega arith)))
    ∙ sym (sum_by-cons (λ y. one_if (q y)) x xs)))

count_map : {X Y : Type 0} (p : Y → Bool) (f : X → Y) (xs : List X) → count_by p (map f xs) ≡ count_by (λ x. p (f x)) xs
count_map p f [] = refl
count_map p f (x ∷ xs) = sum_by-cons (λ y. one_if (p y)) (f x) (map f xs) ∙ (ap (λ n. one_if (p (f x)) + n) (count_map p f xs) ∙ sym (sum_by-cons (λ y. one_if (p (f y))) x xs))

-- the tables stand for no arrivals and no exits
pub made_shows : (given : List HlsRow) (seats : List Seat) (index : BTreeMap (ℕ × ℕ) ℕ) (instances : List Turnout) (numbers : BTreeMap (ℕ × ℕ) ℕ)
    → map (λ (s : Seat). s.row) seats ≡ given → IsMade given (length given) seats index instances numbers
    → (site : Site) → IsSiteOf given site → Shows (record { seats = seats; instances = instances }) site [] []
made_shows given seats index instances numbers rows made site is_site = record { seats = seat_shows }
  where
    tied : IsTied (record { seats = seats; instances = instances })
    tied = made_tied given (length given) seats index instances numbers made

    contained : (k : ℕ) → k < length seats → Contains given (get_or seats k no_seat).row
    contained k h = subst (λ rs. Contains rs (get_or seats k no_seat).row) rows
        (subst (Contains (map (λ (s : Seat). s.row) seats)) (get_or-map (λ (s : Seat). s.row) seats k no_seat no_seat.row h)
        (Contains-get_or (map (λ (s : Seat). s.row) seats) k no_seat.row (omega (arith, length-map seats (λ (s : Seat). s.row)))))

    mates : (k : ℕ) → k < length seats → count_by (is_mate (get_or seats k no_seat).row) given ≡ count_by (is_of (get_or seats k no_seat).place) seats
    mates k h = ap (count_by (is_mate (get_or seats k no_seat).row)) (sym rows) ∙ (count_map (is_mate (get_or seats k no_seat).row) (λ (s : Seat). s.row) seats
        ∙ count_agree (λ (s : Seat). is_mate (get_or seats k no_seat).row s.row) (is_of (get_or seats k no_seat).place) seats no_seat (λ j hj. mate j hj))
      where
        mate : (j : ℕ) → j < length seats → is_mate (get_or seats k no_seat).row (get_or seats j no_seat).row ≡ is_of (get_or seats k no_seat).place (get_or seats j no_seat)
        mate j hj = elim (cases_eq (get_or seats j no_seat).place (get_or seats k no_seat).place) [
          | inl same ↦
              let both = tied.alike j k hj h same in
              and_from ((get_or seats j no_seat).row.construct == (get_or seats k no_seat).row.construct) ((get_or seats j no_seat).row.inst == (get_or seats k no_seat).row.inst) (eq-eqb _ _ both.0) (eq-eqb _ _ both.1)
              ∙ sym (eq-eqb (get_or seats j no_seat).place (get_or seats k no_seat).place same)
          | inr other ↦
              false_from_ne_true (is_mate (get_or seats k no_seat).row (get_or seats j no_seat).row) (λ together.
              let both = and_parts ((get_or seats j no_seat).row.construct == (get_or seats k no_seat).row.construct) ((get_or seats j no_seat).row.inst == (get_or seats k no_seat).row.inst) together in
              other (tied.same j k hj h (eqb-true _ _ both.0) (eqb-true _ _ both.1)))
              ∙ sym (ne_eqb (get_or seats j no_seat).place (get_or seats k no_seat).place other)
        ]

    seat_shows : (k : ℕ) → k < length seats → (get_or seats k no_seat).row.construct ≡ site.construct
        → ShowsSeat (get_or instances (get_or seats k no_seat).place no_turnout) (get_or seats k no_seat) site [] []
    seat_shows k h ec =
        let turnout : get_or instances (get_or seats k no_seat).place no_turnout ≡ record { counts = replicate (count_by (is_of (get_or seats k no_seat).place) seats) 0; running = None } = made.counts (get_or seats k no_seat).place (tied.within k h) in
        let size : instance_size site (get_or seats k no_seat).row.task ≡ count_by (is_of (get_or seats k no_seat).place) seats = is_site.sizes (get_or seats k no_seat).row (contained k h) ec ∙ mates k h in
        let some : one_if (is_of (get_or seats k no_seat).place (get_or seats k no_seat)) ≤ count_by (is_of (get_or seats k no_seat).place) seats = get_or-le-sum_by (λ s. one_if (is_of (get_or seats k no_seat).place s)) seats k no_seat h in
        let one : one_if (is_of (get_or seats k no_seat).place (get_or seats k no_seat)) ≡ 1 = ap one_if (eq-eqb (get_or seats k no_seat).place (get_or seats k no_seat).place refl) in
        subst (λ t. ShowsSeat t (get_or seats k no_seat) site [] []) (sym turnout)
        (record {
          instance = is_site.instances (get_or seats k no_seat).row (contained k h) ec;
          size = size ∙ sym (length-replicate (count_by (is_of (get_or seats k no_seat).place) seats) 0);
          came = sym (ap (λ n. map (visit_at site.construct (get_or seats k no_seat).row.task) (range_with_len 0 n)) (made.came k h));
          comers = λ m. sym (nobody_reached (count_by (is_of (get_or seats k no_seat).place) seats) m);
          running = λ single. record {
            none = λ misses. refl;
            latest = λ m passes misses. absurd (let e : 0 ≡ instance_size site (get_or seats k no_seat).row.task = eqb-true 0 (instance_size site (get_or seats k no_seat).row.task) passes in omega (arith, e, size, some, one));
            ended = λ other m together was. let never : ⊥ = cc in absurd never;
          };
        })
