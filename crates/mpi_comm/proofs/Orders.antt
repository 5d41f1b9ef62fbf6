-- The order that two stable sorts leave, by key and then by colour, is that of the definitions.
use Rattle.std.proofs.Common.{◌≡◌, ℕ, ℤ, pos, negsuc, Bool, true, false, cond, not, ◌&&◌, ◌==◌, List, [], ◌∷◌, map, refl, sym, ap, ◌∙◌, arith}
use Rattle.std.specs.Prelude.{Option, Some, None, filter, filter_map, int_le, int_lt, nat_le, nat_lt}
use Rattle.std.specs.Cmp.{IsStrictWeakOrder, int_cmp_total}
use Rattle.std.specs.List.{cons_option}
use Rattle.std.specs.List.Sorted.{IsSortedBy, IsStableBy, IsPermutation, ties}
use Rattle.std.specs.Option.{option_map}
use Rattle.std.specs.Ordering.{nat_cmp, int_cmp, is_lt}
use Rattle.std.specs.declared.cmp.Ordering.TheVariants.{Less, Equal, Greater}
use Rattle.std.proofs.lemmas.Bool.Decides.{nat_tests}
use Rattle.std.proofs.lemmas.List.Elements.{filter_agree}
use Rattle.std.proofs.lemmas.List.Kept.{IsSortedBy-filter}
use Rattle.std.proofs.lemmas.List.Sorted.{ranks_by, IsNonDecreasingBy-from_sort, IsPermutation-trans}
use Rattle.mpi_comm.specs.declared.splitting.Asked.{Asked}
use Rattle.mpi_comm.specs.Splitting.{Chosen, Keyed, placed, by_key, colour_in, is_colour, tasks_of_colour}
use Rattle.mpi_comm.specs.Asked.{asked_as, asked_in, tasks_at, IsAskedOf}
use Rattle.mpi_comm.proofs.Sorting.{placed_by, sorted_by, stable_sorted}

abbrev pub before_by_key : Asked → Asked → Bool
before_by_key a b = is_lt (int_cmp a.key b.key)

abbrev pub before_by_colour : Asked → Asked → Bool
before_by_colour a b = is_lt (nat_cmp a.colour b.colour)

by_key_order : IsStrictWeakOrder before_by_key
by_key_order = ranks_by int_cmp_total (λ (a : Asked). a.key)

-- tests of numbers
leb_not : (a b : ℕ) → nat_le a b ≡ not (nat_lt b a)
leb_not a b = grind (arith, nat_tests)

int_le_not : (a b : ℤ) → int_le a b ≡ not (int_lt b a)
int_le_not (pos a) (pos b) = leb_not a b
int_le_not (pos a) (negsuc b) = refl
int_le_not (negsuc a) (pos b) = refl
int_le_not (negsuc a) (negsuc b) = leb_not b a

less_is : (b c : Bool) → is_lt (cond b Less (cond c Greater Equal)) ≡ b
less_is true c = refl
less_is false true = refl
less_is false false = refl

is_lt-int_cmp : (a b : ℤ) → is_lt (int_cmp a b) ≡ int_lt a b
is_lt-int_cmp a b = less_is (int_lt a b) (int_lt b a)

less_nat : (b c : Bool) → is_lt (cond b Less (cond c Equal Greater)) ≡ b
less_nat true c = refl
less_nat false true = refl
less_nat false false = refl

neither_less : (a b : ℕ) → (not (nat_lt a b) && not (nat_lt b a)) ≡ (b == a)
neither_less a b = grind (arith, nat_tests)

tie_nat : (a b : ℕ) → (not (is_lt (nat_cmp a b)) && not (is_lt (nat_cmp b a))) ≡ (b == a)
tie_nat a b =
    ap (λ t. not t && not (is_lt (nat_cmp b a))) (less_nat (nat_lt a b) (a == b))
    ∙ (ap (λ t. not (nat_lt a b) && not t) (less_nat (nat_lt b a) (b == a)) ∙ neither_less a b)

-- the code's insertion is the definitions'
abbrev pub keyed_of : Asked → Keyed
keyed_of a = record { key = a.key; task = a.task }

map_placed : (one : Asked) (xs : List Asked) → map keyed_of (placed_by before_by_key one xs) ≡ placed (keyed_of one) (map keyed_of xs)
map_placed one [] = refl
map_placed one (first ∷ more) =
    ap (λ t. map keyed_of (cond t (one ∷ first ∷ more) (first ∷ placed_by before_by_key one more))) (is_lt-int_cmp one.key first.key)
    ∙ (by (int_lt one.key first.key) (map_placed one more)
    ∙ ap (λ t. cond t (keyed_of first ∷ placed (keyed_of one) (map keyed_of more)) (keyed_of one ∷ keyed_of first ∷ map keyed_of more)) (sym (int_le_not first.key one.key)))
  where
    by : (b : Bool) → map keyed_of (placed_by before_by_key one more) ≡ placed (keyed_of one) (map keyed_of more)
        → map keyed_of (cond b (one ∷ first ∷ more) (first ∷ placed_by before_by_key one more))
        ≡ cond (not b) (keyed_of first ∷ placed (keyed_of one) (map keyed_of more)) (keyed_of one ∷ keyed_of first ∷ map keyed_of more)
    by true rest = refl
    by false rest = ap (λ ks. keyed_of first ∷ ks) rest

map_sorted : (sorted xs : List Asked) → map keyed_of (sorted_by before_by_key sorted xs) ≡ by_key (map keyed_of sorted) (map keyed_of xs)
map_sorted sorted [] = refl
map_sorted sorted (one ∷ more) = map_sorted (placed_by before_by_key one sorted) more ∙ ap (λ ks. by_key ks (map keyed_of more)) (map_placed one sorted)

-- filters change places
filter_swap : {X : Type 0} (p q : X → Bool) (xs : List X) → filter p (filter q xs) ≡ filter q (filter p xs)
filter_swap p q [] = refl
filter_swap p q (x ∷ xs) = by (p x) (q x) refl refl (filter_swap p q xs)
  where
    by : (b c : Bool) → b ≡ p x → c ≡ q x → filter p (filter q xs) ≡ filter q (filter p xs) → filter p (cond c (x ∷ filter q xs) (filter q xs)) ≡ filter q (cond b (x ∷ filter p xs) (filter p xs))
    by true true e f h =
        ap (λ t. cond t (x ∷ filter p (filter q xs)) (filter p (filter q xs))) (sym e)
        ∙ (ap (λ ys. x ∷ ys) h ∙ ap (λ t. cond t (x ∷ filter q (filter p xs)) (filter q (filter p xs))) f)
    by true false e f h = h ∙ ap (λ t. cond t (x ∷ filter q (filter p xs)) (filter q (filter p xs))) f
    by false true e f h = ap (λ t. cond t (x ∷ filter p (filter q xs)) (filter p (filter q xs))) (sym e) ∙ h
    by false false e f h = h

-- a part of what a stable sort leaves is that part, sorted
filtered : (p : Asked → Bool) (xs ys : List Asked) → IsSortedBy before_by_key ys → IsStableBy before_by_key xs ys
    → filter p ys ≡ sorted_by before_by_key [] (filter p xs)
filtered p xs ys up stable =
    stable_sorted before_by_key by_key_order (filter p xs) (filter p ys) (IsSortedBy-filter before_by_key by_key_order p ys up)
    (λ x. filter_swap (ties before_by_key x) p ys ∙ (ap (filter p) (stable x) ∙ filter_swap p (ties before_by_key x) xs))

abbrev pub in_colour : ℕ → Asked → Bool
in_colour colour a = a.colour == colour

-- the members of one colour, in the definitions' words
abbrev pub keyed_from : ℕ × Chosen → Keyed
keyed_from m = record { key = m.1.key; task = m.0 }

abbrev pub is_chosen : ℕ → ℕ × Chosen → Bool
is_chosen colour m = is_colour colour (colour_in m.1.colour)

keyed_chosen : (colour : ℕ) (chosen : List (ℕ × Chosen)) → map keyed_of (filter (in_colour colour) (filter_map asked_in chosen)) ≡ map keyed_from (filter (is_chosen colour) chosen)
keyed_chosen colour [] = refl
keyed_chosen colour (m ∷ more) = by (colour_in m.1.colour) (keyed_chosen colour more)
  where
    some : (c : ℕ) (b : Bool) → map keyed_of (filter (in_colour colour) (filter_map asked_in more)) ≡ map keyed_from (filter (is_chosen colour) more)
        → map keyed_of (cond b (asked_as m c ∷ filter (in_colour colour) (filter_map asked_in more)) (filter (in_colour colour) (filter_map asked_in more)))
        ≡ map keyed_from (cond b (m ∷ filter (is_chosen colour) more) (filter (is_chosen colour) more))
    some c true rest = ap (λ ks. keyed_from m ∷ ks) rest
    some c false rest = rest

    by : (o : Option ℕ) → map keyed_of (filter (in_colour colour) (filter_map asked_in more)) ≡ map keyed_from (filter (is_chosen colour) more)
        → map keyed_of (filter (in_colour colour) (cons_option (option_map (asked_as m) o) (filter_map asked_in more)))
        ≡ map keyed_from (cond (is_colour colour o) (m ∷ filter (is_chosen colour) more) (filter (is_chosen colour) more))
    by None rest = rest
    by (Some c) rest = some c (c == colour) rest

map_task : (xs : List Asked) → map (λ (a : Asked). a.task) xs ≡ map (λ (k : Keyed). k.task) (map keyed_of xs)
map_task [] = refl
map_task (x ∷ xs) = ap (λ ts. x.task ∷ ts) (map_task xs)

-- the tasks of a colour after both sorts
pub sorted_tasks : (chosen : List (ℕ × Chosen)) (keyed sorted : List Asked)
    → IsSortedBy before_by_key keyed → IsStableBy before_by_key (filter_map asked_in chosen) keyed → IsStableBy before_by_colour keyed sorted
    → (colour : ℕ) → tasks_at sorted colour ≡ tasks_of_colour chosen colour
sorted_tasks chosen keyed sorted up stable stable' colour =
    let one : Asked = record { colour = colour; key = pos 0; task = 0 } in
    let of_colour : filter (in_colour colour) sorted ≡ filter (in_colour colour) keyed =
    sym (filter_agree (ties before_by_colour one) (in_colour colour) (λ a. tie_nat colour a.colour) sorted)
    ∙ (stable' one ∙ filter_agree (ties before_by_colour one) (in_colour colour) (λ a. tie_nat colour a.colour) keyed) in
    ap (map (λ (a : Asked). a.task)) (of_colour ∙ filtered (in_colour colour) (filter_map asked_in chosen) keyed up stable)
    ∙ (map_task (sorted_by before_by_key [] (filter (in_colour colour) (filter_map asked_in chosen)))
    ∙ ap (map (λ (k : Keyed). k.task))
    (map_sorted [] (filter (in_colour colour) (filter_map asked_in chosen)) ∙ ap (by_key []) (keyed_chosen colour chosen)))

-- both sorts, in the words of their contracts
pub asked_in_order : (chosen : List (ℕ × Chosen)) (keyed sorted : List Asked)
    → IsPermutation (filter_map asked_in chosen) keyed → IsSortedBy before_by_key keyed → IsStableBy before_by_key (filter_map asked_in chosen) keyed
    → IsPermutation keyed sorted → IsSortedBy before_by_colour sorted → IsStableBy before_by_colour keyed sorted
    → IsAskedOf chosen sorted
asked_in_order chosen keyed sorted moved up stable moved' up' stable' = record {
  sorted = IsNonDecreasingBy-from_sort (λ (a : Asked). a.colour) sorted up';
  moved = IsPermutation-trans (filter_map asked_in chosen) keyed sorted moved moved';
  groups = sorted_tasks chosen keyed sorted up stable stable';
}
