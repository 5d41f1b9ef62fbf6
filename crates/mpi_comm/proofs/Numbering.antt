-- The numbers that the members of a split get, and the communicators that it makes, are the definitions'.
use Rattle.std.proofs.Common.{◌≡◌, ◌≢◌, ◌⊎◌, inl, inr, ℕ, ℤ, ◌+◌, ◌≤◌, ◌<◌, zero, suc, Bool, true, false, cond, not, ◌&&◌, ◌||◌, ◌==◌, List, [], ◌∷◌, length, map, get_or, refl, sym, ap, ◌∙◌, arith}
use Rattle.std.specs.Prelude.{Option, Some, None, Result, Ok, Err, MatchResult, AllPairs, filter_map, zip, position, nat_lt, nat_eq}
use Rattle.std.specs.List.{AllByRecursion, list_any, cons_option, dedup, prefix_len, position_or_len}
use Rattle.std.specs.List.Sorted.{IsBinarySearchResult}
use Rattle.std.specs.Option.{option_map}
use Rattle.std.specs.Ordering.{nat_cmp}
use Rattle.std.proofs.lemmas.Bool.Decides.{eqb_tells, leb_tells, Decides-eqb, Decides-ltb}
use Rattle.std.proofs.lemmas.List.{length-map}
use Rattle.std.proofs.lemmas.List.Elements.{All-map, All-from_recursion, recursion_from_All}
use Rattle.std.proofs.lemmas.List.Kept.{AllPairs-cons}
use Rattle.std.proofs.lemmas.List.Sorted.{list_any-IsPermutation, searched}
use Rattle.std.proofs.lemmas.List.Sums.{position_or_len_is}
use Rattle.mpi_comm.specs.declared.communicators.Seen.{Seen}
use Rattle.mpi_comm.specs.declared.splitting.Asked.{Asked}
use Rattle.mpi_comm.specs.Splitting.{Chosen, colour_in, is_colour, rising, tasks_of_colour, groups_of}
use Rattle.mpi_comm.specs.Numbers.{chosen_of, number_from, number_in, numbers_in}
use Rattle.mpi_comm.specs.Seen.{IsGroup, AreGroups, made_of}
use Rattle.mpi_comm.specs.Asked.{asked_as, asked_in, asked_by, tasks_at, number_at, AreByColour, IsAskedOf}
use Rattle.mpi_comm.proofs.Colours.{Rises, Climbs, has, dedup_rising, rises_dedup, test_other}
use Rattle.mpi_comm.proofs.Groups.{Only, any_filter, any_asked, differ_zip, only_one, group_at_colour}

-- positions
abbrev position_of : ℕ → ℕ → Option ℕ
position_of n len = cond (nat_lt n len) (Some n) None

prefix_map : {X Y : Type 0} (p : Y → Bool) (f : X → Y) (xs : List X) → prefix_len p (map f xs) ≡ prefix_len (λ x. p (f x)) xs
prefix_map p f [] = refl
prefix_map p f (x ∷ xs) = ap (λ n. cond (p (f x)) (1 + n) 0) (prefix_map p f xs)

prefix_agree : {X : Type 0} (p q : X → Bool) → ((x : X) → p x ≡ q x) → (xs : List X) → prefix_len p xs ≡ prefix_len q xs
prefix_agree p q h [] = refl
prefix_agree p q h (x ∷ xs) = ap (λ b. cond b (1 + prefix_len p xs) 0) (h x) ∙ ap (λ n. cond (q x) (1 + n) 0) (prefix_agree p q h xs)

position_map : {X Y : Type 0} (p : Y → Bool) (f : X → Y) (xs : List X) → position p (map f xs) ≡ position (λ x. p (f x)) xs
position_map p f xs =
    ap (λ n. position_of n (length (map f xs))) (prefix_map (λ y. not (p y)) f xs)
    ∙ ap (position_of (prefix_len (λ x. not (p (f x))) xs)) (length-map xs f)

position_agree : {X : Type 0} (p q : X → Bool) → ((x : X) → p x ≡ q x) → (xs : List X) → position p xs ≡ position q xs
position_agree p q h xs = ap (λ n. position_of n (length xs)) (prefix_agree (λ x. not (p x)) (λ x. not (q x)) (λ x. ap not (h x)) xs)

-- lists of two sides
firsts : {Z : Type 0} (f : ℕ → Z) (xs : List ℕ) (ys : List Chosen) → length ys ≡ length xs → map f xs ≡ map (λ (m : ℕ × Chosen). f m.0) (zip xs ys)
firsts f [] ys h = refl
firsts f (x ∷ xs) [] h = absurd (omega (arith, h))
firsts f (x ∷ xs) (y ∷ ys) h = ap (λ zs. f x ∷ zs) (firsts f xs ys (omega (arith, h)))

seconds : {Z : Type 0} (g : Chosen → Z) (xs : List ℕ) (ys : List Chosen) → length ys ≡ length xs → map (λ (m : ℕ × Chosen). g m.1) (zip xs ys) ≡ map g ys
seconds g [] [] h = refl
seconds g [] (y ∷ ys) h = absurd (omega (arith, h))
seconds g (x ∷ xs) [] h = refl
seconds g (x ∷ xs) (y ∷ ys) h = ap (λ zs. g y ∷ zs) (seconds g xs ys (omega (arith, h)))

seconds_filter : (g : Chosen → Option ℕ) (xs : List ℕ) (ys : List Chosen) → length ys ≡ length xs → filter_map (λ (m : ℕ × Chosen). g m.1) (zip xs ys) ≡ filter_map g ys
seconds_filter g [] [] h = refl
seconds_filter g [] (y ∷ ys) h = absurd (omega (arith, h))
seconds_filter g (x ∷ xs) [] h = refl
seconds_filter g (x ∷ xs) (y ∷ ys) h = ap (cons_option (g y)) (seconds_filter g xs ys (omega (arith, h)))

chosen_colours : {Z : Type 0} (h : ℤ → Z) (colours keys : List ℤ) → length keys ≡ length colours → map (λ (c : Chosen). h c.colour) (chosen_of colours keys) ≡ map h colours
chosen_colours h [] keys e = refl
chosen_colours h (c ∷ cs) [] e = absurd (omega (arith, e))
chosen_colours h (c ∷ cs) (k ∷ ks) e = ap (λ zs. h c ∷ zs) (chosen_colours h cs ks (omega (arith, e)))

pub length_chosen : (colours keys : List ℤ) → length keys ≡ length colours → length (chosen_of colours keys) ≡ length colours
length_chosen [] keys e = refl
length_chosen (c ∷ cs) [] e = absurd (omega (arith, e))
length_chosen (c ∷ cs) (k ∷ ks) e = omega (arith, length_chosen cs ks (omega (arith, e)))

map_agree : {X Y : Type 0} (f g : X → Y) → ((x : X) → f x ≡ g x) → (xs : List X) → map f xs ≡ map g xs
map_agree f g h [] = refl
map_agree f g h (x ∷ xs) = ap (λ y. y ∷ map f xs) (h x) ∙ ap (λ ys. g x ∷ ys) (map_agree f g h xs)

-- three lists side by side
pub zipped : (members : List ℕ) (colours keys : List ℤ) → filter_map asked_by (zip (zip members colours) keys) ≡ filter_map asked_in (zip members (chosen_of colours keys))
zipped [] colours keys = refl
zipped (m ∷ ms) [] keys = refl
zipped (m ∷ ms) (c ∷ cs) [] = refl
zipped (m ∷ ms) (c ∷ cs) (k ∷ ks) = ap (cons_option (asked_by ((m, c), k))) (zipped ms cs ks)

-- the colours that are asked for
any_map : (q : ℕ) (xs : List Asked) → has (map (λ (a : Asked). a.colour) xs) q ≡ list_any (λ (a : Asked). a.colour == q) xs
any_map q [] = refl
any_map q (x ∷ xs) = ap (λ r. (x.colour == q) || r) (any_map q xs)

any_colour : (q : ℕ) (ms : List (ℕ × Chosen)) → list_any (λ (a : Asked). a.colour == q) (filter_map asked_in ms) ≡ has (filter_map (λ (m : ℕ × Chosen). colour_in m.1.colour) ms) q
any_colour q [] = refl
any_colour q (m ∷ ms) = by (colour_in m.1.colour) (any_colour q ms)
  where
    by : (o : Option ℕ) → list_any (λ (a : Asked). a.colour == q) (filter_map asked_in ms) ≡ has (filter_map (λ (n : ℕ × Chosen). colour_in n.1.colour) ms) q
        → list_any (λ (a : Asked). a.colour == q) (cons_option (option_map (asked_as m) o) (filter_map asked_in ms))
        ≡ has (cons_option o (filter_map (λ (n : ℕ × Chosen). colour_in n.1.colour) ms)) q
    by None rest = rest
    by (Some c) rest = ap (λ r. (c == q) || r) rest

all_colours : (n : ℕ) (xs : List Asked) → AllByRecursion (λ (a : Asked). n ≤ a.colour) xs → AllByRecursion (λ c. n ≤ c) (map (λ (a : Asked). a.colour) xs)
all_colours n [] h = tt
all_colours n (x ∷ xs) h = (h.0, all_colours n xs h.1)

pub climbs_asked : (xs : List Asked) → AreByColour xs → Climbs (map (λ (a : Asked). a.colour) xs)
climbs_asked [] far = tt
climbs_asked (x ∷ xs) far = (
  all_colours x.colour xs (recursion_from_All (λ (a : Asked). x.colour ≤ a.colour) xs (λ k d h. far zero (suc k) d (omega arith) (omega arith))),
  climbs_asked xs (λ i j d le h. far (suc i) (suc j) d (omega arith) (omega arith)),
)

pairs_rise : (xs : List ℕ) → Rises xs → AllPairs (λ a b. a < b) xs
pairs_rise [] h = λ i j d less within. absurd (omega arith)
pairs_rise (x ∷ xs) h = AllPairs-cons (λ a b. a < b) x xs (All-from_recursion (λ y. x < y) xs h.0) (pairs_rise xs h.1)

-- the colours of a list by rising colour rise
pub colours_rise : (xs : List Asked) → AreByColour xs → AllPairs (λ a b. a < b) (dedup nat_eq (map (λ (a : Asked). a.colour) xs))
colours_rise xs h = pairs_rise (dedup nat_eq (map (λ (a : Asked). a.colour) xs)) (rises_dedup (map (λ (a : Asked). a.colour) xs) (climbs_asked xs h))

module _ (members : List ℕ) (colours keys : List ℤ) (asked : List Asked)
    (as_colours : length colours ≡ length members) (as_keys : length keys ≡ length members)
    (is : IsAskedOf (zip members (chosen_of colours keys)) asked) where
  as_chosen : length (chosen_of colours keys) ≡ length members
  as_chosen = length_chosen colours keys (as_keys ∙ sym as_colours) ∙ as_colours

  pub colours_are : dedup nat_eq (map (λ (a : Asked). a.colour) asked) ≡ rising (filter_map (λ (c : Chosen). colour_in c.colour) (chosen_of colours keys))
  colours_are =
      dedup_rising (map (λ (a : Asked). a.colour) asked) (filter_map (λ (c : Chosen). colour_in c.colour) (chosen_of colours keys)) (climbs_asked asked is.sorted)
      (λ q. any_map q asked
      ∙ (sym (list_any-IsPermutation (λ (a : Asked). a.colour == q) (filter_map asked_in (zip members (chosen_of colours keys))) asked is.moved)
      ∙ (any_colour q (zip members (chosen_of colours keys))
      ∙ ap (λ cs. has cs q) (seconds_filter (λ (c : Chosen). colour_in c.colour) members (chosen_of colours keys) as_chosen))))

  pub groups_are : map (tasks_at asked) (dedup nat_eq (map (λ (a : Asked). a.colour) asked)) ≡ groups_of members (chosen_of colours keys)
  groups_are =
      map_agree (tasks_at asked) (tasks_of_colour (zip members (chosen_of colours keys))) is.groups (dedup nat_eq (map (λ (a : Asked). a.colour) asked))
      ∙ ap (map (tasks_of_colour (zip members (chosen_of colours keys)))) colours_are

  -- each member is in the group of its colour alone
  abbrev IsFound : ℕ × Chosen → Type 0
  IsFound m = (colour : ℕ) → list_any (λ member. member == m.0) (tasks_at asked colour) ≡ is_colour colour (colour_in m.1.colour)

  found_at : (colour : ℕ) (m : ℕ × Chosen) → Only (λ (n : ℕ × Chosen). is_colour colour (colour_in n.1.colour)) (zip members (chosen_of colours keys)) m
      → list_any (λ member. member == m.0) (tasks_at asked colour) ≡ is_colour colour (colour_in m.1.colour)
  found_at colour m only =
      any_filter (λ member. member == m.0) (λ (a : Asked). a.colour == colour) asked
      ∙ (sym (list_any-IsPermutation (λ (a : Asked). (a.colour == colour) && (a.task == m.0)) (filter_map asked_in (zip members (chosen_of colours keys))) asked is.moved)
      ∙ (any_asked colour m.0 (zip members (chosen_of colours keys)) ∙ only))

  all_found : (ms : List (ℕ × Chosen)) → ((colour : ℕ) → AllByRecursion (Only (λ (n : ℕ × Chosen). is_colour colour (colour_in n.1.colour)) (zip members (chosen_of colours keys))) ms) → AllByRecursion IsFound ms
  all_found [] h = tt
  all_found (m ∷ ms) h = (λ colour. found_at colour m (h colour).0, all_found ms (λ colour. (h colour).1))

  number_same : (first : ℕ) (groups : List ℕ) (m : ℕ × Chosen) → IsFound m → number_in first (map (tasks_at asked) groups) m.0 ≡ number_at first groups (colour_in m.1.colour)
  number_same first groups m found =
      ap (number_from first)
      (position_map (λ group. list_any (λ member. member == m.0) group) (tasks_at asked) groups
      ∙ position_agree (λ colour. list_any (λ member. member == m.0) (tasks_at asked colour)) (λ colour. is_colour colour (colour_in m.1.colour)) found groups)

  numbers_same : (first : ℕ) (groups : List ℕ) (ms : List (ℕ × Chosen)) → AllByRecursion IsFound ms
      → map (λ (m : ℕ × Chosen). number_in first (map (tasks_at asked) groups) m.0) ms ≡ map (λ (m : ℕ × Chosen). number_at first groups (colour_in m.1.colour)) ms
  numbers_same first groups [] h = refl
  numbers_same first groups (m ∷ ms) h =
      ap (λ n. n ∷ map (λ (k : ℕ × Chosen). number_in first (map (tasks_at asked) groups) k.0) ms) (number_same first groups m h.0)
      ∙ ap (λ ns. number_at first groups (colour_in m.1.colour) ∷ ns) (numbers_same first groups ms h.1)

  pub numbers_are : (first : ℕ) → IsGroup members
      → map (λ colour. number_at first (dedup nat_eq (map (λ (a : Asked). a.colour) asked)) (colour_in colour)) colours ≡ numbers_in first (groups_of members (chosen_of colours keys)) members
  numbers_are first group =
      let groups = dedup nat_eq (map (λ (a : Asked). a.colour) asked) in
      sym (chosen_colours (λ colour. number_at first groups (colour_in colour)) colours keys (as_keys ∙ sym as_colours))
      ∙ (sym (seconds (λ (c : Chosen). number_at first groups (colour_in c.colour)) members (chosen_of colours keys) as_chosen)
      ∙ (sym (numbers_same first groups (zip members (chosen_of colours keys))
      (all_found (zip members (chosen_of colours keys))
      (λ colour. only_one (λ (n : ℕ × Chosen). is_colour colour (colour_in n.1.colour)) (zip members (chosen_of colours keys)) (differ_zip members (chosen_of colours keys) group.once))))
      ∙ (sym (firsts (number_in first (map (tasks_at asked) groups)) members (chosen_of colours keys) as_chosen)
      ∙ ap (λ gs. numbers_in first gs members) groups_are)))

  pub made_groups : (groups : List ℕ) → IsGroup members → AreGroups (map (λ colour. made_of (tasks_at asked colour)) groups)
  made_groups groups group =
      All-map (λ (one : Seen). IsGroup one.members) (λ colour. made_of (tasks_at asked colour)) groups
      (λ k d h. group_at_colour members (chosen_of colours keys) asked group is.moved (get_or groups k d))

map_made : (asked : List Asked) (groups : List ℕ) → map (λ colour. made_of (tasks_at asked colour)) groups ≡ map made_of (map (tasks_at asked) groups)
map_made asked [] = refl
map_made asked (g ∷ gs) = ap (λ ms. made_of (tasks_at asked g) ∷ ms) (map_made asked gs)

-- the communicators that the code makes
pub made_are : (members : List ℕ) (colours keys : List ℤ) (asked : List Asked) → length colours ≡ length members → length keys ≡ length members
    → IsAskedOf (zip members (chosen_of colours keys)) asked
    → map (λ colour. made_of (tasks_at asked colour)) (dedup nat_eq (map (λ (a : Asked). a.colour) asked)) ≡ map made_of (groups_of members (chosen_of colours keys))
made_are members colours keys asked as_colours as_keys is =
    map_made asked (dedup nat_eq (map (λ (a : Asked). a.colour) asked)) ∙ ap (map made_of) (groups_are members colours keys asked as_colours as_keys is)

-- what a binary search says of the number
less_apart : (a b : ℕ) → a < b → (b == a) ≡ false
less_apart a b h = test_other b a (λ e. absurd (omega arith))

more_apart : (a b : ℕ) → a < b → (a == b) ≡ false
more_apart a b h = test_other a b (λ e. absurd (omega arith))

same_number : (a b : ℕ) → a ≡ b → (b == a) ≡ true
same_number a b h = (Decides-eqb b a).1 (sym h)

within_yes : (i n : ℕ) → i < n → nat_lt i n ≡ true
within_yes i n h = (Decides-ltb i n).1 h

itself_no : (n : ℕ) → nat_lt n n ≡ false
itself_no n = by (leb_tells (suc n) n)
  where
    by : ((nat_lt n n ≡ true) × (suc n ≤ n)) ⊎ ((nat_lt n n ≡ false) × (n < suc n)) → nat_lt n n ≡ false
    by (inl less) = let wrong : suc n ≤ n = less.1 in absurd (omega arith)
    by (inr least) = least.0

not_falling : (xs : List ℕ) → AllPairs (λ a b. a < b) xs → (i j : ℕ) → i ≤ j → j < length xs → get_or xs i 0 ≤ get_or xs j 0
not_falling xs up i j le within = by (eqb_tells i j)
  where
    by : ((i == j) ≡ true) × (i ≡ j) ⊎ ((i == j) ≡ false) × (i ≢ j) → get_or xs i 0 ≤ get_or xs j 0
    by (inl is) = let e : get_or xs i 0 ≡ get_or xs j 0 = ap (λ k. get_or xs k 0) is.1 in omega (arith, e)
    by (inr not_) =
        let apart : i ≢ j = not_.1 in
        let less : get_or xs i 0 < get_or xs j 0 = up i j 0 (omega arith) within in omega (arith, less)

number_by : (first : ℕ) (groups : List ℕ) (colour i : ℕ) → position_or_len (λ other. is_colour other (Some colour)) groups ≡ i → i < length groups → first + i ≡ number_at first groups (Some colour)
number_by first groups colour i at within =
    sym (ap (λ n. number_from first (position_of n (length groups))) at ∙ ap (λ b. number_from first (cond b (Some i) None)) (within_yes i (length groups) within))

number_none : (first : ℕ) (groups : List ℕ) (colour : ℕ) → position_or_len (λ other. is_colour other (Some colour)) groups ≡ length groups → 0 ≡ number_at first groups (Some colour)
number_none first groups colour at =
    sym (ap (λ n. number_from first (position_of n (length groups))) at ∙ ap (λ b. number_from first (cond b (Some (length groups)) None)) (itself_no (length groups)))

pub number_searched : (first : ℕ) (groups : List ℕ) (colour : ℕ) (r : Result ℕ ℕ) → AllPairs (λ a b. a < b) groups → IsBinarySearchResult (λ y. nat_cmp y colour) groups r
    → MatchResult r (λ i. (i < length groups) × (first + i ≡ number_at first groups (Some colour))) (λ _. 0 ≡ number_at first groups (Some colour))
number_searched first groups colour (Ok i) up is =
    let found = searched groups colour (Ok i) is (not_falling groups up) in (
      found.0,
      number_by first groups colour i (position_or_len_is (λ other. is_colour other (Some colour)) groups i 0 (omega (arith, found.0))
          (λ k h. less_apart (get_or groups k 0) colour (let less : get_or groups k 0 < get_or groups i 0 = up k i 0 h found.0 in omega (arith, less, found.1)))
          (λ _. same_number (get_or groups i 0) colour found.1)) found.0,
    )
number_searched first groups colour (Err i) up is =
    let found = searched groups colour (Err i) is (not_falling groups up) in
    number_none first groups colour (position_or_len_is (λ other. is_colour other (Some colour)) groups (length groups) 0 (omega arith)
    (λ k h. apart k h found)
    (λ past. absurd (omega (arith, past))))
  where
    apart : (k : ℕ) → k < length groups → (i ≤ length groups) × ((k' : ℕ) → k' < i → get_or groups k' 0 < colour) × ((k' : ℕ) → i ≤ k' → k' < length groups → colour < get_or groups k' 0) → (colour == get_or groups k 0) ≡ false
    apart k h found = by (leb_tells (suc k) i)
      where
        by : ((nat_lt k i ≡ true) × (suc k ≤ i)) ⊎ ((nat_lt k i ≡ false) × (i < suc k)) → (colour == get_or groups k 0) ≡ false
        by (inl before) = let less : suc k ≤ i = before.1 in less_apart (get_or groups k 0) colour (found.1 k (omega arith))
        by (inr after) = let more : i < suc k = after.1 in more_apart colour (get_or groups k 0) (found.2 k (omega arith) h)

-- no colour has no number
none_position : (colours : List ℕ) → position_or_len (λ colour. is_colour colour None) colours ≡ length colours
none_position [] = refl
none_position (c ∷ cs) = let rest : position_or_len (λ colour. is_colour colour None) cs ≡ length cs = none_position cs in omega (arith, rest)

pub number_of_none : (first : ℕ) (groups : List ℕ) → 0 ≡ number_at first groups None
number_of_none first groups =
    sym (ap (λ n. number_from first (position_of n (length groups))) (none_position groups) ∙ ap (λ b. number_from first (cond b (Some (length groups)) None)) (itself_no (length groups)))
