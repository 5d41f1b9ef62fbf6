-- The tables and arrays of a document as lists, and what a core's numbers are.
use Rattle.std.proofs.Common.{◌≡◌, ℕ, ℤ, pos, negsuc, suc, ◌+◌, ◌<◌, ◌≤◌, ◌&&◌, Bool, true, false, cond, eqb, ltb, List, [], ◌∷◌, ◌++◌, length, get_or, drop, map, codes, Option, Some, None, option_map, Err, String, Global, string_bytes, append_assoc, refl, ap, sym, ◌∙◌, arith}
use Rattle.std.specs.List.{list_all}
use Rattle.std.specs.Option.{option_and_then}
use Rattle.std.specs.Map.{keys_of as map_keys}
use Rattle.std.specs.Str.{IsUtf8, is_utf8}
use Rattle.std.proofs.lemmas.Bool.Decides.{nat_tests}
use Rattle.std.proofs.lemmas.List.{append-nil, drop_more, drop_all}
use Rattle.std.proofs.lemmas.Str.{IsUtf8-from_is_utf8}
use Rattle.toml.specs.declared.value.Value.{Value}
use Rattle.toml.specs.Data.{Data, Members, get_member, as_integer, as_table}
use Rattle.toml.specs.View.{view, items_view, members_view}
use Rattle.toml.specs.Parse.{parse_document}
use Rattle.topology.specs.declared.core_numbers.CoreNumbers.{CoreNumbers}
use Rattle.topology.specs.declared.refusals.MachineRefusal.TheVariants.{NoCores, TooManyCores}
use Rattle.topology.specs.Instances.{numbers_fit}
use Rattle.topology.specs.MachineFile.{document_of, keys_of, values_of, is_level_key, byte_of, byte_in, byte_at, four_numbers, numbers_in, numbers_of_core, together, nested_machine, machine_of_tables}

-- a test of each key
pub list_all-keys : (p : List ℕ → Bool) (entries : List (String Global × Value)) → list_all (λ key. p (string_bytes key)) (map_keys entries) ≡ list_all p (keys_of (members_view entries))
list_all-keys p [] = refl
list_all-keys p (e ∷ es) = ap (λ b. p (string_bytes e.0) && b) (list_all-keys p es)

-- the values of an array
pub values-view : (values : List Value) → values_of (items_view values) ≡ map view values
values-view [] = refl
values-view (v ∷ vs) = ap (λ ds. view v ∷ ds) (values-view vs)

pub list_all-values : (p : Data → Bool) (values : List Value) → list_all (λ v. p (view v)) values ≡ list_all p (values_of (items_view values))
list_all-values p [] = refl
list_all-values p (v ∷ vs) = ap (λ b. p (view v) && b) (list_all-values p vs)

none_if : (bytes : List ℕ) (b : Bool) → is_utf8 bytes ≡ b → (IsUtf8 bytes → parse_document bytes ≡ None) → document_of bytes ≡ None
none_if bytes true e none = rw e (none (IsUtf8-from_is_utf8 bytes e))
none_if bytes false e none = rw e refl

-- bytes that are no UTF-8, or no document
pub document_none : (bytes : List ℕ) → (IsUtf8 bytes → parse_document bytes ≡ None) → document_of bytes ≡ None
document_none bytes none = none_if bytes (is_utf8 bytes) refl none

-- ---- the numbers of all cores

-- the numbers of a core as its value stands in the program
abbrev pub numbers_seen : Value → Option CoreNumbers
numbers_seen value = numbers_of_core (view value)

joined : (xs : List CoreNumbers) (n : CoreNumbers) (more : Option (List CoreNumbers)) → option_map (λ ms. xs ++ ms) (option_map (λ ms. n ∷ ms) more) ≡ option_map (λ ms. (xs ++ n ∷ []) ++ ms) more
joined xs n None = refl
joined xs n (Some ms) = ap Some (sym (append_assoc xs (n ∷ []) ms))

-- the numbers of one core more
pub together_more : (f : Value → Option CoreNumbers) (all : List Value) (i : ℕ) (xs : List CoreNumbers) (v : Value) (n : CoreNumbers)
    → together (map f all) ≡ option_map (λ ms. xs ++ ms) (together (map f (drop i all)))
    → i < length all → v ≡ get_or all i v → f v ≡ Some n
    → together (map f all) ≡ option_map (λ ms. (xs ++ n ∷ []) ++ ms) (together (map f (drop (i + 1) all)))
together_more f all i xs v n before below here found =
    before
    ∙ ap (λ vs. option_map (λ ms. xs ++ ms) (together (map f vs))) (drop_more all i v below)
    ∙ ap (λ w. option_map (λ ms. xs ++ ms) (option_and_then (λ m. option_map (λ ms. m ∷ ms) (together (map f (drop (i + 1) all)))) (f w))) (sym here)
    ∙ ap (λ o. option_map (λ ms. xs ++ ms) (option_and_then (λ m. option_map (λ ms. m ∷ ms) (together (map f (drop (i + 1) all)))) o)) found
    ∙ joined xs n (together (map f (drop (i + 1) all)))

-- a core without its numbers
pub together_none : (f : Value → Option CoreNumbers) (all : List Value) (i : ℕ) (xs : List CoreNumbers) (v : Value)
    → together (map f all) ≡ option_map (λ ms. xs ++ ms) (together (map f (drop i all)))
    → i < length all → v ≡ get_or all i v → f v ≡ None
    → together (map f all) ≡ None
together_none f all i xs v before below here found =
    before
    ∙ ap (λ vs. option_map (λ ms. xs ++ ms) (together (map f vs))) (drop_more all i v below)
    ∙ ap (λ w. option_map (λ ms. xs ++ ms) (option_and_then (λ m. option_map (λ ms. m ∷ ms) (together (map f (drop (i + 1) all)))) (f w))) (sym here)
    ∙ ap (λ o. option_map (λ ms. xs ++ ms) (option_and_then (λ m. option_map (λ ms. m ∷ ms) (together (map f (drop (i + 1) all)))) o)) found

-- the end of the list
pub together_all : (f : Value → Option CoreNumbers) (all : List Value) (i : ℕ) (xs : List CoreNumbers)
    → together (map f all) ≡ option_map (λ ms. xs ++ ms) (together (map f (drop i all)))
    → length all ≤ i → together (map f all) ≡ Some xs
together_all f all i xs before past =
    before ∙ ap (λ vs. option_map (λ ms. xs ++ ms) (together (map f vs))) (drop_all i all past) ∙ ap Some (append-nil xs)

pub cores-view : (values : List Value) → map numbers_of_core (values_of (items_view values)) ≡ map (λ v. numbers_of_core (view v)) values
cores-view [] = refl
cores-view (v ∷ vs) = ap (λ os. numbers_of_core (view v) ∷ os) (cores-view vs)

pub length-values : (values : List Value) → length (values_of (items_view values)) ≡ length values
length-values [] = refl
length-values (v ∷ vs) = ap suc (length-values vs)

-- ---- what the numbers of a core are

none_not_some : {X Z : Type 0} {x : X} → None ≡ Some x → Z
none_not_some e = cc

and_then_some : {X Y : Type 0} (f : X → Option Y) (o : Option X) (y : Y) → option_and_then f o ≡ Some y → (x : X) × (o ≡ Some x) × (f x ≡ Some y)
and_then_some f None y e = none_not_some e
and_then_some f (Some x) y e = (x, refl, e)

cond_some : (b : Bool) (n m : ℕ) → cond b (Some n) None ≡ Some m → (b ≡ true) × (n ≡ m)
cond_some true n m e = (refl, same_Some_back n m e)
  where
    same_Some_back : (n m : ℕ) → Some n ≡ Some m → n ≡ m
    same_Some_back n m e = cc
cond_some false n m e = none_not_some e

byte_of_fits : (z : ℤ) (n : ℕ) → byte_of z ≡ Some n → ltb n 256 ≡ true
byte_of_fits (pos m) n e =
    let (fits, same) = cond_some (ltb m 256) m n e in
    rw (← same) fits
byte_of_fits (negsuc m) n e = none_not_some e

-- the four numbers of a core, where all are there
abbrev Four : Option ℕ → Option ℕ → Option ℕ → Option ℕ → CoreNumbers → Type 0
Four a b c d r = (a ≡ Some r.numa) × (b ≡ Some r.l3) × (c ≡ Some r.l2) × (d ≡ Some r.l1)

all_four : (a b c d : Option ℕ) (r : CoreNumbers) → four_numbers a b c d ≡ Some r → Four a b c d r
all_four None b c d r e = none_not_some e
all_four (Some a) None c d r e = none_not_some e
all_four (Some a) (Some b) None d r e = none_not_some e
all_four (Some a) (Some b) (Some c) None r e = none_not_some e
all_four (Some a) (Some b) (Some c) (Some d) r e =
    let same : record { numa = a; l3 = b; l2 = c; l1 = d } ≡ r = cc in
    (ap (λ (r : CoreNumbers). Some r.numa) same, ap (λ (r : CoreNumbers). Some r.l3) same, ap (λ (r : CoreNumbers). Some r.l2) same, ap (λ (r : CoreNumbers). Some r.l1) same)

at_fits : (key : List ℕ) (fields : Members) (n : ℕ) → byte_at key fields ≡ Some n → ltb n 256 ≡ true
at_fits key fields n e =
    let (value, there, seen) = and_then_some byte_in (get_member key fields) n e in
    let (z, int, fits) = and_then_some byte_of (as_integer value) n seen in
    byte_of_fits z n fits

four_fits : (fields : Members) (r : CoreNumbers) (b : Bool)
    → cond b (four_numbers (byte_at (codes "numa") fields) (byte_at (codes "l3") fields) (byte_at (codes "l2") fields) (byte_at (codes "l1") fields)) None ≡ Some r
    → numbers_fit r ≡ true
four_fits fields r false e = none_not_some e
four_fits fields r true e =
    let (numa, l3, l2, l1) = all_four _ _ _ _ r e in
    rw (at_fits (codes "numa") fields r.numa numa, at_fits (codes "l3") fields r.l3 l3, at_fits (codes "l2") fields r.l2 l2, at_fits (codes "l1") fields r.l1 l1) refl

pub core_fits : (value : Data) (r : CoreNumbers) → numbers_of_core value ≡ Some r → numbers_fit r ≡ true
core_fits value r e =
    let (fields, is, found) = and_then_some numbers_in (as_table value) r e in
    fields_fit fields found
  where
    fields_fit : (fields : Members) → numbers_in fields ≡ Some r → numbers_fit r ≡ true
    fields_fit fields found = four_fits fields r (list_all is_level_key (keys_of fields)) found

-- as many cores as values, and all their numbers fit
abbrev pub Fit : ℕ → List CoreNumbers → Type 0
Fit n cores = (length cores ≡ n) × (list_all numbers_fit cores ≡ true)

more_fit : (v : Data) (n : CoreNumbers) (count : ℕ) (o : Option (List CoreNumbers)) (cores : List CoreNumbers)
    → numbers_of_core v ≡ Some n → ((ms : List CoreNumbers) → o ≡ Some ms → Fit count ms) → option_map (λ ms. n ∷ ms) o ≡ Some cores → Fit (suc count) cores
more_fit v n count None cores here ih rest = none_not_some rest
more_fit v n count (Some ms) cores here ih rest =
    let same : n ∷ ms ≡ cores = cc in
    let (long, fits) = ih ms refl in
    (ap length (sym same) ∙ ap suc long, ap (list_all numbers_fit) (sym same) ∙ rw (core_fits v n here) fits)

pub together_fits : (values : List Data) (cores : List CoreNumbers) → together (map numbers_of_core values) ≡ Some cores → Fit (length values) cores
together_fits [] cores e = let same : [] ≡ cores = cc in (ap length (sym same), ap (list_all numbers_fit) (sym same))
together_fits (v ∷ vs) cores e =
    let (n, here, rest) = and_then_some (λ m. option_map (λ ms. m ∷ ms) (together (map numbers_of_core vs))) (numbers_of_core v) cores e in
    more_fit v n (length vs) (together (map numbers_of_core vs)) cores here (λ ms is. together_fits vs ms is) rest

-- ---- the machine of some tables, by how many they are

pub no_cores : (values : List Value) → length values ≡ 0 → machine_of_tables (Some (values_of (items_view values))) ≡ Err NoCores
no_cores [] none = refl
no_cores (v ∷ vs) none = absurd (omega arith)

pub too_many : (values : List Value) → 256 < length values → machine_of_tables (Some (values_of (items_view values))) ≡ Err TooManyCores
too_many values many = by_count (values_of (items_view values)) (rw (length-values values) many)
  where
    by_count : (tables : List Data) → 256 < length tables → machine_of_tables (Some tables) ≡ Err TooManyCores
    by_count tables many =
        let some : eqb (length tables) 0 ≡ false = grind (arith, nat_tests) in
        let above : ltb 256 (length tables) ≡ true = grind (arith, nat_tests) in
        rw (some, above) refl

pub some_cores : (values : List Value) → 0 < length values → length values ≤ 256
    → machine_of_tables (Some (values_of (items_view values))) ≡ nested_machine (together (map numbers_of_core (values_of (items_view values))))
some_cores values some few = by_count (values_of (items_view values)) (rw (length-values values) some) (rw (length-values values) few)
  where
    by_count : (tables : List Data) → 0 < length tables → length tables ≤ 256 → machine_of_tables (Some tables) ≡ nested_machine (together (map numbers_of_core tables))
    by_count tables some few =
        let there : eqb (length tables) 0 ≡ false = grind (arith, nat_tests) in
        let within : ltb 256 (length tables) ≡ false = grind (arith, nat_tests) in
        rw (there, within) refl
