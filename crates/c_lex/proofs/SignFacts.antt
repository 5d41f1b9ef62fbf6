-- The sign that is found at the front is the longest one that stands there.
use Rattle.std.proofs.Common.{◌≡◌, ℕ, ◌≤◌, Bool, true, false, cond, not, ◌&&◌, ◌||◌, nat_eq, nat_le, eqb, List, [], ◌∷◌, ◌++◌, map, length, take, drop, refl, sym, ap, ◌∙◌, subst, arith, Option, Some, None}
use Rattle.std.specs.List.{list_all, list_any, starts_with}
use Rattle.std.specs.Str.{bytes_eq}
use Rattle.std.proofs.lemmas.Bool.Decides.{nat_tests, Decides-eqb}
use Rattle.std.proofs.lemmas.List.{take_at}
use Rattle.std.proofs.lemmas.Slice.Eq.{bytes_eq-Decides, starts_is}
use Rattle.c_lex.specs.declared.signs.Sign.{Sign}
use Rattle.c_lex.specs.declared.signs.Sign.TheVariants as sign
use Rattle.c_lex.specs.Bytes.{is_gap, is_letter, is_digit}
use Rattle.c_lex.specs.Spellings.{sign_spelling}
use Rattle.c_lex.specs.Lexed.{IsLongestSign}
use Rattle.c_lex.specs.Lookups.{all_signs, sign_row, first_sign, sign_at}
use Rattle.c_lex.specs.Front.{starts}
use Rattle.c_lex.proofs.Runs.{bool_cases}

-- what no sign begins with
abbrev pub is_clear : ℕ → Bool
is_clear c = not (nat_eq c 10) && not (is_gap c) && not (is_letter c) && not (is_digit c) && not (nat_eq c 34) && not (nat_eq c 35)

or_cases : (a b : Bool) (P : Type 0) → (a || b) ≡ true → (a ≡ true → P) → (b ≡ true → P) → P
or_cases true b P e f g = f refl
or_cases false b P e f g = g e

pub and_parts : (a b : Bool) → (a && b) ≡ true → (a ≡ true) × (b ≡ true)
and_parts true b e = (refl, e)
and_parts false b e = cc

abbrev size : Sign → ℕ
size s = length (sign_spelling s)

-- ---- what holds of each sign

spelling_clear : (s : Sign) → starts is_clear (sign_spelling s) ≡ true
unfolding sign_spelling
spelling_clear sign.Plus = refl
spelling_clear s = refl

-- each sign is found at the front of its spelling
sign_found_whole : (s : Sign) → sign_at (sign_spelling s) ≡ Some (s, size s)
unfolding sign_at sign_spelling
sign_found_whole sign.Plus = refl
sign_found_whole s = refl

abbrev is_listed : List Sign → Sign → Bool
is_listed signs t = list_any (λ s. bytes_eq (sign_spelling s) (sign_spelling t)) signs

all_listed : (t : Sign) → is_listed all_signs t ≡ true
unfolding sign_spelling
all_listed sign.Plus = refl
all_listed t = refl

abbrev at_most : ℕ → List Sign → Bool
at_most n signs = list_all (λ s. nat_le (size s) n) signs

-- no sign is longer than one before it
abbrev falls : List Sign → Bool
falls [] = true
falls (s ∷ signs) = at_most (size s) signs && falls signs

all_fall : falls all_signs ≡ true
unfolding sign_spelling
all_fall = refl

pub sign_clear : (s : Sign) (c : ℕ) (cs : List ℕ) → c ∷ cs ≡ sign_spelling s → is_clear c ≡ true
sign_clear s c cs e = subst (λ l. starts is_clear l ≡ true) (sym e) (spelling_clear s)

pub sign_some : (s : Sign) → [] ≡ sign_spelling s → ⊥
sign_some s e = let z : false ≡ true = subst (λ l. starts is_clear l ≡ true) (sym e) (spelling_clear s) in cc

same_sign : (s t : Sign) → sign_spelling s ≡ sign_spelling t → s ≡ t
same_sign s t e = let z : ◌≡◌ {A = Option (Sign × ℕ)} (Some (s, size s)) (Some (t, size t)) = sym (sign_found_whole s) ∙ (ap sign_at e ∙ sign_found_whole t) in first_of s t (size s) (size t) z
  where
    first_of : (s t : Sign) (m n : ℕ) → ◌≡◌ {A = Option (Sign × ℕ)} (Some (s, m)) (Some (t, n)) → s ≡ t
    first_of s t m n z = let q : ◌≡◌ {A = Sign × ℕ} (s, m) (t, n) = cc in ap (λ (p : Sign × ℕ). p.0) q

-- ---- the first of some signs that the bytes begin with

begins_with : (bytes : List ℕ) (s : Sign) → starts_with eqb bytes (sign_spelling s) ≡ true → bytes ≡ sign_spelling s ++ drop (size s) bytes
begins_with bytes s e = (starts_is Decides-eqb bytes (sign_spelling s) (starts_with eqb bytes (sign_spelling s)) refl).0 e

begun_with : (bytes : List ℕ) (s : Sign) (behind : List ℕ) → bytes ≡ sign_spelling s ++ behind → starts_with eqb bytes (sign_spelling s) ≡ true
begun_with bytes s behind e = (starts_is Decides-eqb bytes (sign_spelling s) (starts_with eqb bytes (sign_spelling s)) refl).1 behind e

same_spelling : (s t : Sign) → bytes_eq (sign_spelling s) (sign_spelling t) ≡ true → sign_spelling s ≡ sign_spelling t
same_spelling s t e = (bytes_eq-Decides (sign_spelling s) (sign_spelling t)).0 e

listed_small : (n : ℕ) (signs : List Sign) (t : Sign) → at_most n signs ≡ true → is_listed signs t ≡ true → size t ≤ n
listed_small n [] t all e = cc
listed_small n (s ∷ signs) t all e =
    let parts = and_parts (nat_le (size s) n) (at_most n signs) all in
    or_cases (bytes_eq (sign_spelling s) (sign_spelling t)) (is_listed signs t) (size t ≤ n) e
    (λ same. let k : size s ≤ n = grind (arith, nat_tests) in subst (λ l. length l ≤ n) (same_spelling s t same) k)
    (λ more. listed_small n signs t parts.1 more)

-- no sign among some stands at the front
none_there : (signs : List Sign) (bytes : List ℕ) (t : Sign) (behind : List ℕ) → first_sign (map sign_row signs) bytes ≡ None → is_listed signs t ≡ true → bytes ≡ sign_spelling t ++ behind → ⊥
none_there [] bytes t behind e l is = cc
none_there (s ∷ signs) bytes t behind e l is = bool_cases (λ b. starts_with eqb bytes (sign_spelling s) ≡ b → cond b (Some (s, size s)) (first_sign (map sign_row signs) bytes) ≡ None → ⊥) (starts_with eqb bytes (sign_spelling s))
    (λ _ h g. cc)
    (λ _ h g. or_cases (bytes_eq (sign_spelling s) (sign_spelling t)) (is_listed signs t) ⊥ l
    (λ same. let k : starts_with eqb bytes (sign_spelling s) ≡ true = begun_with bytes s behind (is ∙ ap (λ w. w ++ behind) (sym (same_spelling s t same))) in let w : true ≡ false = sym k ∙ h in cc)
    (λ more. none_there signs bytes t behind g more is))
    refl e

record First (signs : List Sign) (bytes : List ℕ) (s : Sign) (n : ℕ) : Type 0 where
  is : bytes ≡ sign_spelling s ++ drop (size s) bytes
  len : size s ≡ n
  longest : (t : Sign) (behind : List ℕ) → is_listed signs t ≡ true → bytes ≡ sign_spelling t ++ behind → size t ≤ size s

first_there : (signs : List Sign) (bytes : List ℕ) (s : Sign) (n : ℕ) → falls signs ≡ true → first_sign (map sign_row signs) bytes ≡ Some (s, n) → First signs bytes s n
first_there [] bytes s n all e = cc
first_there (f ∷ signs) bytes s n all e = bool_cases (λ b. starts_with eqb bytes (sign_spelling f) ≡ b → cond b (Some (f, size f)) (first_sign (map sign_row signs) bytes) ≡ Some (s, n) → First (f ∷ signs) bytes s n) (starts_with eqb bytes (sign_spelling f))
    (λ _ h g. at_front h g)
    (λ _ h g. behind_it h (first_there signs bytes s n (and_parts (at_most (size f) signs) (falls signs) all).1 g))
    refl e
  where
    at_front : starts_with eqb bytes (sign_spelling f) ≡ true → ◌≡◌ {A = Option (Sign × ℕ)} (Some (f, size f)) (Some (s, n)) → First (f ∷ signs) bytes s n
    at_front h g =
        let q : ◌≡◌ {A = Sign × ℕ} (f, size f) (s, n) = cc in
        let same : f ≡ s = ap (λ (p : Sign × ℕ). p.0) q in
        let whole : First (f ∷ signs) bytes f n = record {
          is = begins_with bytes f h;
          len = ap (λ (p : Sign × ℕ). p.1) q;
          longest = λ t behind l is. or_cases (bytes_eq (sign_spelling f) (sign_spelling t)) (is_listed signs t) (size t ≤ size f) l
              (λ eq. let k : size f ≤ size f = omega arith in subst (λ w. length w ≤ size f) (same_spelling f t eq) k)
              (λ more. listed_small (size f) signs t (and_parts (at_most (size f) signs) (falls signs) all).0 more);
        } in
        subst (λ g. First (f ∷ signs) bytes g n) same whole

    behind_it : starts_with eqb bytes (sign_spelling f) ≡ false → First signs bytes s n → First (f ∷ signs) bytes s n
    behind_it h r = record {
      is = r.is;
      len = r.len;
      longest = λ t behind l is. or_cases (bytes_eq (sign_spelling f) (sign_spelling t)) (is_listed signs t) (size t ≤ size s) l
          (λ eq. let k : starts_with eqb bytes (sign_spelling f) ≡ true = begun_with bytes f behind (is ∙ ap (λ w. w ++ behind) (sym (same_spelling f t eq))) in let w : true ≡ false = sym k ∙ h in cc)
          (λ more. r.longest t behind more is);
    }

-- ---- the sign at the front

pub record FrontSign (bytes : List ℕ) (s : Sign) (n : ℕ) : Type 0 where
  pub rest : List ℕ
  pub is : bytes ≡ sign_spelling s ++ rest
  pub len : length (sign_spelling s) ≡ n
  pub longest : (other : Sign) (behind : List ℕ) → bytes ≡ sign_spelling other ++ behind → length (sign_spelling other) ≤ length (sign_spelling s)

pub sign_stands : (bytes : List ℕ) (s : Sign) (n : ℕ) → sign_at bytes ≡ Some (s, n) → FrontSign bytes s n
unfolding sign_at
sign_stands bytes s n e =
    let f = first_there all_signs bytes s n all_fall e in
    record { rest = drop (size s) bytes; is = f.is; len = f.len; longest = λ other behind is. f.longest other behind (all_listed other) is }

none_stands : (bytes : List ℕ) (s : Sign) (behind : List ℕ) → sign_at bytes ≡ None → bytes ≡ sign_spelling s ++ behind → ⊥
unfolding sign_at
none_stands bytes s behind e is = none_there all_signs bytes s behind e (all_listed s) is

pub sign_is : (w rest : List ℕ) (s : Sign) → IsLongestSign w rest s → sign_at (w ++ rest) ≡ Some (s, length w)
sign_is w rest s h = by (sign_at (w ++ rest)) refl
  where
    by : (o : Option (Sign × ℕ)) → sign_at (w ++ rest) ≡ o → o ≡ Some (s, length w)
    by None e = absurd (none_stands (w ++ rest) s rest e (ap (λ l. l ++ rest) h.spelt))
    by (Some (f, n)) e =
        let t = sign_stands (w ++ rest) f n e in
        let up : size s ≤ size f = t.longest s rest (ap (λ l. l ++ rest) h.spelt) in
        let down : size f ≤ length w = h.longest f t.rest t.is in
        let same : size f ≡ length w = omega (arith, up, down, ap length h.spelt) in
        let words : sign_spelling f ≡ w = sym (take_at (sign_spelling f) t.rest (length w) same) ∙ (ap (take (length w)) (sym t.is) ∙ take_at w rest (length w) refl) in
        let one : f ≡ s = same_sign f s (words ∙ h.spelt) in
        ap (λ g. Some (g, n)) one ∙ ap (λ m. Some (s, m)) (sym t.len ∙ same)
