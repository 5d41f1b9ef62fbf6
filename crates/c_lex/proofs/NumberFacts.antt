-- The number that is worked out for a word is the one that it spells.
use Rattle.std.proofs.Common.{◌≡◌, ℕ, zero, suc, ◌+◌, ◌-◌, ◌*◌, ◌≤◌, ◌<◌, Bool, true, false, cond, ◌||◌, ◌⊎◌, inl, inr, nat_le, nat_lt, List, [], ◌∷◌, ◌++◌, length, get_or, take, drop, refl, sym, ap, ◌∙◌, subst, arith, length-append, Option, Some, None, pos}
use Rattle.std.specs.Option.{option_map}
use Rattle.std.proofs.lemmas.List.{append-nil, take_at, take_all, take_more, get_or_at}
use Rattle.std.proofs.lemmas.Bool.Decides.{nat_tests}
use Rattle.c_lex.specs.declared.tokens.Literal.{Literal}
use Rattle.c_lex.specs.Bytes.{is_digit, is_hex, AllAre, Begins}
use Rattle.c_lex.specs.Words.{value_from, digit_worth, hex_worth, has_leading_zero, is_suffix, IsDecimal, IsHexadecimal, IsSuffix, SpellsNumber}
use Rattle.c_lex.specs.Front.{numeral_from, decimal_of, hexadecimal_of, is_marked, numeral_of, is_suffixed, literal_of, number_of}
use Rattle.c_lex.proofs.Runs.{if_true, if_false, bool_cases}

step_up : (n r w : ℕ) → n ≤ n * suc r + w
step_up n r w = grind arith

module _ (test : ℕ → Bool) (r : ℕ) (worth : ℕ → ℕ) where
  grows : (n : ℕ) (cs : List ℕ) → n ≤ value_from r worth n cs
  grows n [] = omega arith
  grows n (c ∷ cs) = let h = grows (n * suc r + worth c) cs in let k = step_up n r (worth c) in omega (arith, h, k)

  pub numeral_is : (n : ℕ) (cs : List ℕ) → AllAre test cs → value_from r worth n cs ≤ 9223372036854775807 → numeral_from test r worth n cs ≡ Some (value_from r worth n cs)
  numeral_is n [] all fits = refl
  numeral_is n (c ∷ cs) all fits =
      let small : n * suc r + worth c ≤ 9223372036854775807 = omega (arith, grows (n * suc r + worth c) cs) in
      let test : nat_le (n * suc r + worth c) 9223372036854775807 ≡ true = grind (arith, nat_tests) in
      if_true _ _ _ all.0 ∙ (if_true _ _ _ test ∙ numeral_is (n * suc r + worth c) cs all.1 fits)

  pub record Digits (n : ℕ) (cs : List ℕ) (v : ℕ) : Type 0 where
    pub all : AllAre test cs
    pub value : v ≡ value_from r worth n cs
    pub fits : v ≤ 9223372036854775807

  pub numeral_digits : (n : ℕ) (cs : List ℕ) (v : ℕ) → n ≤ 9223372036854775807 → numeral_from test r worth n cs ≡ Some v → Digits n cs v
  numeral_digits n [] v le e = let h : n ≡ v = cc in record { all = tt; value = sym h; fits = omega arith }
  numeral_digits n (c ∷ cs) v le e = bool_cases (λ b. test c ≡ b → cond b (cond (nat_le (n * suc r + worth c) 9223372036854775807) (numeral_from test r worth (n * suc r + worth c) cs) None) None ≡ Some v → Digits n (c ∷ cs) v) (test c)
      (λ _ d g. bool_cases (λ b. nat_le (n * suc r + worth c) 9223372036854775807 ≡ b → cond b (numeral_from test r worth (n * suc r + worth c) cs) None ≡ Some v → Digits n (c ∷ cs) v) (nat_le (n * suc r + worth c) 9223372036854775807)
      (λ _ t h. let small : n * suc r + worth c ≤ 9223372036854775807 = grind (arith, nat_tests) in let k = numeral_digits (n * suc r + worth c) cs v small h in record { all = (d, k.all); value = k.value; fits = k.fits })
      (λ _ t h. cc) refl g)
      (λ _ d h. cc) refl e

-- numerals

abbrev pub IsNumeral : List ℕ → ℕ → Type 0
IsNumeral digits value = IsDecimal digits value ⊎ IsHexadecimal digits value

unmarked : (ds : List ℕ) → AllAre is_digit ds → is_marked ds ≡ false
unmarked [] all = refl
unmarked (c ∷ []) all = refl
unmarked (c ∷ d ∷ ds) all = let h : is_digit d ≡ true = all.1.0 in grind (arith, nat_tests)

decimal_numeral : (ds : List ℕ) (v : ℕ) → IsDecimal ds v → v ≤ 9223372036854775807 → decimal_of ds ≡ Some v
decimal_numeral [] v h le = absurd h.begins
decimal_numeral (c ∷ cs) v h le = if_false _ _ _ h.plain ∙ (numeral_is is_digit 9 digit_worth 0 (c ∷ cs) h.all (subst (λ n. n ≤ 9223372036854775807) h.is le) ∙ ap (λ n. Some n) (sym h.is))

hexadecimal_numeral : (ds : List ℕ) (v : ℕ) → Begins is_hex ds → AllAre is_hex ds → v ≡ value_from 15 hex_worth 0 ds → v ≤ 9223372036854775807 → hexadecimal_of ds ≡ Some v
hexadecimal_numeral [] v b all is le = absurd b
hexadecimal_numeral (c ∷ cs) v b all is le = numeral_is is_hex 15 hex_worth 0 (c ∷ cs) all (subst (λ n. n ≤ 9223372036854775807) is le) ∙ ap (λ n. Some n) (sym is)

numeral_found : (ds : List ℕ) (v : ℕ) → IsNumeral ds v → v ≤ 9223372036854775807 → numeral_of ds ≡ Some v
numeral_found ds v (inl h) le = if_false _ _ _ (unmarked ds h.all) ∙ decimal_numeral ds v h le
numeral_found ds v (inr h) le = ap numeral_of h.marked ∙ hexadecimal_numeral h.digits v h.begins h.all h.is le

decimal_spelt : (ds : List ℕ) (v : ℕ) → decimal_of ds ≡ Some v → IsDecimal ds v × (v ≤ 9223372036854775807)
decimal_spelt [] v e = cc
decimal_spelt (c ∷ cs) v e = bool_cases (λ b. has_leading_zero (c ∷ cs) ≡ b → cond b None (numeral_from is_digit 9 digit_worth 0 (c ∷ cs)) ≡ Some v → IsDecimal (c ∷ cs) v × (v ≤ 9223372036854775807)) (has_leading_zero (c ∷ cs))
    (λ _ z g. cc)
    (λ _ z g. let d = numeral_digits is_digit 9 digit_worth 0 (c ∷ cs) v (omega arith) g in (record { begins = d.all.0; all = d.all; plain = z; is = d.value }, d.fits))
    refl e

hexadecimal_spelt : (w ds : List ℕ) (v : ℕ) → w ≡ 48 ∷ 120 ∷ ds → hexadecimal_of ds ≡ Some v → IsHexadecimal w v × (v ≤ 9223372036854775807)
hexadecimal_spelt w [] v is e = cc
hexadecimal_spelt w (c ∷ cs) v is e = let d = numeral_digits is_hex 15 hex_worth 0 (c ∷ cs) v (omega arith) e in (record { digits = c ∷ cs; marked = is; begins = d.all.0; all = d.all; is = d.value }, d.fits)

marked_word : (w : List ℕ) → is_marked w ≡ true → w ≡ 48 ∷ 120 ∷ drop 2 w
marked_word [] e = cc
marked_word (c ∷ []) e = cc
marked_word (c ∷ d ∷ cs) e =
    let zero : c ≡ 48 = grind (arith, nat_tests) in
    let x : d ≡ 120 = grind (arith, nat_tests) in
    ap (λ c. c ∷ d ∷ cs) zero ∙ ap (λ d. 48 ∷ d ∷ cs) x

numeral_spelt : (w : List ℕ) (v : ℕ) → numeral_of w ≡ Some v → IsNumeral w v × (v ≤ 9223372036854775807)
numeral_spelt w v e = bool_cases (λ b. is_marked w ≡ b → cond b (hexadecimal_of (drop 2 w)) (decimal_of w) ≡ Some v → IsNumeral w v × (v ≤ 9223372036854775807)) (is_marked w)
    (λ _ m g. let h = hexadecimal_spelt w (drop 2 w) v (marked_word w m) g in (inr h.0, h.1))
    (λ _ m g. let h = decimal_spelt w v g in (inl h.0, h.1))
    refl e

-- suffixes

all_at : (p : ℕ → Bool) (ds : List ℕ) (n : ℕ) → AllAre p ds → n < length ds → p (get_or ds n 0) ≡ true
all_at p [] n all lt = absurd (omega arith)
all_at p (c ∷ cs) zero all lt = all.0
all_at p (c ∷ cs) (suc n) all lt = all_at p cs n all.1 (omega arith)

begun : (p : ℕ → Bool) (ds : List ℕ) → Begins p ds → 0 < length ds
begun p [] b = absurd b
begun p (c ∷ cs) b = omega arith

digit_no_suffix : (c : ℕ) → is_digit c ≡ true → is_suffix c ≡ false
digit_no_suffix c e = grind (arith, nat_tests)

hex_no_suffix : (c : ℕ) → is_hex c ≡ true → is_suffix c ≡ false
hex_no_suffix c e = grind (arith, nat_tests)

behind_mark : (ds : List ℕ) (n m : ℕ) → m ≡ suc (suc n) → get_or (48 ∷ 120 ∷ ds) m 0 ≡ get_or ds n 0
behind_mark ds n m e = ap (λ m. get_or (48 ∷ 120 ∷ ds) m 0) e

unsuffixed : (ds : List ℕ) (v : ℕ) → IsNumeral ds v → is_suffixed ds ≡ false
unsuffixed ds v (inl h) = let lt = begun is_digit ds h.begins in digit_no_suffix (get_or ds (length ds - 1) 0) (all_at is_digit ds (length ds - 1) h.all (omega (arith, lt)))
unsuffixed ds v (inr h) =
    let lt = begun is_hex h.digits h.begins in
    let n : length ds ≡ suc (suc (length h.digits)) = ap length h.marked in
    let e : get_or ds (length ds - 1) 0 ≡ get_or h.digits (length h.digits - 1) 0 = ap (λ l. get_or l (length ds - 1) 0) h.marked ∙ behind_mark h.digits (length h.digits - 1) (length ds - 1) (omega (arith, lt, n)) in
    ap is_suffix e ∙ hex_no_suffix (get_or h.digits (length h.digits - 1) 0) (all_at is_hex h.digits (length h.digits - 1) h.all (omega (arith, lt)))

literal_is : (number : Literal) (suffixed : Bool) (v : ℕ) → number.value ≡ pos v → number.long ≡ (suffixed || nat_lt 2147483647 v) → literal_of suffixed v ≡ number
literal_is number suffixed v e f = λ i. record { value = sym e i; long = sym f i }

spells_found : (w ds suffix : List ℕ) (suffixed : Bool) (v : ℕ) (number : Literal) → w ≡ ds ++ suffix → IsSuffix suffix suffixed → IsNumeral ds v → v ≤ 9223372036854775807 → literal_of suffixed v ≡ number → number_of w ≡ Some number
spells_found w ds [] suffixed v number is s h le e =
    let same : w ≡ ds = is ∙ append-nil ds in
    ap number_of same ∙ (if_false _ _ _ (unsuffixed ds v h) ∙ (ap (option_map (literal_of false)) (numeral_found ds v h le) ∙ ap (λ n. Some n) (ap (λ b. literal_of b v) (sym s) ∙ e)))
spells_found w ds (c ∷ []) suffixed v number is s h le e =
    let n : length w ≡ length ds + 1 = ap length is ∙ length-append ds (c ∷ []) in
    let m : length ds ≡ length w - 1 = omega (arith, n) in
    let last : get_or w (length w - 1) 0 ≡ c = ap (λ l. get_or l (length w - 1) 0) is ∙ get_or_at ds c [] 0 (length w - 1) m in
    let front : take (length w - 1) w ≡ ds = ap (take (length w - 1)) is ∙ take_at ds (c ∷ []) (length w - 1) m in
    if_true _ _ _ (ap is_suffix last ∙ s.0) ∙ (ap (λ l. option_map (literal_of true) (numeral_of l)) front ∙ (ap (option_map (literal_of true)) (numeral_found ds v h le) ∙ ap (λ n. Some n) (ap (λ b. literal_of b v) (sym s.1) ∙ e)))
spells_found w ds (c ∷ d ∷ cs) suffixed v number is s h le e = absurd s

pub number_spelt : (w : List ℕ) (number : Literal) → SpellsNumber w number → number_of w ≡ Some number
number_spelt w number h = spells_found w h.digits h.suffix h.suffixed h.value number h.is h.ends h.spelt h.fits (literal_is number h.suffixed h.value h.worth h.size)

pub map_some : {A B : Type 0} (f : A → B) (o : Option A) (y : B) → option_map f o ≡ Some y → (x : A) × (o ≡ Some x) × (f x ≡ y)
map_some f None y e = cc
map_some f (Some x) y e = let h : f x ≡ y = cc in (x, refl, h)

last_apart : (w : List ℕ) → is_suffixed w ≡ true → w ≡ take (length w - 1) w ++ get_or w (length w - 1) 0 ∷ []
last_apart [] e = cc
last_apart (c ∷ cs) e =
    let n : length cs + 1 - 1 ≡ length cs = omega arith in
    let whole : take (suc (length cs) - 1 + 1) (c ∷ cs) ≡ c ∷ cs = take_all _ (c ∷ cs) (omega arith) in
    sym whole ∙ take_more (c ∷ cs) (suc (length cs) - 1) 0 (omega arith)

pub spells : (w : List ℕ) (number : Literal) → number_of w ≡ Some number → SpellsNumber w number
spells w number e = bool_cases (λ b. is_suffixed w ≡ b → cond b (option_map (literal_of true) (numeral_of (take (length w - 1) w))) (option_map (literal_of false) (numeral_of w)) ≡ Some number → SpellsNumber w number) (is_suffixed w)
    (λ _ s g.
    let m = map_some (literal_of true) (numeral_of (take (length w - 1) w)) number g in
    let d = numeral_spelt (take (length w - 1) w) m.0 m.1 in
    record { digits = take (length w - 1) w; suffix = get_or w (length w - 1) 0 ∷ []; suffixed = true; value = m.0; is = last_apart w s; ends = (s, refl); spelt = d.0; fits = d.1; worth = sym (ap (λ (x : Literal). x.value) m.2); size = sym (ap (λ (x : Literal). x.long) m.2) })
    (λ _ s g.
    let m = map_some (literal_of false) (numeral_of w) number g in
    let d = numeral_spelt w m.0 m.1 in
    record { digits = w; suffix = []; suffixed = false; value = m.0; is = sym (append-nil w); ends = refl; spelt = d.0; fits = d.1; worth = sym (ap (λ (x : Literal). x.value) m.2); size = sym (ap (λ (x : Literal). x.long) m.2) })
    refl e

-- a number begins with a digit
pub spells_begins : (w : List ℕ) (number : Literal) → SpellsNumber w number → Begins is_digit w
spells_begins w number h = begins w h.digits h.suffix h.is h.spelt
  where
    begins : (w ds suffix : List ℕ) → w ≡ ds ++ suffix → IsNumeral ds h.value → Begins is_digit w
    begins w [] suffix is (inl d) = absurd d.begins
    begins w (c ∷ cs) suffix is (inl d) = subst (Begins is_digit) (sym is) d.begins
    begins w ds suffix is (inr d) = subst (Begins is_digit) (sym (is ∙ ap (λ l. l ++ suffix) d.marked)) refl
