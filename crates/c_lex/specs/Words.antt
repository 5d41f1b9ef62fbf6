-- What a number spells, and what a text holds.
use Rattle.std.specs.Prelude.{◌≡◌, ℕ, suc, ◌+◌, ◌-◌, ◌*◌, ◌≤◌, Bool, true, false, ◌||◌, cond, List, [], ◌∷◌, ◌++◌, nat_eq, nat_le, nat_lt, pos, ◌⊎◌}
use Rattle.c_lex.specs.declared.tokens.Literal.{Literal}
use Rattle.c_lex.specs.Bytes.{is_digit, is_hex, is_plain, is_escape, AllAre, Begins}

-- what a digit of a hexadecimal number is worth
abbrev pub hex_worth : ℕ → ℕ
hex_worth c = cond (is_digit c) (c - 48) (cond (nat_le 97 c) (c - 87) (c - 55))

abbrev pub digit_worth : ℕ → ℕ
digit_worth c = c - 48

-- the value of digits that stand behind a number, where each place is worth one and so many more of the next
abbrev pub value_from : ℕ → (ℕ → ℕ) → ℕ → List ℕ → ℕ
value_from r worth n [] = n
value_from r worth n (c ∷ cs) = value_from r worth (n * suc r + worth c) cs

-- more than one digit, and the first is 0
abbrev pub has_leading_zero : List ℕ → Bool
has_leading_zero [] = false
has_leading_zero (c ∷ []) = false
has_leading_zero (c ∷ d ∷ cs) = nat_eq c 48

-- decimal digits without a leading zero
pub record IsDecimal (digits : List ℕ) (value : ℕ) : Type 0 where
  pub begins : Begins is_digit digits
  pub all : AllAre is_digit digits
  pub plain : has_leading_zero digits ≡ false
  pub is : value ≡ value_from 9 digit_worth 0 digits

-- 0x and hexadecimal digits
pub record IsHexadecimal (word : List ℕ) (value : ℕ) : Type 0 where
  pub digits : List ℕ
  pub marked : word ≡ 48 ∷ 120 ∷ digits
  pub begins : Begins is_hex digits
  pub all : AllAre is_hex digits
  pub is : value ≡ value_from 15 hex_worth 0 digits

-- L or l
abbrev pub is_suffix : ℕ → Bool
is_suffix c = nat_eq c 76 || nat_eq c 108

-- what may stand behind the digits, and whether it stands there
abbrev pub IsSuffix : List ℕ → Bool → Type 0
IsSuffix [] long = long ≡ false
IsSuffix (c ∷ []) long = (is_suffix c ≡ true) × (long ≡ true)
IsSuffix (c ∷ d ∷ cs) long = ⊥

-- the word spells this number; it is a long where it has the suffix or where an int is too small
pub record SpellsNumber (word : List ℕ) (number : Literal) : Type 0 where
  pub digits : List ℕ
  pub suffix : List ℕ
  pub suffixed : Bool
  pub value : ℕ
  pub is : word ≡ digits ++ suffix
  pub ends : IsSuffix suffix suffixed
  pub spelt : IsDecimal digits value ⊎ IsHexadecimal digits value
  pub fits : value ≤ 9223372036854775807
  pub worth : number.value ≡ pos value
  pub size : number.long ≡ (suffixed || nat_lt 2147483647 value)

-- what may stand between a text's quotes
pub data TextBody : List ℕ → Type 0 where
  empty : TextBody []
  plain : (c : ℕ) {cs : List ℕ} → is_plain c ≡ true → TextBody cs → TextBody (c ∷ cs)
  escape : (b c : ℕ) {cs : List ℕ} → b ≡ 92 → is_escape c ≡ true → TextBody cs → TextBody (b ∷ c ∷ cs)
