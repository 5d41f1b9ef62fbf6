-- What std's `parse` reads of a text that is a number.
use Rattle.std.proofs.Common.{◌≡◌, ◌≤◌, ◌<◌, nat_le, if◌then◌else◌, ◌^◌, ℕ, Bool, true, false, ◌&&◌, nat_lt, List, [], ◌∷◌, length, Option, Some, None, refl, sym, ap, ◌∙◌, subst, arith, rules}
use Rattle.std.specs.List.{list_all}
use Rattle.std.specs.Char.{digit_value}
use Rattle.std.specs.Str.Parse.{AllDigits, IsNumeral, digits_value, without_leading_plus}
use Rattle.command_words.specs.Numbers.{is_decimal, begins_with_zero, is_number, number_of, number_between}

decimal_value : (c : ℕ) → is_decimal c ≡ true → digit_value c < 10
decimal_value c e = grind arith

both : (a b : Bool) → (a && b) ≡ true → (a ≡ true) × (b ≡ true)
both true b e = (refl, e)
both false b e = (e, absurd (false_true e))
  where
    false_true : false ≡ true → ⊥
    false_true f = cc

all_digits : (text : List ℕ) → list_all is_decimal text ≡ true → AllDigits 10 text
all_digits [] e = tt
all_digits (c ∷ text) e = let p = both (is_decimal c) (list_all is_decimal text) e in (decimal_value c p.0, all_digits text p.1)

numeral : (text : List ℕ) → is_number text ≡ true → IsNumeral 10 text
numeral [] e = absurd (none e)
  where
    none : false ≡ true → ⊥
    none f = cc
numeral (c ∷ text) e = (omega arith, all_digits (c ∷ text) (both (list_all is_decimal (c ∷ text)) _ (both (nat_lt 0 (length (c ∷ text))) _ e).1).0)

no_plus : (text : List ℕ) → is_number text ≡ true → without_leading_plus text ≡ text
no_plus [] e = refl
no_plus (c ∷ text) e = grind arith

too_great : (low high n : ℕ) (is : Bool) → high < 18446744073709551616 → (n < 18446744073709551616 → ⊥) → None ≡ (if is && (nat_le low n && nat_le n high) then Some n else None)
too_great low high n is few big = grind arith

-- where `parse` refuses a number, it is too great
pub parse_fails : (low high : ℕ) (text : List ℕ) → is_number text ≡ true → high < 18446744073709551616
    → ((IsNumeral 10 (without_leading_plus text) × (digits_value 10 (without_leading_plus text) < 18446744073709551616)) → ⊥) → None ≡ number_between low high text
parse_fails low high text e few fails =
    too_great low high (number_of text) (is_number text) few
    (λ small. fails (subst (λ t. IsNumeral 10 t × (digits_value 10 t < 18446744073709551616)) (sym (no_plus text e)) (numeral text e, small)))
