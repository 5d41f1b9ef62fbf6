-- Numbers in words: `0`, or digits without a leading zero.
use Rattle.std.specs.Prelude.{ℕ, Bool, ◌==◌, ◌&&◌, ◌||◌, not, nat_le, nat_lt, if◌then◌else◌, false, List, [], ◌∷◌, length, Option, Some, None}
use Rattle.std.specs.List.{list_all}
use Rattle.std.specs.Str.Parse.{digits_value}

-- a decimal digit
abbrev pub is_decimal : ℕ → Bool
is_decimal c = nat_le 48 c && nat_le c 57

abbrev pub begins_with_zero : List ℕ → Bool
begins_with_zero [] = false
begins_with_zero (first ∷ more) = first == 48

-- the text is `0`, or digits without a leading zero
abbrev pub is_number : List ℕ → Bool
is_number text = nat_lt 0 (length text) && (list_all is_decimal text && (not (begins_with_zero text) || length text == 1))

-- the number that the text writes
abbrev pub number_of : List ℕ → ℕ
number_of text = digits_value 10 text

-- the number that the text writes, where it is in this range
abbrev pub number_between : ℕ → ℕ → List ℕ → Option ℕ
number_between low high text =
    if is_number text && (nat_le low (number_of text) && nat_le (number_of text) high) then Some (number_of text) else None
