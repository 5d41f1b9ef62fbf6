-- The kinds of bytes of a source, and runs of them.
use Rattle.std.specs.Prelude.{◌≡◌, ℕ, Bool, true, false, ◌&&◌, ◌||◌, not, List, [], ◌∷◌, nat_eq, nat_le}

-- space, tab, line feed and carriage return
abbrev pub is_blank : ℕ → Bool
is_blank c = nat_eq c 32 || nat_eq c 9 || nat_eq c 10 || nat_eq c 13

-- a letter or an underscore
abbrev pub is_letter : ℕ → Bool
is_letter c = (nat_le 97 c && nat_le c 122) || (nat_le 65 c && nat_le c 90) || nat_eq c 95

abbrev pub is_digit : ℕ → Bool
is_digit c = nat_le 48 c && nat_le c 57

-- what a name goes on with
abbrev pub is_name_byte : ℕ → Bool
is_name_byte c = is_letter c || is_digit c

-- a blank that does not end the line
abbrev pub is_gap : ℕ → Bool
is_gap c = nat_eq c 32 || nat_eq c 9 || nat_eq c 13

-- what a line is made of
abbrev pub is_line_byte : ℕ → Bool
is_line_byte c = not (nat_eq c 10)

-- a digit of a hexadecimal number
abbrev pub is_hex : ℕ → Bool
is_hex c = is_digit c || (nat_le 97 c && nat_le c 102) || (nat_le 65 c && nat_le c 70)

-- what a text holds as it is: no quote and no backslash
abbrev pub is_plain : ℕ → Bool
is_plain c = nat_le 32 c && nat_le c 126 && not (nat_eq c 34) && not (nat_eq c 92)

-- what stands behind a backslash in a text: n, t, a backslash or a quote
abbrev pub is_escape : ℕ → Bool
is_escape c = nat_eq c 110 || nat_eq c 116 || nat_eq c 92 || nat_eq c 34

-- each byte passes the test
abbrev pub AllAre : (ℕ → Bool) → List ℕ → Type 0
AllAre p [] = Unit {0}
AllAre p (c ∷ cs) = (p c ≡ true) × AllAre p cs

-- there is a first byte, and it passes the test
abbrev pub Begins : (ℕ → Bool) → List ℕ → Type 0
Begins p [] = ⊥
Begins p (c ∷ cs) = p c ≡ true

-- no byte that passes the test stands here
abbrev pub Stops : (ℕ → Bool) → List ℕ → Type 0
Stops p [] = Unit {0}
Stops p (c ∷ cs) = p c ≡ false
