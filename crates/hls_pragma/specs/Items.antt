-- The words and signs of a line.
use Rattle.std.specs.Prelude.{ℕ, zero, suc, ◌+◌, Bool, ◌&&◌, ◌||◌, cond, List, [], ◌∷◌, ◌++◌, nat_eq, nat_le}
use Rattle.hls_pragma.specs.declared.items.Item.{Item}
use Rattle.hls_pragma.specs.declared.items.Item.TheVariants.{Word, Open, Comma, Close, Other}

abbrev pub is_blank : ℕ → Bool
is_blank c = nat_eq c 32 || nat_eq c 9 || nat_eq c 10 || nat_eq c 13

-- a letter or an underscore
abbrev pub is_letter : ℕ → Bool
is_letter c = (nat_le 97 c && nat_le c 122) || (nat_le 65 c && nat_le c 90) || nat_eq c 95

abbrev pub is_word_byte : ℕ → Bool
is_word_byte c = is_letter c || (nat_le 48 c && nat_le c 57)

abbrev pub sign_of : ℕ → Item
sign_of c = cond (nat_eq c 40) Open (cond (nat_eq c 44) Comma (cond (nat_eq c 41) Close Other))

-- the word of so many bytes, where there are any
abbrev pub word_of : ℕ → ℕ → List Item
word_of start zero = []
word_of start (suc n) = Word (record { start = start; len = suc n }) ∷ []

-- what a byte in no word gives
abbrev pub item_of : ℕ → List Item
item_of c = cond (is_blank c) [] (sign_of c ∷ [])

-- the items of the bytes from a place on, where a word of so many bytes stands before them
abbrev pub items_of : ℕ → ℕ → ℕ → List ℕ → List Item
items_of at start len [] = word_of start len
items_of at start len (c ∷ cs) = cond (is_word_byte c) (items_of (at + 1) (cond (nat_eq len 0) at start) (len + 1) cs) (word_of start len ++ (item_of c ++ items_of (at + 1) start 0 cs))
