-- What stands at the front of some bytes, worked out from the left: the piece and its length.
use Rattle.std.specs.Prelude.{ℕ, suc, ◌+◌, ◌-◌, ◌*◌, Bool, true, false, cond, not, ◌&&◌, ◌||◌, List, [], ◌∷◌, length, take, drop, Option, Some, None, nat_eq, nat_lt, nat_le, pos, codes, slice_index}
use Rattle.std.specs.Ordering.{int_eq}
use Rattle.std.specs.Option.{option_map}
use Rattle.std.specs.Str.{bytes_eq}
use Rattle.c_lex.specs.declared.tokens.Kind.{Kind}
use Rattle.c_lex.specs.declared.tokens.Kind.TheVariants as kind
use Rattle.c_lex.specs.declared.tokens.Literal.{Literal}
use Rattle.c_lex.specs.declared.pieces.Found.{Found}
use Rattle.c_lex.specs.declared.pieces.Found.TheVariants.{Feed, Blank, Comment, Include, Define, Pragma, Taken}
use Rattle.c_lex.specs.Bytes.{is_gap, is_letter, is_digit, is_hex, is_name_byte, is_line_byte, is_plain, is_escape}
use Rattle.c_lex.specs.Defined.{Meanings}
use Rattle.c_lex.specs.declared.directives.Along.{Along}
use Rattle.c_lex.specs.declared.directives.Along.TheVariants.{Between, Slash, Inside}
use Rattle.c_lex.specs.declared.keys.Key.{Key}
use Rattle.c_lex.specs.declared.signs.Sign.{Sign}
use Rattle.c_lex.specs.Lookups.{key_of, is_key, sign_at}
use Rattle.c_lex.specs.Words.{has_leading_zero, is_suffix, digit_worth, hex_worth}

-- how many bytes at the front pass the test
abbrev pub run : (ℕ → Bool) → List ℕ → ℕ
run p [] = 0
run p (c ∷ cs) = cond (p c) (suc (run p cs)) 0

-- so many more
abbrev pub more : ℕ → Option ℕ → Option ℕ
more n None = None
more n (Some m) = Some (n + m)

-- how long a text is behind its opening quote, and behind a backslash where the flag says so
abbrev pub text_len : Bool → List ℕ → Option ℕ
text_len b [] = None
text_len true (c ∷ cs) = cond (is_escape c) (more 1 (text_len false cs)) None
text_len false (c ∷ cs) = cond (nat_eq c 34) (Some 1) (cond (nat_eq c 92) (more 1 (text_len true cs)) (cond (is_plain c) (more 1 (text_len false cs)) None))

-- how far the end of a comment is, behind a star where the flag says so
abbrev pub close_len : Bool → List ℕ → Option ℕ
close_len star [] = None
close_len star (c ∷ cs) = cond (star && nat_eq c 47) (Some 1) (more 1 (close_len (nat_eq c 42) cs))

-- the value of digits behind a number, where all are digits and no value is too large
abbrev pub numeral_from : (ℕ → Bool) → ℕ → (ℕ → ℕ) → ℕ → List ℕ → Option ℕ
numeral_from test r worth n [] = Some n
numeral_from test r worth n (c ∷ cs) = cond (test c) (cond (nat_le (n * suc r + worth c) 9223372036854775807) (numeral_from test r worth (n * suc r + worth c) cs) None) None

abbrev pub decimal_of : List ℕ → Option ℕ
decimal_of [] = None
decimal_of (c ∷ cs) = cond (has_leading_zero (c ∷ cs)) None (numeral_from is_digit 9 digit_worth 0 (c ∷ cs))

abbrev pub hexadecimal_of : List ℕ → Option ℕ
hexadecimal_of [] = None
hexadecimal_of (c ∷ cs) = numeral_from is_hex 15 hex_worth 0 (c ∷ cs)

-- the word begins with 0x
abbrev pub is_marked : List ℕ → Bool
is_marked [] = false
is_marked (c ∷ []) = false
is_marked (c ∷ d ∷ cs) = nat_eq c 48 && nat_eq d 120

abbrev pub numeral_of : List ℕ → Option ℕ
numeral_of word = cond (is_marked word) (hexadecimal_of (drop 2 word)) (decimal_of word)

-- the last byte is a suffix
abbrev pub is_suffixed : List ℕ → Bool
is_suffixed word = is_suffix (slice_index word (length word - 1))

abbrev pub literal_of : Bool → ℕ → Literal
literal_of suffixed n = record { value = pos n; long = suffixed || nat_lt 2147483647 n }

-- the number that a word spells
abbrev pub number_of : List ℕ → Option Literal
number_of word = cond (is_suffixed word) (option_map (literal_of true) (numeral_of (take (length word - 1) word))) (option_map (literal_of false) (numeral_of word))

abbrev pub number_kind : Literal → Kind
number_kind n = kind.Number n.value n.long

-- what a name that is no key is
abbrev pub name_kind : Option Literal → Kind
name_kind None = kind.Name
name_kind (Some n) = number_kind n

-- a key, or what else the word is
abbrev pub key_or : Kind → Option Key → Kind
key_or other None = other
key_or other (Some key) = kind.Key key

abbrev pub word_kind : Meanings → List ℕ → Kind
word_kind known word = key_or (name_kind (known word)) (key_of word)

unfoldable pub word_at : Meanings → List ℕ → Option (Found × ℕ)
word_at known bytes = Some (Taken (word_kind known (take (run is_name_byte bytes) bytes)), run is_name_byte bytes)

abbrev pub number_found : ℕ → Literal → Found × ℕ
number_found n number = (Taken (number_kind number), n)

unfoldable pub number_at : List ℕ → Option (Found × ℕ)
number_at bytes = option_map (number_found (run is_name_byte bytes)) (number_of (take (run is_name_byte bytes) bytes))

abbrev pub text_found : ℕ → Found × ℕ
text_found n = (Taken kind.Text, suc n)

abbrev pub sign_taken : Sign × ℕ → Found × ℕ
sign_taken p = (Taken (kind.Sign p.0), p.1)

abbrev pub sign_found : Option (Sign × ℕ) → Option (Found × ℕ)
sign_found o = option_map sign_taken o

abbrev pub comment_found : ℕ → Found × ℕ
comment_found n = (Comment, 2 + n)

-- a comment or a sign, whose slash is given
unfoldable pub slash_at : ℕ → List ℕ → Option (Found × ℕ)
slash_at c [] = sign_found (sign_at (c ∷ []))
slash_at c (d ∷ ds) =
    cond (nat_eq d 47) (Some (Comment, 2 + run is_line_byte ds))
    (cond (nat_eq d 42) (option_map comment_found (close_len false ds))
    (sign_found (sign_at (c ∷ d ∷ ds))))

abbrev pub bool_eq : Bool → Bool → Bool
bool_eq true b = b
bool_eq false b = not b

-- the name has no number yet, or this one
abbrev pub agrees : Option Literal → Literal → Bool
agrees None number = true
agrees (Some other) number = int_eq other.value number.value && bool_eq other.long number.long

abbrev pub starts : (ℕ → Bool) → List ℕ → Bool
starts p [] = false
starts p (c ∷ cs) = p c

abbrev pub value_found : ℕ → Literal → Literal × ℕ
value_found n number = (number, n)

-- the line is over behind blanks and comments, of which the last may run over its end
abbrev pub is_line_over : Along → List ℕ → Bool
is_line_over Between [] = true
is_line_over Between (c ∷ cs) = cond (nat_eq c 10) true (cond (is_gap c) (is_line_over Between cs) (cond (nat_eq c 47) (is_line_over Slash cs) false))
is_line_over Slash [] = false
is_line_over Slash (c ∷ cs) = cond (nat_eq c 47) true (cond (nat_eq c 42) (is_line_over (Inside false) cs) false)
is_line_over (Inside star) [] = true
is_line_over (Inside star) (c ∷ cs) = cond (nat_eq c 10) true (cond (star && nat_eq c 47) (is_line_over Between cs) (is_line_over (Inside (nat_eq c 42)) cs))

-- blanks and a number, behind which the line is over, and their length
unfoldable pub value_at : ℕ → List ℕ → Option (Literal × ℕ)
value_at space rest =
    cond (is_line_over Between (drop (run is_name_byte rest) rest)) (option_map (value_found (space + run is_name_byte rest)) (number_of (take (run is_name_byte rest) rest))) None

unfoldable pub numbered : List ℕ → Option (Literal × ℕ)
numbered bytes = value_at (run is_gap bytes) (drop (run is_gap bytes) bytes)

-- a definition of this name, so far behind the directive's word
unfoldable pub define_agreed : Meanings → ℕ → List ℕ → ℕ → Option (Literal × ℕ) → Option (Found × ℕ)
define_agreed known gap name len None = None
define_agreed known gap name len (Some (number, n)) = cond (agrees (known name) number) (Some (Define (7 + gap) len number, 7 + gap + len + n)) None

unfoldable pub define_named : Meanings → ℕ → List ℕ → Option (Found × ℕ)
define_named known gap bytes =
    cond (starts is_letter bytes && not (is_key (take (run is_name_byte bytes) bytes)))
    (define_agreed known gap (take (run is_name_byte bytes) bytes) (run is_name_byte bytes) (numbered (drop (run is_name_byte bytes) bytes)))
    None

unfoldable pub define_at : Meanings → List ℕ → Option (Found × ℕ)
define_at known bytes = define_named known (run is_gap bytes) (drop (run is_gap bytes) bytes)

-- a directive, told by its word
unfoldable pub directive_named : Meanings → List ℕ → List ℕ → Option (Found × ℕ)
directive_named known word cs =
    cond (bytes_eq word (codes "include")) (Some (Include, 8 + run is_line_byte (drop 7 cs)))
    (cond (bytes_eq word (codes "pragma")) (Some (Pragma, 7 + run is_line_byte (drop 6 cs)))
    (cond (bytes_eq word (codes "define")) (define_at known (drop 6 cs)) None))

-- a directive, behind its #
unfoldable pub directive_at : Meanings → List ℕ → Option (Found × ℕ)
directive_at known cs = directive_named known (take (run is_name_byte cs) cs) cs

-- a comment or a sign that begins with a slash
unfoldable pub slash_of : List ℕ → Option (Found × ℕ)
slash_of [] = None
slash_of (c ∷ cs) = slash_at c cs

-- a text, a directive, a comment or a sign, told by its first byte
unfoldable pub other_from : Bool → Meanings → ℕ → List ℕ → Option (Found × ℕ)
other_from fresh known c cs =
    cond (nat_eq c 34) (option_map text_found (text_len false cs))
    (cond (nat_eq c 35) (cond fresh (directive_at known cs) None)
    (cond (nat_eq c 47) (slash_at c cs) (sign_found (sign_at (c ∷ cs)))))

unfoldable pub other_at : Bool → Meanings → List ℕ → Option (Found × ℕ)
other_at fresh known [] = None
other_at fresh known (c ∷ cs) = other_from fresh known c cs

-- the piece at the front, told by its first byte
unfoldable pub piece_from : Bool → Meanings → ℕ → List ℕ → Option (Found × ℕ)
piece_from fresh known c cs =
    cond (nat_eq c 10) (Some (Feed, 1))
    (cond (is_gap c) (Some (Blank, 1))
    (cond (is_letter c) (word_at known (c ∷ cs))
    (cond (is_digit c) (number_at (c ∷ cs)) (other_at fresh known (c ∷ cs)))))

unfoldable pub piece_at : Bool → Meanings → List ℕ → Option (Found × ℕ)
piece_at fresh known [] = None
piece_at fresh known (c ∷ cs) = piece_from fresh known c cs
