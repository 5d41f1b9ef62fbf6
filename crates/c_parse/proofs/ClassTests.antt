-- What the sets of classes have, by the tests that readers make.
use Rattle.std.proofs.Common.{◌≡◌, ℕ, zero, suc, ◌<◌, ◌++◌, List, [], ◌∷◌, None, refl, arith}
use Rattle.std.specs.Option.{is_some}
use Rattle.c_parse.specs.declared.symbols.Class.{Class}
use Rattle.c_parse.specs.declared.symbols.Class.TheVariants as class
use Rattle.c_parse.specs.declared.symbols.Key.{Key}
use Rattle.c_parse.specs.declared.symbols.Key.TheVariants as key
use Rattle.c_parse.specs.declared.symbols.Mark.{Mark}
use Rattle.c_parse.specs.declared.symbols.Mark.TheVariants as mark
use Rattle.c_tree.specs.declared.syntax.Binary.TheVariants as binary
use Rattle.c_parse.specs.Signs.{is_mark, is_key, is_name, same_mark, same_key, binary_of, prefix_of, assigns, base_of, is_star, is_equals}
use Rattle.c_parse.specs.Grammar.{number_as, is_text, change_as}
use Rattle.c_parse.proofs.Sets.{code, mark_code, key_code, is_in}

abbrev pub BASES : List ℕ
BASES = 10 ∷ 11 ∷ 24 ∷ 25 ∷ 26 ∷ []

pub in_bases : (c : Class) → is_in BASES (code c) ≡ is_some (base_of c)
in_bases (class.Key key.Int) = refl
in_bases (class.Mark mark.Open) = refl
in_bases (class.Binary binary.Multiply) = refl
in_bases (class.Assign None) = refl
in_bases c = refl

abbrev pub PREFIXES : List ℕ
PREFIXES = 41 ∷ 8 ∷ 50 ∷ 53 ∷ 54 ∷ 63 ∷ []

pub in_prefixes : (c : Class) → is_in PREFIXES (code c) ≡ is_some (prefix_of c)
in_prefixes (class.Key key.Int) = refl
in_prefixes (class.Mark mark.Open) = refl
in_prefixes (class.Binary binary.Multiply) = refl
in_prefixes (class.Assign None) = refl
in_prefixes c = refl

abbrev pub NAMES : List ℕ
NAMES = 0 ∷ []

pub in_names : (c : Class) → is_in NAMES (code c) ≡ is_name c
in_names (class.Key key.Int) = refl
in_names (class.Mark mark.Open) = refl
in_names (class.Binary binary.Multiply) = refl
in_names (class.Assign None) = refl
in_names c = refl

abbrev pub NUMBERS : List ℕ
NUMBERS = 1 ∷ []

pub in_numbers : (c : Class) → is_in NUMBERS (code c) ≡ is_some (number_as c)
in_numbers (class.Key key.Int) = refl
in_numbers (class.Mark mark.Open) = refl
in_numbers (class.Binary binary.Multiply) = refl
in_numbers (class.Assign None) = refl
in_numbers c = refl

abbrev pub TEXTS : List ℕ
TEXTS = 2 ∷ []

pub in_texts : (c : Class) → is_in TEXTS (code c) ≡ is_text c
in_texts (class.Key key.Int) = refl
in_texts (class.Mark mark.Open) = refl
in_texts (class.Binary binary.Multiply) = refl
in_texts (class.Assign None) = refl
in_texts c = refl

abbrev pub CHANGES : List ℕ
CHANGES = 8 ∷ []

pub in_changes : (c : Class) → is_in CHANGES (code c) ≡ is_some (change_as c)
in_changes (class.Key key.Int) = refl
in_changes (class.Mark mark.Open) = refl
in_changes (class.Binary binary.Multiply) = refl
in_changes (class.Assign None) = refl
in_changes c = refl

abbrev pub ASSIGNS : List ℕ
ASSIGNS = 9 ∷ 42 ∷ []

pub in_assigns : (c : Class) → is_in ASSIGNS (code c) ≡ is_some (assigns c)
in_assigns (class.Key key.Int) = refl
in_assigns (class.Mark mark.Open) = refl
in_assigns (class.Binary binary.Multiply) = refl
in_assigns (class.Assign None) = refl
in_assigns c = refl

abbrev pub STARS : List ℕ
STARS = 50 ∷ []

pub in_stars : (c : Class) → is_in STARS (code c) ≡ is_star c
in_stars (class.Key key.Int) = refl
in_stars (class.Mark mark.Open) = refl
in_stars (class.Binary binary.Multiply) = refl
in_stars (class.Assign None) = refl
in_stars c = refl

-- the signs of a level
abbrev pub level_codes : ℕ → List ℕ
level_codes zero = 50 ∷ 51 ∷ 52 ∷ []
level_codes (suc zero) = 53 ∷ 54 ∷ []
level_codes (suc (suc zero)) = 55 ∷ 56 ∷ []
level_codes (suc (suc (suc zero))) = 57 ∷ 58 ∷ 59 ∷ 60 ∷ []
level_codes (suc (suc (suc (suc zero)))) = 61 ∷ 62 ∷ []
level_codes (suc (suc (suc (suc (suc zero))))) = 63 ∷ []
level_codes (suc (suc (suc (suc (suc (suc zero)))))) = 64 ∷ []
level_codes (suc (suc (suc (suc (suc (suc (suc zero))))))) = 65 ∷ []
level_codes (suc (suc (suc (suc (suc (suc (suc (suc zero)))))))) = 66 ∷ []
level_codes (suc (suc (suc (suc (suc (suc (suc (suc (suc zero))))))))) = 67 ∷ []
level_codes n = []

-- the signs of the tighter levels
abbrev pub tighter_codes : ℕ → List ℕ
tighter_codes zero = []
tighter_codes (suc n) = level_codes n ++ tighter_codes n

pub in_level : (level : ℕ) (c : Class) → level < 10 → is_in (level_codes level) (code c) ≡ is_some (binary_of level c)
in_level zero (class.Key key.Int) lt = refl
in_level zero (class.Mark mark.Open) lt = refl
in_level zero (class.Binary binary.Multiply) lt = refl
in_level zero (class.Assign None) lt = refl
in_level (suc zero) (class.Key key.Int) lt = refl
in_level (suc zero) (class.Mark mark.Open) lt = refl
in_level (suc zero) (class.Binary binary.Multiply) lt = refl
in_level (suc zero) (class.Assign None) lt = refl
in_level (suc (suc zero)) (class.Key key.Int) lt = refl
in_level (suc (suc zero)) (class.Mark mark.Open) lt = refl
in_level (suc (suc zero)) (class.Binary binary.Multiply) lt = refl
in_level (suc (suc zero)) (class.Assign None) lt = refl
in_level (suc (suc (suc zero))) (class.Key key.Int) lt = refl
in_level (suc (suc (suc zero))) (class.Mark mark.Open) lt = refl
in_level (suc (suc (suc zero))) (class.Binary binary.Multiply) lt = refl
in_level (suc (suc (suc zero))) (class.Assign None) lt = refl
in_level (suc (suc (suc (suc zero)))) (class.Key key.Int) lt = refl
in_level (suc (suc (suc (suc zero)))) (class.Mark mark.Open) lt = refl
in_level (suc (suc (suc (suc zero)))) (class.Binary binary.Multiply) lt = refl
in_level (suc (suc (suc (suc zero)))) (class.Assign None) lt = refl
in_level (suc (suc (suc (suc (suc zero))))) (class.Key key.Int) lt = refl
in_level (suc (suc (suc (suc (suc zero))))) (class.Mark mark.Open) lt = refl
in_level (suc (suc (suc (suc (suc zero))))) (class.Binary binary.Multiply) lt = refl
in_level (suc (suc (suc (suc (suc zero))))) (class.Assign None) lt = refl
in_level (suc (suc (suc (suc (suc (suc zero)))))) (class.Key key.Int) lt = refl
in_level (suc (suc (suc (suc (suc (suc zero)))))) (class.Mark mark.Open) lt = refl
in_level (suc (suc (suc (suc (suc (suc zero)))))) (class.Binary binary.Multiply) lt = refl
in_level (suc (suc (suc (suc (suc (suc zero)))))) (class.Assign None) lt = refl
in_level (suc (suc (suc (suc (suc (suc (suc zero))))))) (class.Key key.Int) lt = refl
in_level (suc (suc (suc (suc (suc (suc (suc zero))))))) (class.Mark mark.Open) lt = refl
in_level (suc (suc (suc (suc (suc (suc (suc zero))))))) (class.Binary binary.Multiply) lt = refl
in_level (suc (suc (suc (suc (suc (suc (suc zero))))))) (class.Assign None) lt = refl
in_level (suc (suc (suc (suc (suc (suc (suc (suc zero)))))))) (class.Key key.Int) lt = refl
in_level (suc (suc (suc (suc (suc (suc (suc (suc zero)))))))) (class.Mark mark.Open) lt = refl
in_level (suc (suc (suc (suc (suc (suc (suc (suc zero)))))))) (class.Binary binary.Multiply) lt = refl
in_level (suc (suc (suc (suc (suc (suc (suc (suc zero)))))))) (class.Assign None) lt = refl
in_level (suc (suc (suc (suc (suc (suc (suc (suc (suc zero))))))))) (class.Key key.Int) lt = refl
in_level (suc (suc (suc (suc (suc (suc (suc (suc (suc zero))))))))) (class.Mark mark.Open) lt = refl
in_level (suc (suc (suc (suc (suc (suc (suc (suc (suc zero))))))))) (class.Binary binary.Multiply) lt = refl
in_level (suc (suc (suc (suc (suc (suc (suc (suc (suc zero))))))))) (class.Assign None) lt = refl
in_level (suc (suc (suc (suc (suc (suc (suc (suc (suc (suc n)))))))))) c lt = absurd (omega arith)
in_level level c lt = refl

-- keys and marks
pub in_mark : (m : Mark) (c : Class) → is_in (mark_code m ∷ []) (code c) ≡ is_mark m c
unfolding same_mark
in_mark mark.Open (class.Key key.Int) = refl
in_mark mark.Open (class.Mark mark.Open) = refl
in_mark mark.Open (class.Binary binary.Multiply) = refl
in_mark mark.Open (class.Assign None) = refl
in_mark mark.Close (class.Key key.Int) = refl
in_mark mark.Close (class.Mark mark.Open) = refl
in_mark mark.Close (class.Binary binary.Multiply) = refl
in_mark mark.Close (class.Assign None) = refl
in_mark mark.OpenSquare (class.Key key.Int) = refl
in_mark mark.OpenSquare (class.Mark mark.Open) = refl
in_mark mark.OpenSquare (class.Binary binary.Multiply) = refl
in_mark mark.OpenSquare (class.Assign None) = refl
in_mark mark.CloseSquare (class.Key key.Int) = refl
in_mark mark.CloseSquare (class.Mark mark.Open) = refl
in_mark mark.CloseSquare (class.Binary binary.Multiply) = refl
in_mark mark.CloseSquare (class.Assign None) = refl
in_mark mark.OpenBrace (class.Key key.Int) = refl
in_mark mark.OpenBrace (class.Mark mark.Open) = refl
in_mark mark.OpenBrace (class.Binary binary.Multiply) = refl
in_mark mark.OpenBrace (class.Assign None) = refl
in_mark mark.CloseBrace (class.Key key.Int) = refl
in_mark mark.CloseBrace (class.Mark mark.Open) = refl
in_mark mark.CloseBrace (class.Binary binary.Multiply) = refl
in_mark mark.CloseBrace (class.Assign None) = refl
in_mark mark.Semicolon (class.Key key.Int) = refl
in_mark mark.Semicolon (class.Mark mark.Open) = refl
in_mark mark.Semicolon (class.Binary binary.Multiply) = refl
in_mark mark.Semicolon (class.Assign None) = refl
in_mark mark.Comma (class.Key key.Int) = refl
in_mark mark.Comma (class.Mark mark.Open) = refl
in_mark mark.Comma (class.Binary binary.Multiply) = refl
in_mark mark.Comma (class.Assign None) = refl
in_mark mark.Dot (class.Key key.Int) = refl
in_mark mark.Dot (class.Mark mark.Open) = refl
in_mark mark.Dot (class.Binary binary.Multiply) = refl
in_mark mark.Dot (class.Assign None) = refl
in_mark mark.Question (class.Key key.Int) = refl
in_mark mark.Question (class.Mark mark.Open) = refl
in_mark mark.Question (class.Binary binary.Multiply) = refl
in_mark mark.Question (class.Assign None) = refl
in_mark mark.Colon (class.Key key.Int) = refl
in_mark mark.Colon (class.Mark mark.Open) = refl
in_mark mark.Colon (class.Binary binary.Multiply) = refl
in_mark mark.Colon (class.Assign None) = refl
in_mark m c = refl

pub in_key : (k : Key) (c : Class) → is_in (key_code k ∷ []) (code c) ≡ is_key k c
unfolding same_key
in_key key.Int (class.Key key.Int) = refl
in_key key.Int (class.Mark mark.Open) = refl
in_key key.Int (class.Binary binary.Multiply) = refl
in_key key.Int (class.Assign None) = refl
in_key key.Long (class.Key key.Int) = refl
in_key key.Long (class.Mark mark.Open) = refl
in_key key.Long (class.Binary binary.Multiply) = refl
in_key key.Long (class.Assign None) = refl
in_key key.Void (class.Key key.Int) = refl
in_key key.Void (class.Mark mark.Open) = refl
in_key key.Void (class.Binary binary.Multiply) = refl
in_key key.Void (class.Assign None) = refl
in_key key.Char (class.Key key.Int) = refl
in_key key.Char (class.Mark mark.Open) = refl
in_key key.Char (class.Binary binary.Multiply) = refl
in_key key.Char (class.Assign None) = refl
in_key key.Static (class.Key key.Int) = refl
in_key key.Static (class.Mark mark.Open) = refl
in_key key.Static (class.Binary binary.Multiply) = refl
in_key key.Static (class.Assign None) = refl
in_key key.If (class.Key key.Int) = refl
in_key key.If (class.Mark mark.Open) = refl
in_key key.If (class.Binary binary.Multiply) = refl
in_key key.If (class.Assign None) = refl
in_key key.Else (class.Key key.Int) = refl
in_key key.Else (class.Mark mark.Open) = refl
in_key key.Else (class.Binary binary.Multiply) = refl
in_key key.Else (class.Assign None) = refl
in_key key.While (class.Key key.Int) = refl
in_key key.While (class.Mark mark.Open) = refl
in_key key.While (class.Binary binary.Multiply) = refl
in_key key.While (class.Assign None) = refl
in_key key.Do (class.Key key.Int) = refl
in_key key.Do (class.Mark mark.Open) = refl
in_key key.Do (class.Binary binary.Multiply) = refl
in_key key.Do (class.Assign None) = refl
in_key key.For (class.Key key.Int) = refl
in_key key.For (class.Mark mark.Open) = refl
in_key key.For (class.Binary binary.Multiply) = refl
in_key key.For (class.Assign None) = refl
in_key key.Return (class.Key key.Int) = refl
in_key key.Return (class.Mark mark.Open) = refl
in_key key.Return (class.Binary binary.Multiply) = refl
in_key key.Return (class.Assign None) = refl
in_key key.Break (class.Key key.Int) = refl
in_key key.Break (class.Mark mark.Open) = refl
in_key key.Break (class.Binary binary.Multiply) = refl
in_key key.Break (class.Assign None) = refl
in_key key.Continue (class.Key key.Int) = refl
in_key key.Continue (class.Mark mark.Open) = refl
in_key key.Continue (class.Binary binary.Multiply) = refl
in_key key.Continue (class.Assign None) = refl
in_key key.SizeOf (class.Key key.Int) = refl
in_key key.SizeOf (class.Mark mark.Open) = refl
in_key key.SizeOf (class.Binary binary.Multiply) = refl
in_key key.SizeOf (class.Assign None) = refl
in_key key.Comm (class.Key key.Int) = refl
in_key key.Comm (class.Mark mark.Open) = refl
in_key key.Comm (class.Binary binary.Multiply) = refl
in_key key.Comm (class.Assign None) = refl
in_key key.Request (class.Key key.Int) = refl
in_key key.Request (class.Mark mark.Open) = refl
in_key key.Request (class.Binary binary.Multiply) = refl
in_key key.Request (class.Assign None) = refl
in_key key.Status (class.Key key.Int) = refl
in_key key.Status (class.Mark mark.Open) = refl
in_key key.Status (class.Binary binary.Multiply) = refl
in_key key.Status (class.Assign None) = refl
in_key k c = refl

abbrev pub EQUALS : List ℕ
EQUALS = 9 ∷ []

pub in_equals : (c : Class) → is_in EQUALS (code c) ≡ is_equals c
in_equals (class.Key key.Int) = refl
in_equals (class.Mark mark.Open) = refl
in_equals (class.Binary binary.Multiply) = refl
in_equals (class.Assign None) = refl
in_equals c = refl
