-- Keys and signs, looked up by their spelling in a list of all of them.
use Rattle.std.specs.Prelude.{ℕ, Bool, cond, List, [], ◌∷◌, length, map, Option, Some, None, is_some, eqb}
use Rattle.std.specs.List.{starts_with}
use Rattle.std.specs.Str.{bytes_eq}
use denote.Ref.{Bor}
use Rattle.c_lex.specs.declared.keys.Key.{Key}
use Rattle.c_lex.specs.declared.keys.Key.TheVariants as key
use Rattle.c_lex.specs.declared.signs.Sign.{Sign}
use Rattle.c_lex.specs.declared.signs.Sign.TheVariants as sign
use Rattle.c_lex.specs.Spellings.{key_spelling, sign_spelling}

-- all keys
abbrev pub all_keys : List Key
all_keys =
    key.Int ∷
    key.Long ∷
    key.Void ∷
    key.Char ∷
    key.Static ∷
    key.If ∷
    key.Else ∷
    key.While ∷
    key.Do ∷
    key.For ∷
    key.Return ∷
    key.Break ∷
    key.Continue ∷
    key.SizeOf ∷
    key.Comm ∷
    key.Request ∷
    key.Status ∷
    key.Auto ∷
    key.Case ∷
    key.Const ∷
    key.Default ∷
    key.Double ∷
    key.Enum ∷
    key.Extern ∷
    key.Float ∷
    key.Goto ∷
    key.Inline ∷
    key.Register ∷
    key.Restrict ∷
    key.Short ∷
    key.Signed ∷
    key.Struct ∷
    key.Switch ∷
    key.Typedef ∷
    key.Union ∷
    key.Unsigned ∷
    key.Volatile ∷
    key.Bool ∷
    key.Complex ∷
    key.Imaginary ∷
    []

-- all signs, the longer ones first
abbrev pub all_signs : List Sign
all_signs =
    sign.ShiftLeftAssign ∷
    sign.ShiftRightAssign ∷
    sign.Increment ∷
    sign.Decrement ∷
    sign.LogicalAnd ∷
    sign.LogicalOr ∷
    sign.Equal ∷
    sign.NotEqual ∷
    sign.LessEqual ∷
    sign.GreaterEqual ∷
    sign.ShiftLeft ∷
    sign.ShiftRight ∷
    sign.AddAssign ∷
    sign.SubtractAssign ∷
    sign.MultiplyAssign ∷
    sign.DivideAssign ∷
    sign.RemainderAssign ∷
    sign.AndAssign ∷
    sign.OrAssign ∷
    sign.XorAssign ∷
    sign.OpenParenthesis ∷
    sign.CloseParenthesis ∷
    sign.OpenBracket ∷
    sign.CloseBracket ∷
    sign.OpenBrace ∷
    sign.CloseBrace ∷
    sign.Semicolon ∷
    sign.Comma ∷
    sign.Dot ∷
    sign.Question ∷
    sign.Colon ∷
    sign.Plus ∷
    sign.Minus ∷
    sign.Star ∷
    sign.Slash ∷
    sign.Percent ∷
    sign.Ampersand ∷
    sign.Bar ∷
    sign.Caret ∷
    sign.Tilde ∷
    sign.Exclamation ∷
    sign.Less ∷
    sign.Greater ∷
    sign.Assign ∷
    []

-- a row of the code's tables
abbrev pub row_of : {A : Type 0} → Bor (List ℕ) × A → List ℕ × A
row_of p = (p.0.now, p.1)

abbrev pub key_row : Key → List ℕ × Key
key_row k = (key_spelling k, k)

abbrev pub sign_row : Sign → List ℕ × Sign
sign_row s = (sign_spelling s, s)

-- what the word stands for, by the first row that has it
abbrev pub looked_up : {A : Type 0} → List (List ℕ × A) → List ℕ → Option A
looked_up [] word = None
looked_up (row ∷ rows) word = cond (bytes_eq word row.0) (Some row.1) (looked_up rows word)

-- the key that is spelt so
unfoldable pub key_of : List ℕ → Option Key
key_of word = looked_up (map key_row all_keys) word

abbrev pub is_key : List ℕ → Bool
is_key word = is_some (key_of word)

-- the first sign among some rows that the bytes begin with, and its length
abbrev pub first_sign : List (List ℕ × Sign) → List ℕ → Option (Sign × ℕ)
first_sign [] bytes = None
first_sign (row ∷ rows) bytes = cond (starts_with eqb bytes row.0) (Some (row.1, length row.0)) (first_sign rows bytes)

-- the longest sign at the front, and its length
unfoldable pub sign_at : List ℕ → Option (Sign × ℕ)
sign_at bytes = first_sign (map sign_row all_signs) bytes
