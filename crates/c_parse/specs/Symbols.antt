-- What the grammar sees of the tokens of a source.
use Rattle.std.specs.Prelude.{◌≡◌, ℕ, Bool, List, [], ◌∷◌, map, take, drop, Some, None}
use Rattle.c_lex.specs.declared.keys.Key.{Key as Word}
use Rattle.c_lex.specs.declared.keys.Key.TheVariants as word
use Rattle.c_lex.specs.declared.signs.Sign.{Sign}
use Rattle.c_lex.specs.declared.signs.Sign.TheVariants as sign
use Rattle.c_lex.specs.declared.tokens.Token.{Token}
use Rattle.c_lex.specs.declared.tokens.Kind.TheVariants as kind
use Rattle.hls_pragma.specs.declared.directives.NameSpan.{NameSpan}
use Rattle.hls_pragma.specs.declared.directives.Pragma.{Pragma}
use Rattle.hls_pragma.specs.declared.directives.Pragma.TheVariants as pragma
use Rattle.hls_pragma.specs.Reads.{Reads}
use Rattle.c_tree.specs.declared.syntax.Place.{Place}
use Rattle.c_tree.specs.declared.syntax.Binary.TheVariants as binary
use Rattle.c_tree.specs.declared.syntax.Unary.TheVariants as unary
use Rattle.c_tree.specs.declared.syntax.Change.TheVariants as change
use Rattle.c_parse.specs.declared.symbols.Class.{Class}
use Rattle.c_parse.specs.declared.symbols.Class.TheVariants as class
use Rattle.c_parse.specs.declared.symbols.Key.TheVariants as key
use Rattle.c_parse.specs.declared.symbols.Mark.TheVariants as mark
use Rattle.c_parse.specs.declared.symbols.Symbol.{Symbol}

-- a token as the grammar sees it: its place, what it is, its bytes, and the names that a directive lists
pub record Sym : Type 0 where
  pub at : Place
  pub class : Class
  pub bytes : List ℕ
  pub names : List (List ℕ)

-- the code's symbol with its bytes
abbrev pub sym_of : List ℕ → Symbol → Sym
sym_of src s = record { at = s.at; class = s.class; bytes = take s.len (drop s.start src); names = s.names }

-- what a key is to the grammar; no production uses the other keys
unfoldable pub key_class : Word → Class
key_class word.Int = class.Key key.Int
key_class word.Long = class.Key key.Long
key_class word.Void = class.Key key.Void
key_class word.Char = class.Key key.Char
key_class word.Static = class.Key key.Static
key_class word.If = class.Key key.If
key_class word.Else = class.Key key.Else
key_class word.While = class.Key key.While
key_class word.Do = class.Key key.Do
key_class word.For = class.Key key.For
key_class word.Return = class.Key key.Return
key_class word.Break = class.Key key.Break
key_class word.Continue = class.Key key.Continue
key_class word.SizeOf = class.Key key.SizeOf
key_class word.Comm = class.Key key.Comm
key_class word.Request = class.Key key.Request
key_class word.Status = class.Key key.Status
key_class k = class.Other

-- what a sign that stands between operands is to the grammar: one that computes, or that computes and assigns
unfoldable pub operator_class : Sign → Class
operator_class sign.Star = class.Binary binary.Multiply
operator_class sign.Slash = class.Binary binary.Divide
operator_class sign.Percent = class.Binary binary.Remainder
operator_class sign.Plus = class.Binary binary.Add
operator_class sign.Minus = class.Binary binary.Subtract
operator_class sign.ShiftLeft = class.Binary binary.ShiftLeft
operator_class sign.ShiftRight = class.Binary binary.ShiftRight
operator_class sign.Less = class.Binary binary.Less
operator_class sign.Greater = class.Binary binary.Greater
operator_class sign.LessEqual = class.Binary binary.LessEqual
operator_class sign.GreaterEqual = class.Binary binary.GreaterEqual
operator_class sign.Equal = class.Binary binary.Equal
operator_class sign.NotEqual = class.Binary binary.NotEqual
operator_class sign.Ampersand = class.Binary binary.BitAnd
operator_class sign.Caret = class.Binary binary.BitXor
operator_class sign.Bar = class.Binary binary.BitOr
operator_class sign.LogicalAnd = class.Binary binary.And
operator_class sign.LogicalOr = class.Binary binary.Or
operator_class sign.MultiplyAssign = class.Assign (Some binary.Multiply)
operator_class sign.DivideAssign = class.Assign (Some binary.Divide)
operator_class sign.RemainderAssign = class.Assign (Some binary.Remainder)
operator_class sign.AddAssign = class.Assign (Some binary.Add)
operator_class sign.SubtractAssign = class.Assign (Some binary.Subtract)
operator_class sign.ShiftLeftAssign = class.Assign (Some binary.ShiftLeft)
operator_class sign.ShiftRightAssign = class.Assign (Some binary.ShiftRight)
operator_class sign.AndAssign = class.Assign (Some binary.BitAnd)
operator_class sign.XorAssign = class.Assign (Some binary.BitXor)
operator_class sign.OrAssign = class.Assign (Some binary.BitOr)
operator_class s = class.Other

-- what a sign is to the grammar
unfoldable pub sign_class : Sign → Class
sign_class sign.OpenParenthesis = class.Mark mark.Open
sign_class sign.CloseParenthesis = class.Mark mark.Close
sign_class sign.OpenBracket = class.Mark mark.OpenSquare
sign_class sign.CloseBracket = class.Mark mark.CloseSquare
sign_class sign.OpenBrace = class.Mark mark.OpenBrace
sign_class sign.CloseBrace = class.Mark mark.CloseBrace
sign_class sign.Semicolon = class.Mark mark.Semicolon
sign_class sign.Comma = class.Mark mark.Comma
sign_class sign.Dot = class.Mark mark.Dot
sign_class sign.Question = class.Mark mark.Question
sign_class sign.Colon = class.Mark mark.Colon
sign_class sign.Exclamation = class.Unary unary.Not
sign_class sign.Tilde = class.Unary unary.Complement
sign_class sign.Increment = class.Change change.Increment
sign_class sign.Decrement = class.Change change.Decrement
sign_class sign.Assign = class.Assign None
sign_class s = operator_class s

-- the bytes of a token
abbrev pub bytes_of : List ℕ → Token → List ℕ
bytes_of src t = take t.len (drop t.start src)

-- the bytes of the names that a directive lists
abbrev pub named_in : List ℕ → List NameSpan → List (List ℕ)
named_in line names = map (λ n. take n.len (drop n.start line)) names

-- what a token is to the grammar, with the names that it lists
pub data Shows (src : List ℕ) (t : Token) : Class → List (List ℕ) → Type 0 where
  as_name : t.kind ≡ kind.Name → Shows src t class.Name []
  as_number : (value : _) (long : Bool) → t.kind ≡ kind.Number value long → Shows src t (class.Number value long) []
  as_text : t.kind ≡ kind.Text → Shows src t class.Text []
  as_key : (k : Word) → t.kind ≡ kind.Key k → Shows src t (key_class k) []
  as_sign : (s : Sign) → t.kind ≡ kind.Sign s → Shows src t (sign_class s) []
  as_scope : (level : _) (names : List NameSpan) → t.kind ≡ kind.Pragma → Reads (bytes_of src t) (pragma.Scope level names) → Shows src t (class.Scope level) (named_in (bytes_of src t) names)
  as_single : (names : List NameSpan) (nowait : Bool) → t.kind ≡ kind.Pragma → Reads (bytes_of src t) (pragma.Single names nowait) → Shows src t (class.Single nowait) (named_in (bytes_of src t) names)
  as_barrier : (names : List NameSpan) → t.kind ≡ kind.Pragma → Reads (bytes_of src t) (pragma.Barrier names) → Shows src t class.Barrier (named_in (bytes_of src t) names)
  as_refused : t.kind ≡ kind.Pragma → ((p : Pragma) → Reads (bytes_of src t) p → ⊥) → Shows src t class.Refused []

-- a token as a symbol
abbrev pub symbol_at : List ℕ → Token → Class → List (List ℕ) → Sym
symbol_at src t c names = record { at = record { line = t.line; col = t.col }; class = c; bytes = bytes_of src t; names = names }

-- the symbols of the tokens of a source; a foreign pragma is none
pub data Symbols (src : List ℕ) : List Token → List Sym → Type 0 where
  none : Symbols src [] []
  shown : (t : Token) (ts : List Token) (c : Class) (names : List (List ℕ)) (ss : List Sym) → Shows src t c names → Symbols src ts ss → Symbols src (t ∷ ts) (symbol_at src t c names ∷ ss)
  foreign : (t : Token) (ts : List Token) (ss : List Sym) → t.kind ≡ kind.Pragma → Reads (bytes_of src t) pragma.Foreign → Symbols src ts ss → Symbols src (t ∷ ts) ss

-- the line of the last symbol; 1 where there is none
abbrev pub last_line : List Sym → ℕ
last_line [] = 1
last_line (s ∷ []) = s.at.line
last_line (s ∷ t ∷ ts) = last_line (t ∷ ts)
