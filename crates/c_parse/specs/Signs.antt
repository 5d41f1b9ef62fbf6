-- What the grammar sees in a symbol by itself: which mark, key or name it is, which operator, and which base it begins (C99, sections 6.4 and 6.5).
use Rattle.std.specs.Prelude.{ℕ, Bool, true, false, if◌then◌else◌, ◌==◌, Option, Some, None, is_some}
use denote.Enum.Bare.{sameb}
use Rattle.c_tree.specs.declared.syntax.Place.{Place}
use Rattle.c_tree.specs.declared.syntax.Base.{Base}
use Rattle.c_tree.specs.declared.syntax.Base.TheVariants as base
use Rattle.c_tree.specs.declared.syntax.Unary.TheVariants as unary_sign
use Rattle.c_tree.specs.declared.syntax.Binary.{Binary}
use Rattle.c_tree.specs.declared.syntax.Binary.TheVariants as binary_sign
use Rattle.c_tree.specs.Syntax as x
use Rattle.c_parse.specs.declared.symbols.Class.{Class}
use Rattle.c_parse.specs.declared.symbols.Class.TheVariants as class
use Rattle.c_parse.specs.declared.symbols.Key.{Key}
use Rattle.c_parse.specs.declared.symbols.Key.TheVariants as key
use Rattle.c_parse.specs.declared.symbols.Mark.{Mark}
use Rattle.c_parse.specs.declared.signs.Prefix.{Prefix}
use Rattle.c_parse.specs.declared.signs.Prefix.TheVariants.{Sign, Step}

-- ---- marks, keys and names

unfoldable pub same_mark : Mark → Mark → Bool
same_mark = sameb Rattle.c_parse.specs.contracts.symbols.Mark.the_type

unfoldable pub same_key : Key → Key → Bool
same_key = sameb Rattle.c_parse.specs.contracts.symbols.Key.the_type

abbrev pub is_mark : Mark → Class → Bool
is_mark m (class.Mark found) = same_mark found m
is_mark m c = false

abbrev pub is_key : Key → Class → Bool
is_key k (class.Key found) = same_key found k
is_key k c = false

abbrev pub is_name : Class → Bool
is_name class.Name = true
is_name c = false

-- ---- operators

-- the level of a sign between operands, from the tightest
abbrev pub level_of : Binary → ℕ
level_of binary_sign.Multiply = 0
level_of binary_sign.Divide = 0
level_of binary_sign.Remainder = 0
level_of binary_sign.Add = 1
level_of binary_sign.Subtract = 1
level_of binary_sign.ShiftLeft = 2
level_of binary_sign.ShiftRight = 2
level_of binary_sign.Less = 3
level_of binary_sign.Greater = 3
level_of binary_sign.LessEqual = 3
level_of binary_sign.GreaterEqual = 3
level_of binary_sign.Equal = 4
level_of binary_sign.NotEqual = 4
level_of binary_sign.BitAnd = 5
level_of binary_sign.BitXor = 6
level_of binary_sign.BitOr = 7
level_of binary_sign.And = 8
level_of binary_sign.Or = 9

-- the sign between operands, if it is of this level
abbrev pub binary_of : ℕ → Class → Option Binary
binary_of level (class.Binary sign) = if level_of sign == level then Some sign else None
binary_of level c = None

-- the sign before an operand that a sign between operands also is
abbrev pub turned : Binary → Option Prefix
turned binary_sign.Subtract = Some (Sign unary_sign.Minus)
turned binary_sign.Add = Some (Sign unary_sign.Plus)
turned binary_sign.Multiply = Some (Sign unary_sign.Indirection)
turned binary_sign.BitAnd = Some (Sign unary_sign.Address)
turned sign = None

-- the sign before an operand
abbrev pub prefix_of : Class → Option Prefix
prefix_of (class.Unary sign) = Some (Sign sign)
prefix_of (class.Change change) = Some (Step change)
prefix_of (class.Binary sign) = turned sign
prefix_of c = None

abbrev pub prefixed : Place → Prefix → x.Expr → x.Expr
prefixed at (Sign sign) operand = x.Unary' at sign operand
prefixed at (Step change) operand = x.Prefix at change operand

-- the sign of an assignment: None of =, and of a computing one that which it computes by
abbrev pub assigns : Class → Option (Option Binary)
assigns (class.Assign sign) = Some sign
assigns c = None

-- = alone
abbrev pub is_equals : Class → Bool
is_equals (class.Assign None) = true
is_equals c = false

-- ---- types

-- the base that a key begins
abbrev pub base_of : Class → Option Base
base_of (class.Key key.Int) = Some base.Int
base_of (class.Key key.Long) = Some base.Long
base_of (class.Key key.Comm) = Some base.Comm
base_of (class.Key key.Request) = Some base.Request
base_of (class.Key key.Status) = Some base.Status
base_of c = None

abbrev pub begins_base : Class → Bool
begins_base c = is_some (base_of c)

abbrev pub is_number : Base → Bool
is_number base.Int = true
is_number base.Long = true
is_number b = false

abbrev pub is_star : Class → Bool
is_star (class.Binary binary_sign.Multiply) = true
is_star c = false
