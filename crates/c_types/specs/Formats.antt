-- The formats of printf: texts of a source with their escapes and conversions (C99, sections 6.4.5 and 7.19.6.1).
use Rattle.std.specs.Prelude.{ℕ, Bool, true, false, cond, nat_eq, ◌&&◌, not, List, [], ◌∷◌, Option, None, Some, option_map}
use Rattle.c_tree.specs.declared.program.Width.{Width}
use Rattle.c_tree.specs.declared.program.Width.TheVariants as width
use Rattle.c_tree.specs.declared.formats.Piece.{Piece}
use Rattle.c_tree.specs.declared.formats.Piece.TheVariants.{Text, Number}
use Rattle.c_types.specs.declared.kinds.Kind.{Kind}
use Rattle.c_types.specs.Kinds.{int, long, same_kind, misses}

-- what stands for a byte behind a backslash: n is a line feed and t a tab, and the others stand for themselves
abbrev pub escaped : ℕ → ℕ
escaped c = cond (nat_eq c 110) 10 (cond (nat_eq c 116) 9 c)

-- the bytes up to the closing quote, escapes read; the flag says that a backslash stands just before
abbrev pub unescaped : Bool → List ℕ → List ℕ
unescaped pending [] = []
unescaped true (c ∷ cs) = escaped c ∷ unescaped false cs
unescaped false (c ∷ cs) = cond (nat_eq c 92) (unescaped true cs) (cond (nat_eq c 34) [] (c ∷ unescaped false cs))

-- the bytes that a text stands for: those behind its opening quote
abbrev pub text_bytes : List ℕ → List ℕ
text_bytes [] = []
text_bytes (quote ∷ cs) = unescaped false cs

-- a part of a format: a byte as it is, or a number in decimal
pub data Part : Type 0 where
  Byte : (c : ℕ) → Part
  Conversion : (width : Width) → Part

-- how far a conversion is read: none, behind %, or behind %l
pub data Begun : Type 0 where
  Outside : Begun
  Percent : Begun
  PercentL : Begun

abbrev pub before : Part → Option (List Part) → Option (List Part)
before part parts = option_map (λ rest. part ∷ rest) parts

-- the parts of a format, or none where it has another conversion than %d, %ld and %%
abbrev pub parts_from : Begun → List ℕ → Option (List Part)
parts_from Outside [] = Some []
parts_from Percent [] = None
parts_from PercentL [] = None
parts_from Outside (c ∷ cs) = cond (nat_eq c 37) (parts_from Percent cs) (before (Byte c) (parts_from Outside cs))
parts_from Percent (c ∷ cs) =
    cond (nat_eq c 100) (before (Conversion width.Int) (parts_from Outside cs))
    (cond (nat_eq c 108) (parts_from PercentL cs)
    (cond (nat_eq c 37) (before (Byte c) (parts_from Outside cs)) None))
parts_from PercentL (c ∷ cs) = cond (nat_eq c 100) (before (Conversion width.Long) (parts_from Outside cs)) None

-- the parts of the format that a text of a source is
unfoldable pub format_parts : List ℕ → Option (List Part)
format_parts text = parts_from Outside (text_bytes text)

-- the numbers that a format prints, by their widths
abbrev pub widths_of : List Part → List Width
widths_of [] = []
widths_of (Byte c ∷ rest) = widths_of rest
widths_of (Conversion width ∷ rest) = width ∷ widths_of rest

-- a byte before pieces: it joins a text that stands first
abbrev pub with_byte : ℕ → List Piece → List Piece
with_byte c [] = Text (c ∷ []) ∷ []
with_byte c (Text cs ∷ rest) = Text (c ∷ cs) ∷ rest
with_byte c (Number ∷ rest) = Text (c ∷ []) ∷ Number ∷ rest

-- the pieces of a format: runs of bytes, as long as can be, and numbers
abbrev pub pieces_of : List Part → List Piece
pieces_of [] = []
pieces_of (Byte c ∷ rest) = with_byte c (pieces_of rest)
pieces_of (Conversion width ∷ rest) = Number ∷ pieces_of rest

-- the type of the number that a conversion prints
abbrev pub printed_kind : Width → Kind
printed_kind width.Int = int
printed_kind width.Long = long

-- there is an int for each %d and a long for each %ld, in order, and no more
abbrev pub are_printed : List Width → List (Option Kind) → Bool
are_printed [] [] = true
are_printed (width ∷ widths) (given ∷ rest) = not (misses (same_kind (printed_kind width)) given) && are_printed widths rest
are_printed widths given = false

abbrev pub prints : Option (List Part) → List (Option Kind) → Bool
prints None given = false
prints (Some parts) given = are_printed (widths_of parts) given
