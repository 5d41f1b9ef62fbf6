-- What is read of a format so far, by what it becomes with the rest.
use Rattle.std.specs.Prelude.{◌≡◌, ℕ, List, [], ◌∷◌, ◌++◌, Option, None, Some, option_map}
use Rattle.c_tree.specs.declared.program.Width.{Width}
use Rattle.c_tree.specs.declared.formats.Piece.{Piece}
use Rattle.c_types.specs.declared.formats.Begun.{Begun}
use Rattle.c_types.specs.declared.formats.Begun.TheVariants.{Outside, Percent, PercentL}
use Rattle.c_types.specs.declared.formats.Draft.{Draft}
use Rattle.c_types.specs.declared.formats.ReadFormat.{ReadFormat}
use Rattle.c_types.specs.Formats as formats
use Rattle.c_types.specs.Formats.{Part, with_byte, pieces_of, widths_of, parts_from}

-- bytes before pieces
abbrev pub joined : List ℕ → List Piece → List Piece
joined [] pieces = pieces
joined (c ∷ cs) pieces = with_byte c (joined cs pieces)

-- a draft with parts behind it: its pieces and its widths
abbrev pub completed : Draft → List Part → List Piece × List Width
completed draft parts = (draft.pieces.items ++ joined draft.run.items (pieces_of parts), draft.widths.items ++ widths_of parts)

abbrev pub begun_of : Begun → formats.Begun
begun_of Outside = formats.Outside
begun_of Percent = formats.Percent
begun_of PercentL = formats.PercentL

-- a draft with the bytes behind it, unless the format has been given up
abbrev pub completed_from : Option Begun → List ℕ → Draft → Option (List Piece × List Width)
completed_from None bytes draft = None
completed_from (Some begun) bytes draft = option_map (completed draft) (parts_from (begun_of begun) bytes)

abbrev pub parts_read : List Part → List Piece × List Width
parts_read parts = (pieces_of parts, widths_of parts)

abbrev pub format_read : ReadFormat → List Piece × List Width
format_read format = (format.pieces, format.widths.items)

-- the format has these parts, or there is none where they are none
abbrev pub Reads : Option (List Part) → Option ReadFormat → Type 0
Reads parts format = option_map format_read format ≡ option_map parts_read parts
