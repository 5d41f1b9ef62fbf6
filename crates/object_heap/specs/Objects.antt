-- The objects that a heap holds.
use Rattle.std.specs.Prelude.{◌≡◌, ℕ, Bool, false, List, [], take, drop, map, position, Option, Some, None}
use Rattle.std.specs.List.{range_with_len}
use Rattle.mpc_values.specs.declared.values.Word.{Word}
use Rattle.mpc_values.specs.declared.values.Word.TheVariants.{Undef}
use Rattle.mpc_values.specs.declared.values.Obj.{Obj}
use Rattle.mpc_values.specs.declared.owners.Owner.{Owner}
use Rattle.memory_model.specs.Memory.{Memory, Object, object_of, is_same_object}
use Rattle.memory_model.specs.Ranges.{overwritten}
use Rattle.block_table.specs.declared.rows.Row.{Row}
use Rattle.block_table.specs.declared.rows.Span.{Span}
use Rattle.block_table.specs.Rows.{Live, Rows}
use Rattle.word_region.specs.Places.{cell}
use Rattle.object_heap.specs.Layout.{Layout, row_of}

-- the word of a cell; a place that nobody holds has none
abbrev pub word_or : Option Word → Word
word_or None = Undef
word_or (Some word) = word

-- the word of a place of the region
abbrev pub word_at : List (Option Word) → ℕ → Word
word_at cells p = word_or (cell cells p)

-- the words of so many places of the region, from a base on
unfoldable pub words_from : List (Option Word) → ℕ → ℕ → List Word
words_from cells base len = map (word_at cells) (range_with_len base len)

-- the object of a row
abbrev pub object_by : List (Option Word) → Option Row → Option Object
object_by cells None = None
object_by cells (Some row) = Some (record { kind = row.kind; words = words_from cells row.base row.len })

-- the object of a key
abbrev pub object_at : Layout → ℕ → Option Object
object_at h key = object_by h.cells (row_of h key)

-- the live row is of this object of this owner
abbrev pub is_named : Owner → Obj → Option Live → Bool
is_named owner obj None = false
is_named owner obj (Some l) = is_same_object l.row.owner l.row.obj owner obj

-- the key of an object: that of the first row of its name
unfoldable pub key_named : Rows → Owner → Obj → Option ℕ
key_named rows owner obj = position (is_named owner obj) rows

-- the object of a key, where there is one
abbrev pub object_where : Layout → Option ℕ → Option Object
object_where h None = None
object_where h (Some key) = object_at h key

-- an owner's object, with the words that stand in the range of its row, where it lives
abbrev pub object_in : Layout → Owner → Obj → Option Object
object_in h owner obj = object_where h (key_named h.rows owner obj)

-- The heap holds the objects of the memory.
abbrev pub Shows : Layout → Memory → Type 0
Shows h m = (owner : Owner) (obj : Obj) → object_of m owner obj ≡ object_in h owner obj

-- some words of an object
abbrev pub part : Option Object → ℕ → ℕ → List Word
part None at len = []
part (Some object) at len = take len (drop at object.words)

-- the words of a span
abbrev pub span_words : Layout → Span → List Word
span_words h span = part (object_at h span.key) span.at span.len

-- the object with these words from a place on, in place of as many
abbrev pub with_words : Object → ℕ → List Word → Object
with_words object at new = record { kind = object.kind; words = overwritten object.words at new }
