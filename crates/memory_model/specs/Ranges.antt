-- Ranges of places: which object they lie in, the faults of naming them, and their words.
use Rattle.std.specs.Prelude.{ℕ, zero, suc, ◌+◌, nat_le, if◌then◌else◌, List, [], ◌++◌, length, take, drop, Option, Some, None, Result, Ok, Err}
use Rattle.mpc_values.specs.declared.values.Word.{Word}
use Rattle.mpc_values.specs.declared.values.Word.TheVariants.{Undef, Int, Null, Ptr, Comm, Req}
use Rattle.mpc_values.specs.declared.values.Obj.{Obj}
use Rattle.mpc_values.specs.declared.owners.Owner.{Owner}
use Rattle.mpc_values.specs.declared.faults.Fault.{Fault}
use Rattle.mpc_values.specs.declared.faults.Fault.TheVariants.{NullAccess, Bounds, Dangling, PendingTouch}
use Rattle.memory_model.specs.declared.kinds.Span.{Span}
use Rattle.memory_model.specs.Memory.{Memory, Object, object_of, with_object}
use Rattle.memory_model.specs.Marks.{Places, is_some_place}

-- A range of one place or more of an object, or the fault of naming it.
pub data Range : Type 0 where
  Within : (owner : Owner) (obj : Obj) (at : ℕ) (object : Object) → Range
  NoRange : (fault : Fault) → Range

-- the same by the object of that name
abbrev pub range_in : Places → Owner → Obj → ℕ → ℕ → Option Object → Range
range_in barred owner obj at count None = NoRange Dangling
range_in barred owner obj at count (Some object) =
    if nat_le (at + count) (length object.words)
    then (if is_some_place barred owner obj at count then NoRange PendingTouch else Within owner obj at object)
    else NoRange Bounds

-- The range of so many places, one or more, from the one that a word names. Its faults, in their order: NullAccess,
-- where the word is no pointer; Dangling, where the object does not live; Bounds, where a place lies outside it;
-- PendingTouch, where a place is barred. `owner_of` tells whose copy of an object the asking task touches.
abbrev pub range_of : (Obj → Owner) → Places → Memory → Word → ℕ → Range
range_of owner_of barred m (Ptr obj at) count = range_in barred (owner_of obj) obj at count (object_of m (owner_of obj) obj)
range_of owner_of barred m Undef count = NoRange NullAccess
range_of owner_of barred m (Int z) count = NoRange NullAccess
range_of owner_of barred m Null count = NoRange NullAccess
range_of owner_of barred m (Comm comm) count = NoRange NullAccess
range_of owner_of barred m (Req req) count = NoRange NullAccess

-- the range as places
abbrev pub span_in : ℕ → Range → Result (Option Span) Fault
span_in count (Within owner obj at object) = Ok (Some (record { owner = owner; obj = obj; at = at; count = count }))
span_in count (NoRange fault) = Err fault

-- The places that a message or a collective call names, or their first fault. A range of no places is none, and has
-- no fault, whatever word names it.
abbrev pub span_of : (Obj → Owner) → Places → Memory → Word → ℕ → Result (Option Span) Fault
span_of owner_of barred m at zero = Ok None
span_of owner_of barred m at (suc more) = span_in (suc more) (range_of owner_of barred m at (suc more))

-- the same by the object
abbrev pub words_in : Span → Option Object → List Word
words_in span None = []
words_in span (Some object) = take span.count (drop span.at object.words)

-- the words of some places
abbrev pub words_at : Memory → Option Span → List Word
words_at m None = []
words_at m (Some span) = words_in span (object_of m span.owner span.obj)

-- the list with these words from a place on, in place of as many
abbrev pub overwritten : List Word → ℕ → List Word → List Word
overwritten words at new = take at words ++ (new ++ drop (at + length new) words)

-- the same by the object
abbrev pub written_in : Memory → Span → List Word → Option Object → Memory
written_in m span new None = m
written_in m span new (Some object) =
    if nat_le (span.at + length new) (length object.words)
    then with_object m span.owner span.obj (record { kind = object.kind; words = overwritten object.words span.at new })
    else m

-- The memory with these words in the first of some places. Where the object does not live or the words do not fit into
-- it, nothing changes.
abbrev pub with_words_at : Memory → Option Span → List Word → Memory
with_words_at m None new = m
with_words_at m (Some span) new = written_in m span new (object_of m span.owner span.obj)
