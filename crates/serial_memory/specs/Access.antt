-- What each access of memory does, or which fault it has.
use Rattle.std.specs.Prelude.{ℕ, zero, suc, ℤ, pos, negsuc, ◌+◌, Bool, true, false, ◌==◌, ◌&&◌, nat_le, if◌then◌else◌, length, replicate, slice_get, slice_set, Option, Some, None}
use Rattle.mpc_values.specs.declared.values.Word.{Word}
use Rattle.mpc_values.specs.declared.values.Word.TheVariants.{Undef, Int, Null, Ptr, Comm, Req}
use Rattle.mpc_values.specs.declared.values.Obj.{Obj}
use Rattle.mpc_values.specs.declared.values.Obj.TheVariants.{Glob, Dyn}
use Rattle.mpc_values.specs.declared.owners.Owner.{Owner}
use Rattle.mpc_values.specs.declared.owners.Owner.TheVariants.{Task}
use Rattle.mpc_values.specs.declared.answers.Answer.{Answer}
use Rattle.mpc_values.specs.declared.answers.Answer.TheVariants.{Done, Gives}
use Rattle.mpc_values.specs.declared.faults.Fault.{Fault}
use Rattle.mpc_values.specs.declared.faults.Fault.TheVariants.{Uninit, NullAccess, Bounds, Dangling, StackFull}
use Rattle.serial_memory.specs.declared.kinds.Kind.{Kind}
use Rattle.serial_memory.specs.declared.kinds.Kind.TheVariants.{Static, Local, Block}
use Rattle.serial_memory.specs.Memory.{Memory, Object, object_of, with_object, without}

-- What the accesses of a task find and leave: the memories of the run, and how many objects the task has made.
pub record Objects : Type 0 where
  pub memory : Memory
  pub made : ℕ

-- A range of places of an object, or the fault of naming it.
pub data Range : Type 0 where
  Places : (owner : Owner) (obj : Obj) (at : ℕ) (object : Object) → Range
  NoPlaces : (fault : Fault) → Range

abbrev pub range_in : Owner → Obj → ℕ → ℕ → Option Object → Range
range_in owner obj at count None = NoPlaces Dangling
range_in owner obj at count (Some object) =
    if nat_le (at + count) (length object.words) then Places owner obj at object else NoPlaces Bounds

-- The range of so many places from the one that a word names. Its faults, in their order: NullAccess, where the
-- word is no pointer; Dangling, where the object does not live; Bounds, where a place lies outside it. `owner_of`
-- tells whose copy of an object the asking task touches.
abbrev pub range_of : (Obj → Owner) → Memory → Word → ℕ → Range
range_of owner_of m (Ptr obj at) count = range_in (owner_of obj) obj at count (object_of m (owner_of obj) obj)
range_of owner_of m Undef count = NoPlaces NullAccess
range_of owner_of m (Int z) count = NoPlaces NullAccess
range_of owner_of m Null count = NoPlaces NullAccess
range_of owner_of m (Comm comm) count = NoPlaces NullAccess
range_of owner_of m (Req req) count = NoPlaces NullAccess

-- What an access does: an answer and the objects behind it, or a fault.
pub data Access : Type 0 where
  Answers : (answer : Answer) (objects : Objects) → Access
  Breaks : (fault : Fault) → Access

-- what a place gives that holds this word
abbrev pub given : Objects → Option Word → Access
given o (Some (Int z)) = Answers (Gives (Int z)) o
given o (Some Null) = Answers (Gives Null) o
given o (Some (Ptr obj at)) = Answers (Gives (Ptr obj at)) o
given o (Some (Comm comm)) = Answers (Gives (Comm comm)) o
given o (Some (Req req)) = Answers (Gives (Req req)) o
given o (Some Undef) = Breaks Uninit
given o None = Breaks Bounds

abbrev pub load_in : Objects → Range → Access
load_in o (Places owner obj at object) = given o (slice_get object.words at)
load_in o (NoPlaces fault) = Breaks fault

-- A load gives the word of a place. Behind the faults of the range, an unset word is Uninit.
abbrev pub load : (Obj → Owner) → Objects → Word → Access
load owner_of o at = load_in o (range_of owner_of o.memory at 1)

abbrev pub with_word : Object → ℕ → Word → Object
with_word object at word = record { kind = object.kind; words = slice_set object.words at word }

abbrev pub store_in : Objects → Word → Range → Access
store_in o word (Places owner obj at object) =
    Answers Done (record { memory = with_object o.memory owner obj (with_word object at word); made = o.made })
store_in o word (NoPlaces fault) = Breaks fault

-- A store changes the word of a place, and nothing else.
abbrev pub store : (Obj → Owner) → Objects → Word → Word → Access
store owner_of o at word = store_in o word (range_of owner_of o.memory at 1)

abbrev pub length_of : Option Object → ℕ
length_of None = 0
length_of (Some object) = length object.words

-- the words of those objects that live, of so many that a task made, from a number on
abbrev pub live_from : Memory → ℕ → ℕ → ℕ → ℕ
live_from m task number zero = 0
live_from m task number (suc more) = length_of (object_of m (Task task) (Dyn number)) + live_from m task (number + 1) more

-- a task's live words: those of its live locals and blocks, which are the live ones among the objects that it made
abbrev pub live_words : ℕ → Objects → ℕ
live_words task o = live_from o.memory task 1 o.made

-- The task makes an object of so many words, all unset. Its name is new: it is the k-th that the task made, counted from 1.
abbrev pub makes : ℕ → Objects → Kind → ℕ → Access
makes task o kind len =
    Answers (Gives (Ptr (Dyn (o.made + 1)) 0)) (record {
      memory = with_object o.memory (Task task) (Dyn (o.made + 1)) (record { kind = kind; words = replicate len Undef });
      made = o.made + 1;
    })

-- A local of so many words, or StackFull, where it would exceed the quota of a task's live words.
abbrev pub new : ℕ → ℕ → Objects → ℕ → Access
new quota task o len = if nat_le (live_words task o + len) quota then makes task o Local len else Breaks StackFull

-- A block of so many words, of 0 too; NULL, where the number is negative or the block would exceed the quota (C99,
-- section 7.20.3.3).
abbrev pub malloc : ℕ → ℕ → Objects → ℤ → Access
malloc quota task o (pos n) = if nat_le (live_words task o + n) quota then makes task o Block n else Answers (Gives Null) o
malloc quota task o (negsuc n) = Answers (Gives Null) o

-- the objects without one of the task's
abbrev pub ends : ℕ → Objects → Obj → Access
ends task o obj = Answers Done (record { memory = without o.memory (Task task) obj; made = o.made })

abbrev pub drop_in : ℕ → Objects → Obj → Option Object → Access
drop_in task o obj None = Breaks Dangling
drop_in task o obj (Some object) = ends task o obj

-- The end of an object that the task made, or Dangling, where none of that name lives.
abbrev pub drop : ℕ → Objects → Obj → Access
drop task o (Glob variable) = Breaks Dangling
drop task o (Dyn made) = drop_in task o (Dyn made) (object_of o.memory (Task task) (Dyn made))

abbrev pub is_block : Kind → Bool
is_block Static = false
is_block Local = false
is_block Block = true

-- whether a live block is this object
abbrev pub is_live_block : Option Object → Bool
is_live_block None = false
is_live_block (Some object) = is_block object.kind

abbrev pub free_at : ℕ → Objects → Obj → ℕ → Access
free_at task o (Glob variable) at = Breaks Dangling
free_at task o (Dyn made) at =
    if at == 0 && is_live_block (object_of o.memory (Task task) (Dyn made)) then ends task o (Dyn made) else Breaks Dangling

-- The end of a block, by its first place; NULL asks for nothing (C99, section 7.20.3.2). Any other word is Dangling.
abbrev pub free : ℕ → Objects → Word → Access
free task o Null = Answers Done o
free task o (Ptr obj at) = free_at task o obj at
free task o Undef = Breaks Dangling
free task o (Int z) = Breaks Dangling
free task o (Comm comm) = Breaks Dangling
free task o (Req req) = Breaks Dangling
