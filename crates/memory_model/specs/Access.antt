-- What each access of memory does, or which fault it has.
use Rattle.std.specs.Prelude.{ℕ, zero, suc, ℤ, pos, negsuc, ◌+◌, Bool, true, false, ◌==◌, ◌&&◌, nat_le, if◌then◌else◌, length, replicate, slice_get, slice_set, Option, Some, None}
use Rattle.mpc_values.specs.declared.values.Word.{Word}
use Rattle.mpc_values.specs.declared.values.Word.TheVariants.{Undef, Int, Null, Ptr, Comm, Req}
use Rattle.mpc_values.specs.declared.values.Obj.{Obj}
use Rattle.mpc_values.specs.declared.values.Obj.TheVariants.{Glob, Dyn}
use Rattle.mpc_values.specs.declared.owners.Owner.{Owner}
use Rattle.mpc_values.specs.declared.owners.Owner.TheVariants.{Task}
use Rattle.mpc_values.specs.declared.answers.Answer.{Answer}
use Rattle.mpc_values.specs.declared.answers.Answer.TheVariants.{Done, Gives}
use Rattle.mpc_values.specs.declared.faults.Fault.{Fault}
use Rattle.mpc_values.specs.declared.faults.Fault.TheVariants.{Uninit, Bounds, Dangling, StackFull, PendingDrop}
use Rattle.memory_model.specs.declared.kinds.Kind.{Kind}
use Rattle.memory_model.specs.declared.kinds.Kind.TheVariants.{Static, Local, Block}
use Rattle.memory_model.specs.Memory.{Memory, Object, object_of, with_object, without}
use Rattle.memory_model.specs.Marks.{Marks, barred_to_loads, barred_to_stores, is_some_place}
use Rattle.memory_model.specs.Ranges.{Range, Within, NoRange, range_of}

-- What the accesses of a task find and leave: the memories of the run, and how many objects the task has made.
pub record Objects : Type 0 where
  pub memory : Memory
  pub made : ℕ

-- What an access does: an answer and the objects after it, or a fault.
pub data Access : Type 0 where
  Answers : (answer : Answer) (objects : Objects) → Access
  Breaks : (fault : Fault) → Access

-- what a place gives that holds this word
abbrev pub given : Objects → Option Word → Access
given o (Some (Int z)) = Answers (Gives (Int z)) o
given o (Some Null) = Answers (Gives Null) o
given o (Some (Ptr obj at)) = Answers (Gives (Ptr obj at)) o
given o (Some (Comm comm)) = Answers (Gives (Comm comm)) o
given o (Some (Req req)) = Answers (Gives (Req req)) o
given o (Some Undef) = Breaks Uninit
given o None = Breaks Bounds

-- the same by the range
abbrev pub load_in : Objects → Range → Access
load_in o (Within owner obj at object) = given o (slice_get object.words at)
load_in o (NoRange fault) = Breaks fault

-- A load gives the word of a place. After the faults of the range, an unset word is Uninit.
abbrev pub load : (Obj → Owner) → Marks → Objects → Word → Access
load owner_of marks o at = load_in o (range_of owner_of (barred_to_loads marks) o.memory at 1)

-- the object with a word at a place
abbrev pub with_word : Object → ℕ → Word → Object
with_word object at word = record { kind = object.kind; words = slice_set object.words at word }

-- the same by the range
abbrev pub store_in : Objects → Word → Range → Access
store_in o word (Within owner obj at object) =
    Answers Done (record { memory = with_object o.memory owner obj (with_word object at word); made = o.made })
store_in o word (NoRange fault) = Breaks fault

-- A store changes the word of a place, and nothing else.
abbrev pub store : (Obj → Owner) → Marks → Objects → Word → Word → Access
store owner_of marks o at word = store_in o word (range_of owner_of (barred_to_stores marks) o.memory at 1)

-- how many words an object has; one that does not live has none
abbrev pub length_of : Option Object → ℕ
length_of None = 0
length_of (Some object) = length object.words

-- the words of those objects that live, of so many that a task made, from a number on
abbrev pub live_from : Memory → ℕ → ℕ → ℕ → ℕ
live_from m task number zero = 0
live_from m task number (suc more) = length_of (object_of m (Task task) (Dyn number)) + live_from m task (number + 1) more

-- a task's live words: those of its live locals and blocks, which are the live ones among the objects that it made
abbrev pub live_words : ℕ → Objects → ℕ
live_words task o = live_from o.memory task 1 o.made

-- The task makes an object of so many words, all unset. Its name is new: it is the k-th that the task made, counted from 1.
abbrev pub makes : ℕ → Objects → Kind → ℕ → Access
makes task o kind len =
    Answers (Gives (Ptr (Dyn (o.made + 1)) 0)) (record {
      memory = with_object o.memory (Task task) (Dyn (o.made + 1)) (record { kind = kind; words = replicate len Undef });
      made = o.made + 1;
    })

-- A local of so many words, or StackFull, where it would exceed the quota of a task's live words.
abbrev pub new : ℕ → ℕ → Objects → ℕ → Access
new quota task o len = if nat_le (live_words task o + len) quota then makes task o Local len else Breaks StackFull

-- A block of so many words, of 0 too; NULL, where the number is negative or the block would exceed the quota (C99,
-- section 7.20.3.3).
abbrev pub malloc : ℕ → ℕ → Objects → ℤ → Access
malloc quota task o (pos n) = if nat_le (live_words task o + n) quota then makes task o Block n else Answers (Gives Null) o
malloc quota task o (negsuc n) = Answers (Gives Null) o

-- The end of a live object of the task, or PendingDrop, where a message under way has one of its places.
abbrev pub ends : Marks → ℕ → Objects → Obj → Object → Access
ends marks task o obj object =
    if is_some_place (barred_to_stores marks) (Task task) obj 0 (length object.words) then Breaks PendingDrop
    else Answers Done (record { memory = without o.memory (Task task) obj; made = o.made })

-- the same by the object of that name
abbrev pub drop_in : Marks → ℕ → Objects → Obj → Option Object → Access
drop_in marks task o obj None = Breaks Dangling
drop_in marks task o obj (Some object) = ends marks task o obj object

-- The end of an object that the task made, or Dangling, where none of that name lives.
abbrev pub drop : Marks → ℕ → Objects → Obj → Access
drop marks task o (Glob variable) = Breaks Dangling
drop marks task o (Dyn made) = drop_in marks task o (Dyn made) (object_of o.memory (Task task) (Dyn made))

-- who may free an object of this kind: malloc makes blocks
abbrev pub is_block : Kind → Bool
is_block Static = false
is_block Local = false
is_block Block = true

-- the same by the object of that name
abbrev pub free_in : Marks → ℕ → Objects → Obj → ℕ → Option Object → Access
free_in marks task o obj at None = Breaks Dangling
free_in marks task o obj at (Some object) = if at == 0 && is_block object.kind then ends marks task o obj object else Breaks Dangling

-- the end of a block, by an object and a place of it
abbrev pub free_at : Marks → ℕ → Objects → Obj → ℕ → Access
free_at marks task o (Glob variable) at = Breaks Dangling
free_at marks task o (Dyn made) at = free_in marks task o (Dyn made) at (object_of o.memory (Task task) (Dyn made))

-- The end of a block, by its first place; NULL asks for nothing (C99, section 7.20.3.2). Any other word is Dangling.
abbrev pub free : Marks → ℕ → Objects → Word → Access
free marks task o Null = Answers Done o
free marks task o (Ptr obj at) = free_at marks task o obj at
free marks task o Undef = Breaks Dangling
free marks task o (Int z) = Breaks Dangling
free marks task o (Comm comm) = Breaks Dangling
free marks task o (Req req) = Breaks Dangling
