-- The answers of accesses of memory are of their kinds.
use Rattle.std.specs.Prelude.{ℕ, ℤ, pos, negsuc, Bool, true, false, T, if◌then◌else◌, slice_get, Option, Some, None}
use Rattle.mpc_values.specs.declared.values.Word.{Word}
use Rattle.mpc_values.specs.declared.values.Word.TheVariants.{Undef, Int, Null, Ptr, Comm, Req}
use Rattle.mpc_values.specs.declared.values.Obj.{Obj}
use Rattle.mpc_values.specs.declared.values.Obj.TheVariants.{Glob, Dyn}
use Rattle.mpc_values.specs.declared.answers.Answer.{Answer}
use Rattle.mpc_values.specs.declared.faults.Fault.{Fault}
use Rattle.c_tree.specs.Asking.{AnswerKind, OfDone, OfWord, is_of}
use Rattle.memory_model.specs.Memory.{Object}
use Rattle.memory_model.specs.Marks.{Marks}
use Rattle.memory_model.specs.Ranges.{Range, Within, NoRange}
use Rattle.memory_model.specs.Access as access
use Rattle.memory_model.specs.Access.{Objects, Access, Answers, Breaks}
use Rattle.run_model.specs.World.{Core}
use Rattle.run_model.specs.MemoryCalls as memory
use Rattle.run_model.proofs.Fitting.{Fits}

-- the same of an access
unfoldable pub FitsAccess : AnswerKind → Access → Type 0
FitsAccess kind (Answers answer o) = T (is_of kind answer)
FitsAccess kind (Breaks fault) = Unit {0}

pub breaks_fits : (kind : AnswerKind) (fault : Fault) → FitsAccess kind (Breaks fault)
unfolding FitsAccess
breaks_fits kind fault = tt

pub answers_fits : (kind : AnswerKind) (answer : Answer) (o : Objects) → T (is_of kind answer) → FitsAccess kind (Answers answer o)
unfolding FitsAccess
answers_fits kind answer o h = h

pub access_if : (kind : AnswerKind) (b : Bool) (x y : Access) → FitsAccess kind x → FitsAccess kind y → FitsAccess kind (if b then x else y)
access_if kind true x y h g = h
access_if kind false x y h g = g

pub fits_accessed : (kind : AnswerKind) (core : Core) (task : ℕ) (a : Access) → FitsAccess kind a → Fits kind (memory.accessed core task a)
unfolding Fits FitsAccess
fits_accessed kind core task (Answers answer o) h = h
fits_accessed kind core task (Breaks fault) h = tt

pub given_fits : (o : Objects) (word : Option Word) → FitsAccess OfWord (access.given o word)
unfolding FitsAccess
given_fits o None = tt
given_fits o (Some Undef) = tt
given_fits o (Some (Int z)) = tt
given_fits o (Some Null) = tt
given_fits o (Some (Ptr obj at)) = tt
given_fits o (Some (Comm comm)) = tt
given_fits o (Some (Req req)) = tt

pub load_fits : (o : Objects) (r : Range) → FitsAccess OfWord (access.load_in o r)
unfolding FitsAccess
load_fits o (Within owner obj at object) = given_fits o (slice_get object.words at)
load_fits o (NoRange fault) = tt

pub store_fits : (o : Objects) (word : Word) (r : Range) → FitsAccess OfDone (access.store_in o word r)
unfolding FitsAccess
store_fits o word (Within owner obj at object) = tt
store_fits o word (NoRange fault) = tt

pub malloc_fits : (quota task : ℕ) (o : Objects) (n : ℤ) → FitsAccess OfWord (access.malloc quota task o n)
malloc_fits quota task o (pos n) = search (access_if, answers_fits)
malloc_fits quota task o (negsuc n) = answers_fits OfWord _ _ tt

pub ends_fits : (marks : Marks) (task : ℕ) (o : Objects) (obj : Obj) (object : Object) → FitsAccess OfDone (access.ends marks task o obj object)
ends_fits marks task o obj object = search (access_if, breaks_fits, answers_fits)

pub new_fits : (quota task : ℕ) (o : Objects) (len : ℕ) → FitsAccess OfWord (access.new quota task o len)
new_fits quota task o len = search (access_if, answers_fits, breaks_fits)

pub drop_in_fits : (marks : Marks) (task : ℕ) (o : Objects) (obj : Obj) (object : Option Object) → FitsAccess OfDone (access.drop_in marks task o obj object)
unfolding FitsAccess
drop_in_fits marks task o obj None = tt
drop_in_fits marks task o obj (Some object) = ends_fits marks task o obj object

pub drop_fits : (marks : Marks) (task : ℕ) (o : Objects) (obj : Obj) → FitsAccess OfDone (access.drop marks task o obj)
unfolding FitsAccess
drop_fits marks task o (Glob variable) = tt
drop_fits marks task o (Dyn made) = drop_in_fits marks task o (Dyn made) _

pub free_in_fits : (marks : Marks) (task : ℕ) (o : Objects) (obj : Obj) (at : ℕ) (object : Option Object) → FitsAccess OfDone (access.free_in marks task o obj at object)
free_in_fits marks task o obj at None = breaks_fits OfDone _
free_in_fits marks task o obj at (Some object) = search (access_if, ends_fits, breaks_fits)

pub free_at_fits : (marks : Marks) (task : ℕ) (o : Objects) (obj : Obj) (at : ℕ) → FitsAccess OfDone (access.free_at marks task o obj at)
unfolding FitsAccess
free_at_fits marks task o (Glob variable) at = tt
free_at_fits marks task o (Dyn made) at = free_in_fits marks task o (Dyn made) at _

pub free_fits : (marks : Marks) (task : ℕ) (o : Objects) (at : Word) → FitsAccess OfDone (access.free marks task o at)
unfolding FitsAccess
free_fits marks task o Null = tt
free_fits marks task o (Ptr obj at) = free_at_fits marks task o obj at
free_fits marks task o Undef = tt
free_fits marks task o (Int z) = tt
free_fits marks task o (Comm comm) = tt
free_fits marks task o (Req req) = tt
