-- A call that is done has an answer of its kind.
use Rattle.std.proofs.Common.{◌≡◌, ◌+◌, ◌==◌, ◌&&◌, ℕ, ℤ, pos, negsuc, Bool, true, false, nat_le, if◌then◌else◌, List, length, slice_get, ◌++◌, Option, Some, None, refl, subst}
use Rattle.mpc_values.specs.declared.values.Word.{Word}
use Rattle.mpc_values.specs.declared.values.Word.TheVariants.{Undef, Int, Null, Ptr, Comm, Req}
use Rattle.mpc_values.specs.declared.values.Obj.{Obj}
use Rattle.mpc_values.specs.declared.values.Obj.TheVariants.{Glob, Dyn}
use Rattle.mpc_values.specs.declared.owners.Owner.TheVariants.{Task}
use Rattle.mpc_values.specs.declared.calls.Call.{Call}
use Rattle.mpc_values.specs.declared.calls.Call.TheVariants as call
use Rattle.mpc_values.specs.declared.answers.Answer.{Answer}
use Rattle.mpc_values.specs.declared.answers.Answer.TheVariants.{Gives}
use Rattle.mpc_values.specs.declared.faults.Fault.TheVariants.{Calls, OutputFull, StackFull, Dangling}
use Rattle.c_tree.specs.Asking.{Asks, AnswerKind, OfDone, OfWord, fits, is_of, kind_of}
use Rattle.c_tree.specs.Next.{next_of}
use Rattle.c_tree.specs.ProgramOf.{program_of}
use Rattle.serial_memory.specs.declared.kinds.Kind.TheVariants.{Local, Block}
use Rattle.serial_memory.specs.Memory.{Memory, Object, object_of}
use Rattle.serial_memory.specs.Access.{Objects, Range, Places, NoPlaces, range_of, Access, Answers, Breaks, given, load_in, store_in, new, malloc, drop, drop_in, free, free_at, makes, ends, is_live_block, live_words}
use Rattle.serial_model.specs.declared.records.Setup.{Setup}
use Rattle.serial_model.specs.World.{World, TaskState, owner_of}
use Rattle.serial_model.specs.Go.{Act, Does, Fails, Unbuilt, act, accessed, print, objects_of, quota, output_limit, calls_limit, count_of, Stays, acted, fails, visited, go, go_next, go_task, has_ended, has_finished, answers_of}
use Rattle.serial_model.specs.Run.{world_of}
use Rattle.serial_node.specs.declared.node.Reply.{Reply}
use Rattle.serial_node.specs.declared.node.Reply.TheVariants.{Did as DidReply, Stop}
use Rattle.serial_node.specs.Visits.{reply_of}
use Rattle.serial_node.specs.VisitLaws.{AsksNext, visit_reply}
use Rattle.serial_model.specs.declared.records.Setup.{Setup}
use Rattle.mpc_base.specs.declared.journals.Entry.{Entry}

-- an access answers with this kind
Kinds : AnswerKind → Access → Type 0
Kinds kind (Answers answer o) = is_of kind answer ≡ true
Kinds kind (Breaks fault) = Unit {0}

kinds_if : (kind : AnswerKind) (b : Bool) (x y : Access) → Kinds kind x → Kinds kind y → Kinds kind (if b then x else y)
kinds_if kind true x y kx ky = kx
kinds_if kind false x y kx ky = ky

module _ (o : Objects) where
  gives_word : (word : Option Word) → Kinds OfWord (given o word)
  unfolding Kinds
  gives_word (Some (Int z)) = refl
  gives_word (Some Null) = refl
  gives_word (Some (Ptr obj at)) = refl
  gives_word (Some (Comm comm)) = refl
  gives_word (Some (Req req)) = refl
  gives_word (Some Undef) = tt
  gives_word None = tt

  load_gives : (range : Range) → Kinds OfWord (load_in o range)
  unfolding Kinds
  load_gives (Places owner obj at object) = gives_word (slice_get object.words at)
  load_gives (NoPlaces fault) = tt

  store_done : (word : Word) (range : Range) → Kinds OfDone (store_in o word range)
  unfolding Kinds
  store_done word (Places owner obj at object) = refl
  store_done word (NoPlaces fault) = tt

  malloc_gives : (task : ℕ) (n : ℤ) → Kinds OfWord (malloc quota task o n)
  unfolding Kinds
  malloc_gives task (pos n) = kinds_if OfWord (nat_le (live_words task o + n) quota) (makes task o Block n) (Answers (Gives Null) o) refl refl
  malloc_gives task (negsuc n) = refl

  new_gives : (task len : ℕ) → Kinds OfWord (new quota task o len)
  unfolding Kinds
  new_gives task len = kinds_if OfWord (nat_le (live_words task o + len) quota) (makes task o Local len) (Breaks StackFull) refl tt

  dropped_done : (task : ℕ) (obj : Obj) (object : Option Object) → Kinds OfDone (drop_in task o obj object)
  unfolding Kinds
  dropped_done task obj None = tt
  dropped_done task obj (Some object) = refl

  drop_done : (task : ℕ) (obj : Obj) → Kinds OfDone (drop task o obj)
  unfolding Kinds
  drop_done task (Glob variable) = tt
  drop_done task (Dyn made) = dropped_done task (Dyn made) _

  free_at_done : (task : ℕ) (obj : Obj) (at : ℕ) → Kinds OfDone (free_at task o obj at)
  unfolding Kinds
  free_at_done task (Glob variable) at = tt
  free_at_done task (Dyn made) at =
      kinds_if OfDone (at == 0 && is_live_block (object_of o.memory (Task task) (Dyn made))) (ends task o (Dyn made)) (Breaks Dangling) refl tt

  free_done : (task : ℕ) (at : Word) → Kinds OfDone (free task o at)
  unfolding Kinds
  free_done task Null = refl
  free_done task (Ptr obj at) = free_at_done task obj at
  free_done task Undef = tt
  free_done task (Int z) = tt
  free_done task (Comm comm) = tt
  free_done task (Req req) = tt

-- a call that is done has an answer that fits it
FitsAct : Call → Act → Type 0
FitsAct call (Does answer m state) = fits call answer ≡ true
FitsAct call (Fails fault) = Unit {0}
FitsAct call Unbuilt = Unit {0}

fits_accessed : (call : Call) (state : TaskState) (access : Access) → Kinds (kind_of call) access → FitsAct call (accessed state access)
unfolding Kinds FitsAct
fits_accessed call state (Answers answer o) kinds = kinds
fits_accessed call state (Breaks fault) kinds = tt

fits_print : (m : Memory) (state : TaskState) (text : List ℕ) → FitsAct (call.Print text) (print m state text)
unfolding FitsAct
fits_print m state text =
    elim (nat_le (length state.output + length text) output_limit)
    as (λ b. FitsAct (call.Print text) (if b then Does (Gives (Int (pos (length text)))) m (record state { output = state.output ++ text }) else Fails OutputFull)) [
      | true ↦ refl
      | false ↦ tt
    ]

fits_act : (task : ℕ) (m : Memory) (state : TaskState) (call : Call) → FitsAct call (act task m state call)
unfolding FitsAct
fits_act task m state (call.Load at) = fits_accessed (call.Load at) state _ (load_gives (objects_of m state) (range_of (owner_of task) m at 1))
fits_act task m state (call.Store at word) = fits_accessed (call.Store at word) state _ (store_done (objects_of m state) word (range_of (owner_of task) m at 1))
fits_act task m state (call.New len) = fits_accessed (call.New len) state _ (new_gives (objects_of m state) task len)
fits_act task m state (call.Drop obj) = fits_accessed (call.Drop obj) state _ (drop_done (objects_of m state) task obj)
fits_act task m state (call.Malloc n) = fits_accessed (call.Malloc n) state _ (malloc_gives (objects_of m state) task n)
fits_act task m state (call.Free at) = fits_accessed (call.Free at) state _ (free_done (objects_of m state) task at)
fits_act task m state (call.Print text) = fits_print m state text
fits_act task m state (call.Broke fault) = tt
fits_act task m state (call.Finish code) = refl
fits_act task m state other = tt

FitsReply : Call → Reply → Type 0
FitsReply call (DidReply answer) = fits call answer ≡ true
FitsReply call Stop = Unit {0}

module _ (ended : Bool) (w : World) (task : ℕ) (call : Call) (line : ℕ) where
  fits_acted : (done : Act) → FitsAct call done → FitsReply call (reply_of ended (acted w task call line done))
  unfolding FitsAct FitsReply
  fits_acted (Does answer m state) fit = fit
  fits_acted (Fails fault) fit = tt
  fits_acted Unbuilt fit = tt

  fits_visited : (state : TaskState) → FitsReply call (reply_of ended (visited w task state call line))
  unfolding FitsReply
  fits_visited state =
      elim (nat_le calls_limit (count_of w task))
      as (λ full. FitsReply call (reply_of ended (if full then fails w task call line Calls else acted w task call line (act task w.memory state call)))) [
        | true ↦ tt
        | false ↦ fits_acted (act task w.memory state call) (fits_act task w.memory state call)
      ]

  fits_task : (setup : Setup) → next_of (program_of setup.program) (answers_of w task) ≡ Asks call line → (state : Option TaskState) → FitsReply call (reply_of ended (go_task setup w task state))
  unfolding FitsReply
  fits_task setup asks None = tt
  fits_task setup asks (Some state) =
      elim (has_finished state)
      as (λ over. FitsReply call (reply_of ended (if over then Stays else go_next w task state (next_of (program_of setup.program) (answers_of w task))))) [
        | true ↦ tt
        | false ↦ rw asks (fits_visited state)
      ]

  fits_go : (setup : Setup) → next_of (program_of setup.program) (answers_of w task) ≡ Asks call line → FitsReply call (reply_of ended (go setup w task))
  unfolding FitsReply
  fits_go setup asks =
      elim (has_ended w)
      as (λ over. FitsReply call (reply_of ended (if over then Stays else go_task setup w task (slice_get w.tasks task)))) [
        | true ↦ tt
        | false ↦ fits_task setup asks (slice_get w.tasks task)
      ]

-- the answer of a visit fits the call that the task asks
pub fits_reply : (setup : Setup) (entries : List Entry) (call : Call) (line : ℕ) (answer : Answer) → AsksNext setup entries call line → visit_reply setup entries ≡ DidReply answer → fits call answer ≡ true
unfolding FitsReply
fits_reply setup entries call line answer asks replied =
    let w = world_of setup entries in
    subst (FitsReply call) replied (fits_go (has_ended w) w 0 call line setup asks)
