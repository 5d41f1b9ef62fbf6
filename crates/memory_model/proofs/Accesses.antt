-- What holds of every access of a task, since each changes memory in one of five ways.
use Rattle.std.proofs.Common.{◌≡◌, ◌≢◌, ◌<◌, ℕ, zero, suc, ℤ, pos, negsuc, ◌+◌, ◌==◌, ◌&&◌, Bool, true, false, cond, nat_le, if◌then◌else◌, length, slice_get, replicate, Option, Some, None, refl, ap, subst, sym, ◌∙◌, arith, rules}
use Rattle.std.specs.Prelude.{◌||◌}
use Rattle.std.specs.List.{list_any, range_with_len}
use Rattle.std.specs.FinMap.Entries.{find}
use Rattle.mpc_values.specs.declared.values.Word.{Word}
use Rattle.mpc_values.specs.declared.values.Word.TheVariants.{Undef, Int, Null, Ptr, Comm, Req}
use Rattle.mpc_values.specs.declared.values.Obj.{Obj}
use Rattle.mpc_values.specs.declared.values.Obj.TheVariants.{Glob, Dyn}
use Rattle.mpc_values.specs.declared.owners.Owner.{Owner}
use Rattle.mpc_values.specs.declared.owners.Owner.TheVariants.{Task}
use Rattle.mpc_values.specs.declared.answers.Answer.{Answer}
use Rattle.mpc_values.specs.declared.answers.Answer.TheVariants.{Done, Gives}
use Rattle.mpc_values.specs.declared.faults.Fault.{Fault}
use Rattle.mpc_values.specs.declared.faults.Fault.TheVariants.{Bounds, Dangling, StackFull, PendingTouch, PendingDrop}
use Rattle.memory_model.specs.declared.kinds.Kind.{Kind}
use Rattle.memory_model.specs.declared.kinds.Kind.TheVariants.{Local, Block}
use Rattle.memory_model.specs.Memory.{Object, IsOrdered, key_cmp, key_of, object_of, with_object, without}
use Rattle.memory_model.specs.Marks.{Marks, Places, barred_to_loads, barred_to_stores, is_some_place}
use Rattle.memory_model.specs.Ranges.{Range, Within, NoRange, range_in, range_of}
use Rattle.memory_model.specs.Access.{Objects, Access, Answers, Breaks, given, load_in, store, store_in, with_word, malloc, drop, drop_in, free, free_in, free_at, makes, ends, is_block, live_words}
use Rattle.memory_model.specs.Names.{NamesAreLeft, EveryAccess, GivesOneName, LeavesObject, LeavesOrder}
use Rattle.memory_model.proofs.Maps.{read_with_other, none_without, read_without_other, ordered_with, ordered_without}

-- What is to be shown of a property of accesses, for each way in which an access changes memory.
pub record EachWay (P : Access → Type 0) (owner_of : Obj → Owner) (task : ℕ) (o : Objects) : Type 0 where
  pub breaks : (fault : Fault) → P (Breaks fault)
  pub keeps : (answer : Answer) → P (Answers answer o)
  pub writes : (obj : Obj) (was object : Object) → object_of o.memory (owner_of obj) obj ≡ Some was → P (Answers Done (record { memory = with_object o.memory (owner_of obj) obj object; made = o.made }))
  pub makes : (kind : Kind) (len : ℕ) → P (makes task o kind len)
  pub ends : (obj : Obj) → P (Answers Done (record { memory = without o.memory (Task task) obj; made = o.made }))

module _ (P : Access → Type 0) (owner_of : Obj → Owner) (task : ℕ) (o : Objects) (way : EachWay P owner_of task o) where
  either : (b : Bool) (x y : Access) → P x → P y → P (cond b x y)
  either true x y h g = h
  either false x y h g = g

  given_one : (word : Option Word) → P (given o word)
  given_one (Some (Int z)) = way.keeps _
  given_one (Some Null) = way.keeps _
  given_one (Some (Ptr obj at)) = way.keeps _
  given_one (Some (Comm comm)) = way.keeps _
  given_one (Some (Req req)) = way.keeps _
  given_one (Some Undef) = way.breaks _
  given_one None = way.breaks _

  load_one : (range : Range) → P (load_in o range)
  load_one (Within owner obj at object) = given_one (slice_get object.words at)
  load_one (NoRange fault) = way.breaks fault

  store_one : (barred : Places) (obj : Obj) (at : ℕ) (word : Word) (object : Option Object) → object_of o.memory (owner_of obj) obj ≡ object → P (store_in o word (range_in barred (owner_of obj) obj at 1 object))
  store_one barred obj at word None is = way.breaks _
  store_one barred obj at word (Some object) is =
      elim (nat_le (at + 1) (length object.words))
      as (λ b. P (store_in o word (if b then (if is_some_place barred (owner_of obj) obj at 1 then NoRange PendingTouch else Within (owner_of obj) obj at object) else NoRange Bounds))) [
        | true ↦ elim (is_some_place barred (owner_of obj) obj at 1)
            as (λ b. P (store_in o word (if b then NoRange PendingTouch else Within (owner_of obj) obj at object))) [
              | true ↦ way.breaks _
              | false ↦ way.writes obj object (with_word object at word) is
            ]
        | false ↦ way.breaks _
      ]

  stored_one : (marks : Marks) (at word : Word) → P (store owner_of marks o at word)
  stored_one marks (Ptr obj at) word = store_one (barred_to_stores marks) obj at word (object_of o.memory (owner_of obj) obj) refl
  stored_one marks Undef word = way.breaks _
  stored_one marks (Int z) word = way.breaks _
  stored_one marks Null word = way.breaks _
  stored_one marks (Comm comm) word = way.breaks _
  stored_one marks (Req req) word = way.breaks _

  malloc_one : (quota : ℕ) (n : ℤ) → P (malloc quota task o n)
  malloc_one quota (pos n) = either (nat_le (live_words task o + n) quota) (makes task o Block n) (Answers (Gives Null) o) (way.makes Block n) (way.keeps _)
  malloc_one quota (negsuc n) = way.keeps _

  ended : (marks : Marks) (obj : Obj) (object : Object) → P (ends marks task o obj object)
  ended marks obj object = either (is_some_place (barred_to_stores marks) (Task task) obj 0 (length object.words)) (Breaks PendingDrop) _ (way.breaks _) (way.ends obj)

  drop_one : (marks : Marks) (obj : Obj) (object : Option Object) → P (drop_in marks task o obj object)
  drop_one marks obj None = way.breaks _
  drop_one marks obj (Some object) = ended marks obj object

  dropped_one : (marks : Marks) (obj : Obj) → P (drop marks task o obj)
  dropped_one marks (Glob variable) = way.breaks _
  dropped_one marks (Dyn number) = drop_one marks (Dyn number) (object_of o.memory (Task task) (Dyn number))

  free_found : (marks : Marks) (obj : Obj) (at : ℕ) (object : Option Object) → P (free_in marks task o obj at object)
  free_found marks obj at None = way.breaks _
  free_found marks obj at (Some object) =
      either (at == 0 && is_block object.kind) (ends marks task o obj object) (Breaks Dangling) (ended marks obj object) (way.breaks _)

  free_one : (marks : Marks) (obj : Obj) (at : ℕ) → P (free_at marks task o obj at)
  free_one marks (Glob variable) at = way.breaks _
  free_one marks (Dyn number) at = free_found marks (Dyn number) at (object_of o.memory (Task task) (Dyn number))

  freed_one : (marks : Marks) (at : Word) → P (free marks task o at)
  freed_one marks Null = way.keeps _
  freed_one marks (Ptr obj at) = free_one marks obj at
  freed_one marks Undef = way.breaks _
  freed_one marks (Int z) = way.breaks _
  freed_one marks (Comm comm) = way.breaks _
  freed_one marks (Req req) = way.breaks _

  pub every_access : EveryAccess P owner_of task o
  every_access = record {
    load = λ marks at. load_one (range_of owner_of (barred_to_loads marks) o.memory at 1);
    store = stored_one;
    new = λ quota len. either (nat_le (live_words task o + len) quota) (makes task o Local len) (Breaks StackFull) (way.makes Local len) (way.breaks _);
    malloc = malloc_one;
    drop = dropped_one;
    free = freed_one;
  }

either_is : (a b : Bool) → b ≡ true → (a || b) ≡ true
either_is true b h = refl
either_is false b h = h

-- a test that a place of some passes is passed by one of them
some_there : (test : ℕ → Bool) (from count k : ℕ) → k < count → test (from + k) ≡ true → list_any test (range_with_len from count) ≡ true
some_there test from zero k h is = absurd (omega (arith, h))
some_there test from (suc count) zero h is = ap (λ b. b || list_any test (range_with_len (from + 1) count)) (subst (λ n. test n ≡ true) (omega arith) is)
some_there test from (suc count) (suc k) h is =
    either_is (test from) (list_any test (range_with_len (from + 1) count)) (some_there test (from + 1) count k (omega (arith, h)) (subst (λ n. test n ≡ true) (omega arith) is))

pub some_place : (test : Places) (owner : Owner) (obj : Obj) (count k : ℕ) → k < count → test owner obj k ≡ true → is_some_place test owner obj 0 count ≡ true
some_place test owner obj count k h is = some_there (test owner obj) 0 count k h (subst (λ n. test owner obj n ≡ true) (omega arith) is)

-- one key is of one owner
pub owner_is : (owner other : Owner) (obj another : Obj) → key_of owner obj ≡ key_of other another → owner ≡ other
owner_is owner other obj another e = search rules

module _ (owner_of : Obj → Owner) (task : ℕ) (o : Objects) where
  pub names_last : NamesAreLeft task o.made o.memory → EveryAccess (GivesOneName task o.made) owner_of task o
  names_last left = every_access (GivesOneName task o.made) owner_of task o (record {
    breaks = λ fault. tt;
    keeps = λ answer. (omega arith, omega arith, left);
    writes = λ obj was object lives. (
      omega arith,
      omega arith,
      λ number past.
          read_with_other o.memory (owner_of obj) (Task task) obj (Dyn number) object
          (λ e. let none : object_of o.memory (owner_of obj) obj ≡ None = ap (λ key. find key_cmp key o.memory) (sym e) ∙ left number past in cc)
          ∙ left number past,
    );
    makes = λ kind len. (
      omega arith,
      omega arith,
      λ number past.
          read_with_other o.memory (Task task) (Task task) (Dyn (o.made + 1)) (Dyn number) (record { kind = kind; words = replicate len Undef })
          (λ e. let same' : number ≡ o.made + 1 = cc in omega arith)
          ∙ left number (omega arith),
    );
    ends = λ obj. (omega arith, omega arith, λ number past. none_without o.memory (Task task) (Task task) obj (Dyn number) (left number past));
  })

  pub others_stay : (owner : Owner) (obj : Obj) → Task task ≢ owner → ((obj : Obj) → owner_of obj ≢ owner) → EveryAccess (LeavesObject owner obj o.memory) owner_of task o
  others_stay owner obj other apart = every_access (LeavesObject owner obj o.memory) owner_of task o (record {
    breaks = λ fault. tt;
    keeps = λ answer. refl;
    writes = λ touched was object lives. read_with_other o.memory (owner_of touched) owner touched obj object (λ e. apart touched (sym (owner_is owner (owner_of touched) obj touched e)));
    makes = λ kind len. read_with_other o.memory (Task task) owner (Dyn (o.made + 1)) obj (record { kind = kind; words = replicate len Undef }) (λ e. other (sym (owner_is owner (Task task) obj (Dyn (o.made + 1)) e)));
    ends = λ ended. read_without_other o.memory (Task task) owner ended obj (λ e. other (sym (owner_is owner (Task task) obj ended e)));
  })

  pub order_stays : IsOrdered o.memory → EveryAccess LeavesOrder owner_of task o
  order_stays h = every_access LeavesOrder owner_of task o (record {
    breaks = λ fault. tt;
    keeps = λ answer. h;
    writes = λ obj was object lives. ordered_with o.memory (owner_of obj) obj object h;
    makes = λ kind len. ordered_with o.memory (Task task) (Dyn (o.made + 1)) (record { kind = kind; words = replicate len Undef }) h;
    ends = λ obj. ordered_without o.memory (Task task) obj h;
  })
