-- Every access of a task leaves the objects that have a barred place: they live on with as many words.
use Rattle.std.proofs.Common.{◌≡◌, ◌+◌, ◌==◌, ◌&&◌, ℕ, ℤ, pos, negsuc, Bool, true, false, if◌then◌else◌, nat_le, length, replicate, slice_get, Option, Some, None, refl, ap, sym, ◌∙◌, arith, rules}
use Rattle.mpc_values.specs.declared.values.Word.{Word}
use Rattle.mpc_values.specs.declared.values.Word.TheVariants.{Undef, Int, Null, Ptr, Comm, Req}
use Rattle.mpc_values.specs.declared.values.Obj.{Obj}
use Rattle.mpc_values.specs.declared.values.Obj.TheVariants.{Glob, Dyn}
use Rattle.mpc_values.specs.declared.owners.Owner.{Owner}
use Rattle.mpc_values.specs.declared.owners.Owner.TheVariants.{Task}
use Rattle.mpc_values.specs.declared.answers.Answer.{Answer}
use Rattle.mpc_values.specs.declared.answers.Answer.TheVariants.{Done, Gives}
use Rattle.mpc_values.specs.declared.faults.Fault.{Fault}
use Rattle.mpc_values.specs.declared.faults.Fault.TheVariants.{Bounds, Dangling, StackFull, PendingTouch, PendingDrop}
use Rattle.memory_model.specs.declared.kinds.Kind.{Kind}
use Rattle.memory_model.specs.declared.kinds.Kind.TheVariants.{Local, Block}
use Rattle.memory_model.specs.Memory.{Memory, Object, key_of, object_of, without}
use Rattle.memory_model.specs.Marks.{Marks, Places, barred_to_loads, barred_to_stores, is_some_place}
use Rattle.memory_model.specs.Ranges.{Range, Within, NoRange, range_in, range_of}
use Rattle.memory_model.specs.Access.{Objects, Access, Answers, Breaks, given, load, load_in, store, store_in, with_word, live_words, makes, new, malloc, ends, drop_in, drop, is_block, free_in, free_at, free}
use Rattle.memory_model.specs.Names.{NamesAreLeft}
use Rattle.memory_model.proofs.Accesses.{owner_is}
use Rattle.run_model.proofs.Lists.{length_set}
use Rattle.run_model.proofs.Lengths.{Lives, lives_with, lives_new, lives_without, same_length}

-- the objects with a barred place live on
unfoldable pub LengthsKept : Marks → Memory → Access → Type 0
LengthsKept marks m (Answers answer o) = (owner : Owner) (obj : Obj) (len : ℕ) → is_some_place (barred_to_stores marks) owner obj 0 len ≡ true → Lives m owner obj len → Lives o.memory owner obj len
LengthsKept marks m (Breaks fault) = Unit {0}

-- one key is of one object
object_is : (owner other : Owner) (obj another : Obj) → key_of owner obj ≡ key_of other another → obj ≡ another
object_is owner other obj another e = search rules

module _ (owner_of : Obj → Owner) (marks : Marks) (task : ℕ) (o : Objects) where
  broken : (fault : Fault) → LengthsKept marks o.memory (Breaks fault)
  unfolding LengthsKept
  broken fault = tt

  same : (answer : Answer) → LengthsKept marks o.memory (Answers answer o)
  unfolding LengthsKept
  same answer owner obj len barred h = h

  kept_if : (b : Bool) (x y : Access) → LengthsKept marks o.memory x → LengthsKept marks o.memory y → LengthsKept marks o.memory (if b then x else y)
  kept_if true x y h g = h
  kept_if false x y h g = g

  given_kept : (word : Option Word) → LengthsKept marks o.memory (given o word)
  given_kept (Some (Int z)) = same _
  given_kept (Some Null) = same _
  given_kept (Some (Ptr obj at)) = same _
  given_kept (Some (Comm comm)) = same _
  given_kept (Some (Req req)) = same _
  given_kept (Some Undef) = broken _
  given_kept None = broken _

  loaded_kept : (range : Range) → LengthsKept marks o.memory (load_in o range)
  loaded_kept (Within owner obj at object) = given_kept (slice_get object.words at)
  loaded_kept (NoRange fault) = broken fault

  pub load_kept : (at : Word) → LengthsKept marks o.memory (load owner_of marks o at)
  load_kept at = loaded_kept (range_of owner_of (barred_to_loads marks) o.memory at 1)

  stored : (obj : Obj) (at : ℕ) (word : Word) (object : Object) → object_of o.memory (owner_of obj) obj ≡ Some object → LengthsKept marks o.memory (store_in o word (Within (owner_of obj) obj at object))
  unfolding LengthsKept
  stored obj at word object lives owner other len barred h =
      lives_with o.memory (owner_of obj) obj object (with_word object at word) lives (length_set object.words at word) owner other len h

  store_found : (barred : Places) (obj : Obj) (at : ℕ) (word : Word) (object : Option Object) → object_of o.memory (owner_of obj) obj ≡ object → LengthsKept marks o.memory (store_in o word (range_in barred (owner_of obj) obj at 1 object))
  store_found barred obj at word None is = broken _
  store_found barred obj at word (Some object) is = by (nat_le (at + 1) (length object.words)) (is_some_place barred (owner_of obj) obj at 1)
    where
      by : (b c : Bool) → LengthsKept marks o.memory (store_in o word (if b then (if c then NoRange PendingTouch else Within (owner_of obj) obj at object) else NoRange Bounds))
      by true true = broken _
      by true false = stored obj at word object is
      by false c = broken _

  pub store_kept : (at word : Word) → LengthsKept marks o.memory (store owner_of marks o at word)
  store_kept (Ptr obj at) word = store_found (barred_to_stores marks) obj at word (object_of o.memory (owner_of obj) obj) refl
  store_kept Undef word = broken _
  store_kept (Int z) word = broken _
  store_kept Null word = broken _
  store_kept (Comm comm) word = broken _
  store_kept (Req req) word = broken _

  module _ (left : NamesAreLeft task o.made o.memory) where
    made_kept : (kind : Kind) (len : ℕ) → LengthsKept marks o.memory (makes task o kind len)
    unfolding LengthsKept
    made_kept kind words owner obj len barred h =
        lives_new o.memory (Task task) (Dyn (o.made + 1)) (record { kind = kind; words = replicate words Undef }) (left (o.made + 1) (omega arith)) owner obj len h

    pub new_kept : (quota len : ℕ) → LengthsKept marks o.memory (new quota task o len)
    new_kept quota len = kept_if (nat_le (live_words task o + len) quota) (makes task o Local len) (Breaks StackFull) (made_kept Local len) (broken _)

    pub malloc_kept : (quota : ℕ) (n : ℤ) → LengthsKept marks o.memory (malloc quota task o n)
    malloc_kept quota (pos n) = kept_if (nat_le (live_words task o + n) quota) (makes task o Block n) (Answers (Gives Null) o) (made_kept Block n) (same _)
    malloc_kept quota (negsuc n) = same _

  -- an object that ends has no barred place
  ended_kept : (obj : Obj) (object : Object) → object_of o.memory (Task task) obj ≡ Some object → LengthsKept marks o.memory (ends marks task o obj object)
  unfolding LengthsKept
  ended_kept obj object lives = by (is_some_place (barred_to_stores marks) (Task task) obj 0 (length object.words)) refl
    where
      by : (b : Bool) → is_some_place (barred_to_stores marks) (Task task) obj 0 (length object.words) ≡ b
          → LengthsKept marks o.memory (if b then Breaks PendingDrop else Answers Done (record { memory = without o.memory (Task task) obj; made = o.made }))
      by true e = tt
      by false e = λ owner other len barred h. lives_without o.memory (Task task) obj owner other len (λ key. differ (sym (place owner other len barred h key) ∙ e)) h
        where
          differ : true ≡ false → ⊥
          differ x = cc

          place : (owner : Owner) (other : Obj) (len : ℕ) → is_some_place (barred_to_stores marks) owner other 0 len ≡ true → Lives o.memory owner other len → key_of owner other ≡ key_of (Task task) obj
              → is_some_place (barred_to_stores marks) (Task task) obj 0 (length object.words) ≡ true
          place owner other len barred h key =
              ap (λ n. is_some_place (barred_to_stores marks) (Task task) obj 0 n) (same_length o.memory (Task task) obj object lives owner other len h key)
              ∙ ap (λ w. is_some_place (barred_to_stores marks) w obj 0 len) (sym (owner_is owner (Task task) other obj key))
              ∙ ap (λ x. is_some_place (barred_to_stores marks) owner x 0 len) (sym (object_is owner (Task task) other obj key))
              ∙ barred

  dropped : (obj : Obj) (object : Option Object) → object_of o.memory (Task task) obj ≡ object → LengthsKept marks o.memory (drop_in marks task o obj object)
  dropped obj None is = broken _
  dropped obj (Some object) is = ended_kept obj object is

  pub drop_kept : (obj : Obj) → LengthsKept marks o.memory (drop marks task o obj)
  drop_kept (Glob variable) = broken _
  drop_kept (Dyn number) = dropped (Dyn number) (object_of o.memory (Task task) (Dyn number)) refl

  freed_found : (obj : Obj) (at : ℕ) (object : Option Object) → object_of o.memory (Task task) obj ≡ object → LengthsKept marks o.memory (free_in marks task o obj at object)
  freed_found obj at None is = broken _
  freed_found obj at (Some object) is =
      kept_if (at == 0 && is_block object.kind) (ends marks task o obj object) (Breaks Dangling) (ended_kept obj object is) (broken _)

  freed_at : (obj : Obj) (at : ℕ) → LengthsKept marks o.memory (free_at marks task o obj at)
  freed_at (Glob variable) at = broken _
  freed_at (Dyn number) at = freed_found (Dyn number) at (object_of o.memory (Task task) (Dyn number)) refl

  pub free_kept : (at : Word) → LengthsKept marks o.memory (free marks task o at)
  free_kept Null = same _
  free_kept (Ptr obj at) = freed_at obj at
  free_kept Undef = broken _
  free_kept (Int z) = broken _
  free_kept (Comm comm) = broken _
  free_kept (Req req) = broken _
