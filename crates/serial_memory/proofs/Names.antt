-- No access gives a name again.
use Rattle.std.proofs.Common.{◌≡◌, ℕ, ℤ, pos, negsuc, ◌+◌, ◌≤◌, ◌==◌, ◌&&◌, Bool, true, false, cond, nat_le, if◌then◌else◌, length, List, slice_get, replicate, Option, Some, None, refl, ap, sym, ◌∙◌, arith}
use Rattle.std.specs.Ordering.{nat_cmp, eq_by_cmp}
use Rattle.std.specs.Cmp.Lexicographic.{slice_cmp}
use Rattle.std.proofs.lemmas.Cmp.{nat_list_cmp_total}
use Rattle.std.specs.FinMap as map
use Rattle.mpc_values.specs.declared.values.Word.{Word}
use Rattle.mpc_values.specs.declared.values.Word.TheVariants.{Undef, Int, Null, Ptr, Comm, Req}
use Rattle.mpc_values.specs.declared.values.Obj.{Obj}
use Rattle.mpc_values.specs.declared.values.Obj.TheVariants.{Glob, Dyn}
use Rattle.mpc_values.specs.declared.owners.Owner.{Owner}
use Rattle.mpc_values.specs.declared.owners.Owner.TheVariants.{Task}
use Rattle.mpc_values.specs.declared.answers.Answer.TheVariants.{Gives}
use Rattle.mpc_values.specs.declared.faults.Fault.TheVariants.{Bounds, Dangling, StackFull}
use Rattle.serial_memory.specs.declared.kinds.Kind.{Kind}
use Rattle.serial_memory.specs.declared.kinds.Kind.TheVariants.{Local, Block}
use Rattle.serial_memory.specs.Memory.{Memory, Object, key_of, object_of, with_object}
use Rattle.serial_memory.specs.Access.{Objects, Range, Places, NoPlaces, range_in, range_of, Access, Answers, Breaks, given, load_in, store, store_in, with_word, malloc, drop, drop_in, free, free_at, makes, ends, is_live_block, live_words}
use Rattle.serial_memory.specs.Names.{NamesAreLeft, GivesOneName, NamesLast}
use Rattle.serial_memory.proofs.Memories.{get-insert_other}

either : (task made : ℕ) (b : Bool) (x y : Access) → GivesOneName task made x → GivesOneName task made y → GivesOneName task made (cond b x y)
either task made true x y fx fy = fx
either task made false x y fx fy = fy

-- taking out an object leaves what does not live
still_none : (m : Memory) (k q : List ℕ) → map.get m q ≡ None → map.get (map.remove m k) q ≡ None
still_none m k q none = map.get-remove nat_list_cmp_total m k q ∙ ap (cond (eq_by_cmp (slice_cmp nat_cmp) q k) None) none ∙ both (eq_by_cmp (slice_cmp nat_cmp) q k)
  where
    both : (b : Bool) → ◌≡◌ {A = Option Object} (cond b None None) None
    both true = refl
    both false = refl

module _ (task : ℕ) (o : Objects) (left : NamesAreLeft task o) where
  same : (o.made ≤ o.made + 1) × NamesAreLeft task o
  same = (omega arith, left)

  -- an object that lives may be changed
  changed : (owner : Owner) (obj : Obj) (was now' : Object) → object_of o.memory owner obj ≡ Some was → NamesAreLeft task (record { memory = with_object o.memory owner obj now'; made = o.made })
  changed owner obj was now' lives = λ number past.
      get-insert_other o.memory (key_of owner obj) (key_of (Task task) (Dyn number)) now'
      (λ e. let none : object_of o.memory owner obj ≡ None = ap (map.get o.memory) (sym e) ∙ left number past in cc)
      ∙ left number past

  one_more : (kind : Kind) (len : ℕ) → GivesOneName task o.made (makes task o kind len)
  one_more kind len = (
    omega arith,
    λ number past.
        get-insert_other o.memory (key_of (Task task) (Dyn (o.made + 1))) (key_of (Task task) (Dyn number)) (record { kind = kind; words = replicate len Undef })
        (λ e. let same' : number ≡ o.made + 1 = cc in omega arith)
        ∙ left number (omega arith),
  )

  ended : (obj : Obj) → GivesOneName task o.made (ends task o obj)
  ended obj = (omega arith, λ number past. still_none o.memory (key_of (Task task) obj) (key_of (Task task) (Dyn number)) (left number past))

  given_one : (word : Option Word) → GivesOneName task o.made (given o word)
  given_one (Some (Int z)) = same
  given_one (Some Null) = same
  given_one (Some (Ptr obj at)) = same
  given_one (Some (Comm comm)) = same
  given_one (Some (Req req)) = same
  given_one (Some Undef) = tt
  given_one None = tt

  load_one : (range : Range) → GivesOneName task o.made (load_in o range)
  load_one (Places owner obj at object) = given_one (slice_get object.words at)
  load_one (NoPlaces fault) = tt

  store_one : (owner : Owner) (obj : Obj) (at : ℕ) (word : Word) (object : Option Object) → object_of o.memory owner obj ≡ object → GivesOneName task o.made (store_in o word (range_in owner obj at 1 object))
  store_one owner obj at word None is = tt
  store_one owner obj at word (Some object) is =
      elim (nat_le (at + 1) (length object.words))
      as (λ b. GivesOneName task o.made (store_in o word (if b then Places owner obj at object else NoPlaces Bounds))) [
        | true ↦ (omega arith, changed owner obj object (with_word object at word) is)
        | false ↦ tt
      ]

  stored_one : (owner_of : Obj → Owner) (at word : Word) → GivesOneName task o.made (store owner_of o at word)
  stored_one owner_of (Ptr obj at) word = store_one (owner_of obj) obj at word (object_of o.memory (owner_of obj) obj) refl
  stored_one owner_of Undef word = tt
  stored_one owner_of (Int z) word = tt
  stored_one owner_of Null word = tt
  stored_one owner_of (Comm comm) word = tt
  stored_one owner_of (Req req) word = tt

  malloc_one : (quota : ℕ) (n : ℤ) → GivesOneName task o.made (malloc quota task o n)
  malloc_one quota (pos n) = either task o.made (nat_le (live_words task o + n) quota) (makes task o Block n) (Answers (Gives Null) o) (one_more Block n) same
  malloc_one quota (negsuc n) = same

  drop_one : (obj : Obj) (object : Option Object) → GivesOneName task o.made (drop_in task o obj object)
  drop_one obj None = tt
  drop_one obj (Some object) = ended obj

  dropped_one : (obj : Obj) → GivesOneName task o.made (drop task o obj)
  dropped_one (Glob variable) = tt
  dropped_one (Dyn number) = drop_one (Dyn number) (object_of o.memory (Task task) (Dyn number))

  free_one : (obj : Obj) (at : ℕ) → GivesOneName task o.made (free_at task o obj at)
  free_one (Glob variable) at = tt
  free_one (Dyn number) at =
      either task o.made (at == 0 && is_live_block (object_of o.memory (Task task) (Dyn number))) (ends task o (Dyn number)) (Breaks Dangling) (ended (Dyn number)) tt

  freed_one : (at : Word) → GivesOneName task o.made (free task o at)
  freed_one Null = same
  freed_one (Ptr obj at) = free_one obj at
  freed_one Undef = tt
  freed_one (Int z) = tt
  freed_one (Comm comm) = tt
  freed_one (Req req) = tt

  pub names_last : NamesLast task o
  names_last = record {
    load = λ owner_of at. load_one (range_of owner_of o.memory at 1);
    store = stored_one;
    new = λ quota len. either task o.made (nat_le (live_words task o + len) quota) (makes task o Local len) (Breaks StackFull) (one_more Local len) tt;
    malloc = malloc_one;
    drop = dropped_one;
    free = freed_one;
  }
