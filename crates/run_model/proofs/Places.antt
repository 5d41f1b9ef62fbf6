-- Whose places a call names, and what words written to places leave.
use Rattle.std.proofs.Common.{◌≡◌, ◌≢◌, ◌+◌, ℕ, zero, suc, Bool, true, false, if◌then◌else◌, nat_le, List, length, Option, Some, None, Result, Ok, Err, refl, ap, sym, ◌∙◌, subst}
use Rattle.mpc_values.specs.declared.values.Word.{Word}
use Rattle.mpc_values.specs.declared.values.Word.TheVariants.{Undef, Int, Null, Ptr, Comm, Req}
use Rattle.mpc_values.specs.declared.values.Obj.{Obj}
use Rattle.mpc_values.specs.declared.values.Obj.TheVariants.{Glob, Dyn}
use Rattle.mpc_values.specs.declared.owners.Level.{Level}
use Rattle.mpc_values.specs.declared.owners.Owner.{Owner}
use Rattle.mpc_values.specs.declared.owners.Owner.TheVariants.{Task}
use Rattle.mpc_values.specs.declared.faults.Fault.{Fault}
use Rattle.mpc_values.specs.declared.faults.Fault.TheVariants.{Bounds, PendingTouch}
use Rattle.topology.specs.declared.core_numbers.CoreNumbers.{CoreNumbers}
use Rattle.tls_levels.specs.Owners.{owner_at}
use Rattle.tls_levels.specs.Sharing.{level_of}
use Rattle.memory_model.specs.declared.kinds.Span.{Span}
use Rattle.std.specs.FinMap.Entries.{find}
use Rattle.memory_model.specs.Memory.{Memory, Object, IsOrdered, key_cmp, key_of, object_of, with_object}
use Rattle.memory_model.specs.Marks.{Places, is_some_place}
use Rattle.memory_model.specs.Ranges.{Within, NoRange, range_in, span_in, span_of, overwritten, written_in, with_words_at}
use Rattle.memory_model.proofs.Maps.{read_with_other, ordered_with}
use Rattle.memory_model.proofs.Accesses.{owner_is}
use Rattle.run_model.specs.Setup.{Setup}
use Rattle.run_model.specs.Owners.{core_of, sharing, owner_of}
use Rattle.run_model.specs.Collectives.{places_found}

apart_at : (machine : List CoreNumbers) (level : Option Level) (task other core : ℕ) → other ≢ task → owner_at machine level task core ≢ Task other
apart_at machine None task other core h e = h (sym same)
  where
    same : task ≡ other
    same = cc
apart_at machine (Some level) task other core h e = cc

pub own_name : (task other : ℕ) → Task task ≡ Task other → task ≡ other
own_name task other e = cc

-- a task touches no copy of another one's
pub owner_apart : (setup : Setup) (task other : ℕ) (obj : Obj) → other ≢ task → owner_of setup task obj ≢ Task other
unfolding owner_of
owner_apart setup task other (Glob variable) h = apart_at setup.machine (level_of (sharing setup) variable) task other (core_of setup task) h
owner_apart setup task other (Dyn made) h = λ e. h (sym (own_name task other e))

some_span : (a b : Span) → ◌≡◌ {A = Result (Option Span) Fault} (Ok (Some a)) (Ok (Some b)) → a ≡ b
some_span a b e = cc

in_range : (owner_of : Obj → Owner) (barred : Places) (obj : Obj) (at count : ℕ) (object : Option Object) (span : Span) → span_in count (range_in barred (owner_of obj) obj at count object) ≡ Ok (Some span) → span.owner ≡ owner_of span.obj
in_range owner_of barred obj at count None span e = cc
in_range owner_of barred obj at count (Some object) span e = by (nat_le (at + count) (length object.words)) (is_some_place barred (owner_of obj) obj at count) e
  where
    by : (b c : Bool) → span_in count (if b then (if c then NoRange PendingTouch else Within (owner_of obj) obj at object) else NoRange Bounds) ≡ Ok (Some span) → span.owner ≡ owner_of span.obj
    by false c h = cc
    by true true h = cc
    by true false h = subst (λ (s : Span). s.owner ≡ owner_of s.obj) (some_span _ span h) refl

-- the places that a word names are of the copy that the asking task touches
pub span_owner : (owner_of : Obj → Owner) (barred : Places) (m : Memory) (at : Word) (count : ℕ) (span : Span) → span_of owner_of barred m at count ≡ Ok (Some span) → span.owner ≡ owner_of span.obj
span_owner owner_of barred m at zero span e = cc
span_owner owner_of barred m (Ptr obj at) (suc more) span e = in_range owner_of barred obj at (suc more) (object_of m (owner_of obj) obj) span e
span_owner owner_of barred m Undef (suc more) span e = cc
span_owner owner_of barred m (Int z) (suc more) span e = cc
span_owner owner_of barred m Null (suc more) span e = cc
span_owner owner_of barred m (Comm comm) (suc more) span e = cc
span_owner owner_of barred m (Req req) (suc more) span e = cc

found_is : (r : Result (Option Span) Fault) (span : Span) → places_found r ≡ Some span → r ≡ Ok (Some span)
found_is (Ok places) span e = ap Ok e
found_is (Err fault) span e = cc

pub found_owner : (owner_of : Obj → Owner) (barred : Places) (m : Memory) (at : Word) (count : ℕ) (span : Span) → places_found (span_of owner_of barred m at count) ≡ Some span → span.owner ≡ owner_of span.obj
found_owner owner_of barred m at count span e = span_owner owner_of barred m at count span (found_is _ span e)

written_apart : (m : Memory) (span : Span) (words : List Word) (owner : Owner) (obj : Obj) (object : Option Object) → span.owner ≢ owner → object_of (written_in m span words object) owner obj ≡ object_of m owner obj
written_apart m span words owner obj None h = refl
written_apart m span words owner obj (Some object) h = by (nat_le (span.at + length words) (length object.words))
  where
    by : (b : Bool) → object_of (if b then with_object m span.owner span.obj (record { kind = object.kind; words = overwritten object.words span.at words }) else m) owner obj ≡ object_of m owner obj
    by true = read_with_other m span.owner owner span.obj obj _ (λ e. h (sym (owner_is owner span.owner obj span.obj e)))
    by false = refl

-- words written to places leave the objects of every other owner
pub words_apart : (m : Memory) (places : Option Span) (words : List Word) (owner : Owner) (obj : Obj) → ((span : Span) → places ≡ Some span → span.owner ≢ owner) → object_of (with_words_at m places words) owner obj ≡ object_of m owner obj
words_apart m None words owner obj h = refl
words_apart m (Some span) words owner obj h = written_apart m span words owner obj (object_of m span.owner span.obj) (h span refl)

written_dead : (m : Memory) (span : Span) (words : List Word) (owner : Owner) (obj : Obj) (object : Option Object) → object_of m span.owner span.obj ≡ object → object_of m owner obj ≡ None → object_of (written_in m span words object) owner obj ≡ None
written_dead m span words owner obj None is none = none
written_dead m span words owner obj (Some object) is none = by (nat_le (span.at + length words) (length object.words))
  where
    different : key_of owner obj ≡ key_of span.owner span.obj → ⊥
    different e = never (sym is ∙ same)
      where
        same : object_of m span.owner span.obj ≡ None
        same = ap (λ key. find key_cmp key m) (sym e) ∙ none

        never : Some object ≡ None → ⊥
        never h = cc

    by : (b : Bool) → object_of (if b then with_object m span.owner span.obj (record { kind = object.kind; words = overwritten object.words span.at words }) else m) owner obj ≡ None
    by true = read_with_other m span.owner owner span.obj obj _ different ∙ none
    by false = none

-- words written to places bring nothing to life
pub words_dead : (m : Memory) (places : Option Span) (words : List Word) (owner : Owner) (obj : Obj) → object_of m owner obj ≡ None → object_of (with_words_at m places words) owner obj ≡ None
words_dead m None words owner obj none = none
words_dead m (Some span) words owner obj none = written_dead m span words owner obj (object_of m span.owner span.obj) refl none

written_ordered : (m : Memory) (span : Span) (words : List Word) (object : Option Object) → IsOrdered m → IsOrdered (written_in m span words object)
written_ordered m span words None h = h
written_ordered m span words (Some object) h = by (nat_le (span.at + length words) (length object.words))
  where
    by : (b : Bool) → IsOrdered (if b then with_object m span.owner span.obj (record { kind = object.kind; words = overwritten object.words span.at words }) else m)
    by true = ordered_with m span.owner span.obj _ h
    by false = h

-- words written to places leave the keys in order
pub words_ordered : (m : Memory) (places : Option Span) (words : List Word) → IsOrdered m → IsOrdered (with_words_at m places words)
words_ordered m None words h = h
words_ordered m (Some span) words h = written_ordered m span words (object_of m span.owner span.obj) h
