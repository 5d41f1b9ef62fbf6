-- Objects that live with so many words: what changes of memory leave them, and the places that lie within them.
use Rattle.std.proofs.Common.{◌≡◌, ◌⊎◌, inl, inr, ◌<◌, ◌≤◌, ◌+◌, ℕ, zero, suc, Bool, true, false, cond, if◌then◌else◌, nat_le, List, ◌++◌, length, take, drop, Option, Some, None, Result, Ok, refl, ap, sym, ◌∙◌, subst, length-append, arith}
use Rattle.std.proofs.lemmas.Bool.{le-leb}
use Rattle.std.proofs.lemmas.Bool.Decides.{leb_tells}
use Rattle.std.proofs.lemmas.List.{length-take-le, length-drop, take_at, drop_at}
use Rattle.std.specs.FinMap.Entries.{find}
use Rattle.mpc_values.specs.declared.values.Word.{Word}
use Rattle.mpc_values.specs.declared.values.Word.TheVariants.{Undef, Int, Null, Ptr, Comm, Req}
use Rattle.mpc_values.specs.declared.values.Obj.{Obj}
use Rattle.mpc_values.specs.declared.owners.Owner.{Owner}
use Rattle.mpc_values.specs.declared.faults.Fault.{Fault}
use Rattle.mpc_values.specs.declared.faults.Fault.TheVariants.{Bounds, PendingTouch}
use Rattle.memory_model.specs.declared.kinds.Span.{Span}
use Rattle.memory_model.specs.Memory.{Memory, Object, key_cmp, key_of, object_of, with_object, without, is_same_object}
use Rattle.memory_model.specs.Marks.{Places, is_some_place}
use Rattle.memory_model.specs.Ranges.{Within, NoRange, range_in, span_in, span_of, words_in, words_at, overwritten, written_in, with_words_at}
use Rattle.memory_model.proofs.Maps.{same_key, read_with, read_with_same, read_without_other}
use Rattle.run_model.specs.Collectives.{places_found}

-- so many places of an owner's object from one on
abbrev pub span_at : Owner → Obj → ℕ → ℕ → Span
span_at owner obj at count = record { owner = owner; obj = obj; at = at; count = count }

-- an object lives, and has so many words
pub record Lives (m : Memory) (owner : Owner) (obj : Obj) (len : ℕ) : Type 0 where
  pub object : Object
  pub at : object_of m owner obj ≡ Some object
  pub long : length object.words ≡ len

-- the object of some places lives, and has them all
pub record Room (m : Memory) (span : Span) : Type 0 where
  pub some : 0 < span.count
  pub len : ℕ
  pub lives : Lives m span.owner span.obj len
  pub within : span.at + span.count ≤ len

some_object : (a b : Object) → Some a ≡ Some b → a ≡ b
some_object a b e = cc

none_some : (a : Object) → None ≡ Some a → ⊥
none_some a e = cc

-- an object that is put in the place of one of its length leaves all lengths
pub lives_with : (m : Memory) (other : Owner) (another : Obj) (was object : Object) → object_of m other another ≡ Some was → length object.words ≡ length was.words
    → (owner : Owner) (obj : Obj) (len : ℕ) → Lives m owner obj len → Lives (with_object m other another object) owner obj len
lives_with m other another was object lives same owner obj len h = by (is_same_object owner obj other another) refl
  where
    by : (b : Bool) → is_same_object owner obj other another ≡ b → Lives (with_object m other another object) owner obj len
    by true e =
        let is : h.object ≡ was = some_object _ _ (sym h.at ∙ ap (λ key. find key_cmp key m) (same_key (key_of owner obj) (key_of other another) e) ∙ lives) in
        record {
          object = object;
          at = read_with m other owner another obj object ∙ ap (λ b. cond b (Some object) (object_of m owner obj)) e;
          long = same ∙ ap (λ (x : Object). length x.words) (sym is) ∙ h.long;
        }
    by false e = record {
      object = h.object;
      at = read_with m other owner another obj object ∙ ap (λ b. cond b (Some object) (object_of m owner obj)) e ∙ h.at;
      long = h.long;
    }

-- a new object leaves all that live
pub lives_new : (m : Memory) (other : Owner) (another : Obj) (object : Object) → object_of m other another ≡ None
    → (owner : Owner) (obj : Obj) (len : ℕ) → Lives m owner obj len → Lives (with_object m other another object) owner obj len
lives_new m other another object none owner obj len h = by (is_same_object owner obj other another) refl
  where
    by : (b : Bool) → is_same_object owner obj other another ≡ b → Lives (with_object m other another object) owner obj len
    by true e =
        absurd (none_some h.object (sym none ∙ ap (λ key. find key_cmp key m) (sym (same_key (key_of owner obj) (key_of other another) e)) ∙ h.at))
    by false e = record {
      object = h.object;
      at = read_with m other owner another obj object ∙ ap (λ b. cond b (Some object) (object_of m owner obj)) e ∙ h.at;
      long = h.long;
    }

-- the end of an object leaves all others
pub lives_without : (m : Memory) (other : Owner) (another : Obj) (owner : Owner) (obj : Obj) (len : ℕ) → (key_of owner obj ≡ key_of other another → ⊥) → Lives m owner obj len → Lives (without m other another) owner obj len
lives_without m other another owner obj len differs h = record {
  object = h.object;
  at = read_without_other m other owner another obj differs ∙ h.at;
  long = h.long;
}

-- two objects of one key have one length
pub same_length : (m : Memory) (other : Owner) (another : Obj) (object : Object) → object_of m other another ≡ Some object → (owner : Owner) (obj : Obj) (len : ℕ) → Lives m owner obj len
    → key_of owner obj ≡ key_of other another → length object.words ≡ len
same_length m other another object lives owner obj len h e =
    ap (λ (x : Object). length x.words) (some_object _ _ (sym lives ∙ ap (λ key. find key_cmp key m) (sym e) ∙ h.at)) ∙ h.long

-- words written over others leave the length
length-overwritten : (words new : List Word) (at : ℕ) → at + length new ≤ length words → length (overwritten words at new) ≡ length words
length-overwritten words new at fits =
    length-append (take at words) (new ++ drop (at + length new) words)
    ∙ ap (λ n. length (take at words) + n) (length-append new (drop (at + length new) words))
    ∙ omega (arith, fits, length-take-le at words (omega (arith, fits)), length-drop (at + length new) words)

written_lives : (m : Memory) (span : Span) (new : List Word) (object : Option Object) → object_of m span.owner span.obj ≡ object → (owner : Owner) (obj : Obj) (len : ℕ) → Lives m owner obj len → Lives (written_in m span new object) owner obj len
written_lives m span new None is owner obj len h = h
written_lives m span new (Some object) is owner obj len h = by (nat_le (span.at + length new) (length object.words)) (leb_tells (span.at + length new) (length object.words))
  where
    by : (b : Bool) → ((b ≡ true) × (span.at + length new ≤ length object.words)) ⊎ ((b ≡ false) × (length object.words < span.at + length new))
        → Lives (if b then with_object m span.owner span.obj (record { kind = object.kind; words = overwritten object.words span.at new }) else m) owner obj len
    by true (inl fits) = lives_with m span.owner span.obj object (record { kind = object.kind; words = overwritten object.words span.at new }) is (length-overwritten object.words new span.at fits.1) owner obj len h
    by true (inr over) = absurd (differ over.0)
      where
        differ : true ≡ false → ⊥
        differ e = cc
    by false which = h

-- words written to places leave all lengths
pub lives_written : (m : Memory) (places : Option Span) (new : List Word) (owner : Owner) (obj : Obj) (len : ℕ) → Lives m owner obj len → Lives (with_words_at m places new) owner obj len
lives_written m None new owner obj len h = h
lives_written m (Some span) new owner obj len h = written_lives m span new (object_of m span.owner span.obj) refl owner obj len h

-- no place is barred
abbrev pub unbarred : Places
unbarred = λ owner obj place. false

abbrev Spans : Type 0
Spans = Result (Option Span) Fault

same_places : (a b : Option Span) → ◌≡◌ {A = Spans} (Ok a) (Ok b) → a ≡ b
same_places a b e = cc

same_span : (a b : Span) → Some a ≡ Some b → a ≡ b
same_span a b e = cc

none_barred : (owner : Owner) (obj : Obj) (at count : ℕ) → is_some_place unbarred owner obj at count ≡ false
none_barred owner obj at zero = refl
none_barred owner obj at (suc count) = none_barred owner obj (at + 1) count

in_unbarred : (barred : Places) (owner : Owner) (obj : Obj) (at count : ℕ) (object : Option Object) (places : Option Span) → span_in count (range_in barred owner obj at count object) ≡ Ok places → span_in count (range_in unbarred owner obj at count object) ≡ Ok places
in_unbarred barred owner obj at count None places e = cc
in_unbarred barred owner obj at count (Some object) places e = by (nat_le (at + count) (length object.words)) (is_some_place barred owner obj at count) e
  where
    by : (b c : Bool) → span_in count (if b then (if c then NoRange PendingTouch else Within owner obj at object) else NoRange Bounds) ≡ Ok places
        → span_in count (if b then (if is_some_place unbarred owner obj at count then NoRange PendingTouch else Within owner obj at object) else NoRange Bounds) ≡ Ok places
    by false c h = cc
    by true true h = cc
    by true false h = ap (λ c. span_in count (if c then NoRange PendingTouch else Within owner obj at object)) (none_barred owner obj at count) ∙ h

-- places that are named without a fault are the same where none is barred
pub unbarred_span : (owner_of : Obj → Owner) (barred : Places) (m : Memory) (at : Word) (count : ℕ) (places : Option Span) → span_of owner_of barred m at count ≡ Ok places → span_of owner_of unbarred m at count ≡ Ok places
unbarred_span owner_of barred m at zero places e = e
unbarred_span owner_of barred m (Ptr obj at) (suc more) places e = in_unbarred barred (owner_of obj) obj at (suc more) (object_of m (owner_of obj) obj) places e
unbarred_span owner_of barred m Undef (suc more) places e = cc
unbarred_span owner_of barred m (Int z) (suc more) places e = cc
unbarred_span owner_of barred m Null (suc more) places e = cc
unbarred_span owner_of barred m (Comm comm) (suc more) places e = cc
unbarred_span owner_of barred m (Req req) (suc more) places e = cc

-- Some places are named without a fault: the word is a pointer to them, and their object has them all.
pub record NamedPlaces (owner_of : Obj → Owner) (m : Memory) (at : Word) (count : ℕ) (span : Span) : Type 0 where
  pub obj : Obj
  pub place : ℕ
  pub word : at ≡ Ptr obj place
  pub is : span ≡ span_at (owner_of obj) obj place count
  pub room : Room m span

in_named : (owner : Owner) (obj : Obj) (m : Memory) (at count : ℕ) → 0 < count → (object : Option Object) → object_of m owner obj ≡ object → (span : Span) → span_in count (range_in unbarred owner obj at count object) ≡ Ok (Some span)
    → (span ≡ span_at owner obj at count) × Room m span
in_named owner obj m at count counted None lives span e = cc
in_named owner obj m at count counted (Some object) lives span e = by (nat_le (at + count) (length object.words)) (is_some_place unbarred owner obj at count) (leb_tells (at + count) (length object.words)) e
  where
    room : at + count ≤ length object.words → Room m (span_at owner obj at count)
    room fits = record { some = counted; len = length object.words; lives = record { object = object; at = lives; long = refl }; within = fits }

    by : (b c : Bool) → ((b ≡ true) × (at + count ≤ length object.words)) ⊎ ((b ≡ false) × (length object.words < at + count))
        → span_in count (if b then (if c then NoRange PendingTouch else Within owner obj at object) else NoRange Bounds) ≡ Ok (Some span) → (span ≡ span_at owner obj at count) × Room m span
    by false c which h = cc
    by true true which h = cc
    by true false (inl fits) h = let same : span_at owner obj at count ≡ span = same_span _ _ (same_places _ _ h) in (sym same, subst (Room m) same (room fits.1))
    by true false (inr over) h = let none : true ≡ false = over.0 in cc

pub named_span : (owner_of : Obj → Owner) (m : Memory) (at : Word) (count : ℕ) (span : Span) → span_of owner_of unbarred m at count ≡ Ok (Some span) → NamedPlaces owner_of m at count span
named_span owner_of m at zero span e = cc
named_span owner_of m (Ptr obj at) (suc more) span e =
    let both = in_named (owner_of obj) obj m at (suc more) (omega arith) (object_of m (owner_of obj) obj) refl span e in
    record { obj = obj; place = at; word = refl; is = both.0; room = both.1 }
named_span owner_of m Undef (suc more) span e = cc
named_span owner_of m (Int z) (suc more) span e = cc
named_span owner_of m Null (suc more) span e = cc
named_span owner_of m (Comm comm) (suc more) span e = cc
named_span owner_of m (Req req) (suc more) span e = cc

-- so many of the first places of a live object are named without a fault
pub span_again : (owner_of : Obj → Owner) (m : Memory) (obj : Obj) (at count len : ℕ) → 0 < count → Lives m (owner_of obj) obj len → at + count ≤ len
    → span_of owner_of unbarred m (Ptr obj at) count ≡ Ok (Some (span_at (owner_of obj) obj at count))
span_again owner_of m obj at zero len counted h fits = absurd (omega (arith, counted))
span_again owner_of m obj at (suc more) len counted h fits =
    ap (λ o. span_in (suc more) (range_in unbarred (owner_of obj) obj at (suc more) o)) h.at
    ∙ ap (λ b. span_in (suc more) (if b then (if is_some_place unbarred (owner_of obj) obj at (suc more) then NoRange PendingTouch else Within (owner_of obj) obj at h.object) else NoRange Bounds)) (le-leb (at + suc more) (length h.object.words) (omega (arith, fits, h.long)))
    ∙ ap (λ c. span_in (suc more) (if c then NoRange PendingTouch else Within (owner_of obj) obj at h.object)) (none_barred (owner_of obj) obj at (suc more))

-- the words of places that are all there are as many
pub length_words : (m : Memory) (span : Span) → Room m span → length (words_at m (Some span)) ≡ span.count
length_words m span room =
    ap (λ o. length (words_in span o)) room.lives.at
    ∙ length-take-le span.count (drop span.at room.lives.object.words) (omega (arith, length-drop span.at room.lives.object.words, room.lives.long, room.within))

-- the words that were written over others stand there
taken_overwritten : (words new : List Word) (at : ℕ) → at + length new ≤ length words → take (length new) (drop at (overwritten words at new)) ≡ new
taken_overwritten words new at fits =
    ap (take (length new)) (drop_at (take at words) (new ++ drop (at + length new) words) at (length-take-le at words (omega (arith, fits))))
    ∙ take_at new (drop (at + length new) words) (length new) refl

-- words written to places stand in the first of them
pub words_written : (m : Memory) (span : Span) (new : List Word) (count : ℕ) → Room m span → length new ≡ count → count ≤ span.count
    → words_at (with_words_at m (Some span) new) (Some (span_at span.owner span.obj span.at count)) ≡ new
words_written m span new count room is few =
    let fits : span.at + length new ≤ length room.lives.object.words = omega (arith, is, few, room.within, room.lives.long) in
    let after : Object = record { kind = room.lives.object.kind; words = overwritten room.lives.object.words span.at new } in
    let written : with_words_at m (Some span) new ≡ with_object m span.owner span.obj after =
    ap (written_in m span new) room.lives.at ∙ ap (λ b. if b then with_object m span.owner span.obj after else m) (le-leb (span.at + length new) (length room.lives.object.words) fits) in
    let first : Span = span_at span.owner span.obj span.at count in
    ap (λ m'. words_at m' (Some first)) written
    ∙ ap (words_in first) (read_with_same m span.owner span.obj after)
    ∙ ap (λ n. take n (drop span.at after.words)) (sym is)
    ∙ taken_overwritten room.lives.object.words new span.at fits

in_none : (owner : Owner) (obj : Obj) (at count : ℕ) (object : Option Object) → span_in count (range_in unbarred owner obj at count object) ≡ Ok None → ⊥
in_none owner obj at count None e = cc
in_none owner obj at count (Some object) e = by (nat_le (at + count) (length object.words)) (is_some_place unbarred owner obj at count) e
  where
    by : (b c : Bool) → span_in count (if b then (if c then NoRange PendingTouch else Within owner obj at object) else NoRange Bounds) ≡ Ok None → ⊥
    by false c h = cc
    by true true h = cc
    by true false h = cc

-- a range without places has the count 0
pub no_places : (owner_of : Obj → Owner) (m : Memory) (at : Word) (count : ℕ) → span_of owner_of unbarred m at count ≡ Ok None → count ≡ 0
no_places owner_of m at zero e = refl
no_places owner_of m (Ptr obj at) (suc more) e = absurd (in_none (owner_of obj) obj at (suc more) (object_of m (owner_of obj) obj) e)
no_places owner_of m Undef (suc more) e = cc
no_places owner_of m (Int z) (suc more) e = cc
no_places owner_of m Null (suc more) e = cc
no_places owner_of m (Comm comm) (suc more) e = cc
no_places owner_of m (Req req) (suc more) e = cc

-- the words of so many places from the one that a word names
abbrev pub named_words : (Obj → Owner) → Memory → Word → ℕ → List Word
named_words owner_of m at count = words_at m (places_found (span_of owner_of unbarred m at count))

arrives_at : (owner_of : Obj → Owner) (m : Memory) (obj : Obj) (place most : ℕ) (new : List Word) (count : ℕ) → Room m (span_at (owner_of obj) obj place most) → length new ≡ count → 0 < count → count ≤ most
    → named_words owner_of (with_words_at m (Some (span_at (owner_of obj) obj place most)) new) (Ptr obj place) count ≡ new
arrives_at owner_of m obj place most new count room is counted few =
    let these : Span = span_at (owner_of obj) obj place most in
    let after : Memory = with_words_at m (Some these) new in
    ap (λ r. words_at after (places_found r))
    (span_again owner_of after obj place count room.len counted (lives_written m (Some these) new (owner_of obj) obj room.len room.lives) (omega (arith, few, room.within)))
    ∙ words_written m these new count room is few

-- words written to places are then found from the word that names the places
pub arrives : (owner_of : Obj → Owner) (before m : Memory) (at : Word) (most : ℕ) (span : Span) (new : List Word) (count : ℕ) → NamedPlaces owner_of before at most span → Room m span → length new ≡ count → 0 < count → count ≤ most
    → named_words owner_of (with_words_at m (Some span) new) at count ≡ new
arrives owner_of before m at most span new count n room is counted few =
    subst (λ (w : Word). named_words owner_of (with_words_at m (Some span) new) w count ≡ new) (sym n.word)
    (subst (λ (x : Span). named_words owner_of (with_words_at m (Some x) new) (Ptr n.obj n.place) count ≡ new) (sym n.is)
    (arrives_at owner_of m n.obj n.place most new count (subst (Room m) n.is room) is counted few))
