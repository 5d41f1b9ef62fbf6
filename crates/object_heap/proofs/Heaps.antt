-- Heaps before and behind a change: which objects, marks and spans stay.
use Rattle.std.proofs.Common.{◌≡◌, ◌≢◌, ℕ, ◌+◌, ◌<◌, ◌≤◌, true, cond, length, slice_get, Option, Some, None, is_some, IsSomeAnd, refl, sym, ap, subst, ◌∙◌, inl, inr, arith}
use Rattle.std.proofs.lemmas.Bool.{cases_eq}
use Rattle.mpc_values.specs.declared.values.Word.{Word}
use Rattle.mpc_values.specs.declared.values.Obj.{Obj}
use Rattle.mpc_values.specs.declared.owners.Owner.{Owner}
use Rattle.memory_model.specs.Memory.{Memory, Object, key_of, object_of, with_object, without}
use Rattle.memory_model.proofs.Maps.{read_with_same, read_with_other, read_without_same, read_without_other}
use Rattle.block_table.specs.declared.rows.Row.{Row}
use Rattle.block_table.specs.declared.rows.Span.{Span}
use Rattle.block_table.specs.declared.rows.Mark.{Mark}
use Rattle.block_table.specs.declared.rows.Mark.TheVariants.{Free}
use Rattle.block_table.specs.Rows.{Rows, live, row_in, IsNamed, IsNoName, IsNamedOnce, Marks, mark_at, mark_in}
use Rattle.block_table.specs.Index.{IsSame}
use Rattle.block_table.proofs.Names.{same_cases}
use Rattle.word_region.specs.Places.{cell, is_in}
use Rattle.object_heap.specs.Layout.{Layout, row_of, is_in_row, IsSound, HasPlaces, IsSpan}
use Rattle.object_heap.specs.Objects.{word_or, words_from, object_by, object_at, object_where, object_in, key_named, Shows, part, span_words}
use Rattle.object_heap.specs.Marks.{mark_of, mark_where, KeepsMarks, Remarks}
use Rattle.object_heap.specs.Changes.{Puts, Edits, KeepsObjects, base_in, base_of}
use Rattle.object_heap.proofs.Words.{in_range, same_words, part_words, length_words, slice_words}
use Rattle.object_heap.proofs.Names.{first_key, no_key, name_cases, named_by_row, same_key_named, key_owner, key_obj}
use Rattle.object_heap.proofs.Rows.{live_row, row_live, one_row}

-- a name's object and marks are those of its key
pub object_named : (h : Layout) (key : ℕ) (owner : Owner) (obj : Obj) → IsNamedOnce h.rows → IsNamed h.rows key owner obj → object_in h owner obj ≡ object_at h key
object_named h key owner obj once named = ap (object_where h) (first_key h.rows key owner obj once named)

pub mark_named : (h : Layout) (key p : ℕ) (owner : Owner) (obj : Obj) → IsNamedOnce h.rows → IsNamed h.rows key owner obj → mark_of h owner obj p ≡ mark_at h.rows key p
mark_named h key p owner obj once named = ap (λ k. mark_where h.rows k p) (first_key h.rows key owner obj once named)

pub no_object : (h : Layout) (owner : Owner) (obj : Obj) → IsNoName h.rows owner obj → object_in h owner obj ≡ None
no_object h owner obj none = ap (object_where h) (no_key h.rows owner obj none)

pub no_mark : (h : Layout) (owner : Owner) (obj : Obj) (p : ℕ) → IsNoName h.rows owner obj → mark_of h owner obj p ≡ Free
no_mark h owner obj p none = ap (λ k. mark_where h.rows k p) (no_key h.rows owner obj none)

-- the object of a row
pub object_of_row : (h : Layout) (key : ℕ) (row : Row) → row_of h key ≡ Some row → object_at h key ≡ Some (record { kind = row.kind; words = words_from h.cells row.base row.len })
object_of_row h key row is = ap (object_by h.cells) is

-- the row of a name
pub named_row : (rows : Rows) (key : ℕ) (owner : Owner) (obj : Obj) → IsNamed rows key owner obj → (row : Row) × (row_in (live rows key) ≡ Some row) × (row.owner ≡ owner) × (row.obj ≡ obj)
named_row rows key owner obj named = let there = live_row (λ row. (row.owner ≡ owner) × (row.obj ≡ obj)) (live rows key) named in (there.0, there.1, there.2.0, there.2.1)

some_none : (object : Object) → Some object ≡ None → ⊥
some_none object e = cc

-- where no object of a name lives, no row has it
pub name_of_none : (h : Layout) (owner : Owner) (obj : Obj) → object_in h owner obj ≡ None → IsNoName h.rows owner obj
name_of_none h owner obj none = elim (name_cases h.rows owner obj) [
  | inl found ↦
      let row = named_row h.rows found.0 owner obj found.1 in
      absurd (some_none (record { kind = row.0.kind; words = words_from h.cells row.0.base row.0.len })
      (sym (ap (object_where h) found.2 ∙ object_of_row h found.0 row.0 row.1) ∙ none))
  | inr never ↦ never.0
]

-- the object of a key whose row stays, with the words of its places
pub same_object_at : (old new : Layout) (key : ℕ) → row_of new key ≡ row_of old key
    → ((row : Row) → row_of old key ≡ Some row → (p : ℕ) → is_in_row row p ≡ true → cell new.cells p ≡ cell old.cells p) → object_at new key ≡ object_at old key
same_object_at old new key same cells = ap (object_by new.cells) same ∙ by (row_of old key) refl
  where
    by : (o : Option Row) → row_of old key ≡ o → object_by new.cells (row_of old key) ≡ object_by old.cells (row_of old key)
    by None is = ap (object_by new.cells) is ∙ sym (ap (object_by old.cells) is)
    by (Some row) is =
        ap (object_by new.cells) is
        ∙ (ap (λ words. Some (record { kind = row.kind; words = words }))
        (same_words new.cells old.cells row.base row.base row.len
        (λ k within. cells row is (row.base + k) (in_range row.base row.len (row.base + k) (omega arith) (omega arith))))
        ∙ sym (ap (object_by old.cells) is))

-- every object stays, where the rows and the words of their places do
pub keeps_objects : (old new : Layout) → IsNamedOnce old.rows → ((key : ℕ) → row_of new key ≡ row_of old key)
    → ((key : ℕ) (row : Row) → row_of old key ≡ Some row → (p : ℕ) → is_in_row row p ≡ true → cell new.cells p ≡ cell old.cells p) → KeepsObjects old new
keeps_objects old new once rows cells owner obj =
    ap (object_where new) (same_key_named old.rows new.rows owner obj once rows) ∙ by (key_named old.rows owner obj)
  where
    by : (o : Option ℕ) → object_where new o ≡ object_where old o
    by None = refl
    by (Some key) = same_object_at old new key (rows key) (cells key)

-- where each name has one row after a change of one key's
pub once_changed : (old new : Rows) (key : ℕ) (owner : Owner) (obj : Obj) → IsNamedOnce old → ((other : ℕ) → other ≢ key → row_in (live new other) ≡ row_in (live old other))
    → ((o : Owner) (a : Obj) → IsNamed new key o a → IsSame o a owner obj) → ((other : ℕ) → other ≢ key → IsNamed old other owner obj → ⊥) → IsNamedOnce new
once_changed old new key owner obj once others only none first second o a named also = elim (cases_eq first key) [
  | inl here ↦ elim (cases_eq second key) [
    | inl too ↦ here ∙ sym too
    | inr differs ↦ absurd (none second differs (same_name second differs (subst (λ k. IsNamed new k o a) here named) also))
  ]
  | inr differs ↦ elim (cases_eq second key) [
    | inl too ↦ absurd (none first differs (same_name first differs (subst (λ k. IsNamed new k o a) too also) named))
    | inr apart ↦ once first second o a (named_by_row new old first first o a (others first differs) named) (named_by_row new old second second o a (others second apart) also)
  ]
]
  where
    same_name : (k : ℕ) → k ≢ key → IsNamed new key o a → IsNamed new k o a → IsNamed old k owner obj
    same_name k differs here there =
        let it = only o a here in
        subst (λ x. IsNamed old k x obj) it.0 (subst (λ x. IsNamed old k o x) it.1 (named_by_row new old k k o a (others k differs) there))

-- the rows of all keys but one stay, and so do the words of their places
pub puts : (old new : Layout) (key : ℕ) (owner : Owner) (obj : Obj) (object : Option Object) → IsNamedOnce old.rows → IsNamedOnce new.rows
    → ((other : ℕ) → other ≢ key → row_of new other ≡ row_of old other)
    → ((o : Owner) (a : Obj) → IsNamed old.rows key o a → IsSame o a owner obj) → ((o : Owner) (a : Obj) → IsNamed new.rows key o a → IsSame o a owner obj)
    → ((other : ℕ) (row : Row) → other ≢ key → row_of old other ≡ Some row → (p : ℕ) → is_in_row row p ≡ true → cell new.cells p ≡ cell old.cells p)
    → object_in new owner obj ≡ object → Puts old new owner obj object
puts old new key owner obj object once once_new rows only only_new cells here = record {
  here = here;
  others = λ o a differs. elim (name_cases old.rows o a) [
    | inl found ↦
        let apart : found.0 ≢ key = λ same. differs (only o a (subst (λ k. IsNamed old.rows k o a) same found.1)) in
        object_named new found.0 o a once_new (named_by_row old.rows new.rows found.0 found.0 o a (sym (rows found.0 apart)) found.1)
        ∙ (same_object_at old new found.0 (rows found.0 apart) (λ row is p inside. cells found.0 row apart is p inside)
        ∙ sym (object_named old found.0 o a once found.1))
    | inr none ↦
        no_object new o a (λ k named. elim (cases_eq k key) [
          | inl same ↦ differs (only_new o a (subst (λ n. IsNamed new.rows n o a) same named))
          | inr apart ↦ none.0 k (named_by_row new.rows old.rows k k o a (rows k apart) named)
        ])
        ∙ sym (no_object old o a none.0)
  ];
}

-- the names of one key are one
pub one_name : (rows : Rows) (key : ℕ) (owner other : Owner) (obj another : Obj) → IsNamed rows key owner obj → IsNamed rows key other another → IsSame other another owner obj
one_name rows key owner other obj another named also =
    let a = named_row rows key owner obj named in let b = named_row rows key other another also in
    let same : a.0 ≡ b.0 = one_row (row_in (live rows key)) a.0 b.0 a.1 b.1 in
    (sym b.2 ∙ (ap (λ (r : Row). r.owner) (sym same) ∙ a.2), sym b.3 ∙ (ap (λ (r : Row). r.obj) (sym same) ∙ a.3))

-- one row's words are changed, and those of no other row
pub edits : (old new : Layout) (key : ℕ) (row : Row) (change : Object → Object) → IsSound old → new.rows ≡ old.rows → row_of old key ≡ Some row
    → ((other : ℕ) (second : Row) → other ≢ key → row_of old other ≡ Some second → (p : ℕ) → is_in_row second p ≡ true → cell new.cells p ≡ cell old.cells p)
    → Some (record { kind = row.kind; words = words_from new.cells row.base row.len }) ≡ Some (change (record { kind = row.kind; words = words_from old.cells row.base row.len }))
    → Edits old new key change
edits old new key row change sound rows is cells changed = record {
  rows = rows;
  object = λ owner obj object named found.
      let once : IsNamedOnce new.rows = subst IsNamedOnce (sym rows) sound.named in
      let named_new : IsNamed new.rows key owner obj = subst (λ r. IsNamed r key owner obj) (sym rows) named in
      let same_row : (k : ℕ) → row_of new k ≡ row_of old k = λ k. ap (λ (r : Rows). row_in (live r k)) rows in
      let was : Some (record { kind = row.kind; words = words_from old.cells row.base row.len }) ≡ Some object =
      sym (object_named old key owner obj sound.named named ∙ object_of_row old key row is) ∙ found in
      puts old new key owner obj (Some (change object)) sound.named once (λ other apart. same_row other)
      (λ o a also. one_name old.rows key owner o obj a named also)
      (λ o a also. one_name new.rows key owner o obj a named_new also)
      cells
      (object_named new key owner obj once named_new ∙ (object_of_row new key row (same_row key ∙ is) ∙ (changed ∙ ap_change (record { kind = row.kind; words = words_from old.cells row.base row.len }) object was)));
}
  where
    ap_change : (a b : Object) → Some a ≡ Some b → Some (change a) ≡ Some (change b)
    ap_change a b e = ap (λ o. Some (change o)) (out a b e)
      where
        out : (x y : Object) → Some x ≡ Some y → x ≡ y
        out x y h = cc

-- every mark stays where one key's row comes or goes without marks
pub keeps_marks : (old new : Layout) (key : ℕ) → IsNamedOnce old.rows → IsNamedOnce new.rows → ((other : ℕ) → other ≢ key → live new.rows other ≡ live old.rows other)
    → ((p : ℕ) → mark_at old.rows key p ≡ Free) → ((p : ℕ) → mark_at new.rows key p ≡ Free) → KeepsMarks old new
keeps_marks old new key once once_new others was is owner obj p = elim (name_cases old.rows owner obj) [
  | inl found ↦ elim (cases_eq found.0 key) [
    | inl here ↦
        freed (λ k apart named. apart (once k key owner obj (named_by_row new.rows old.rows k k owner obj (ap row_in (others k apart)) named) (subst (λ n. IsNamed old.rows n owner obj) here found.1)))
        ∙ sym (mark_named old found.0 p owner obj once found.1 ∙ (ap (λ k. mark_at old.rows k p) here ∙ was p))
    | inr apart ↦
        mark_named new found.0 p owner obj once_new (named_by_row old.rows new.rows found.0 found.0 owner obj (sym (ap row_in (others found.0 apart))) found.1)
        ∙ (ap (λ slot. mark_in slot p) (others found.0 apart) ∙ sym (mark_named old found.0 p owner obj once found.1))
  ]
  | inr none ↦
      freed (λ k apart named. none.0 k (named_by_row new.rows old.rows k k owner obj (ap row_in (others k apart)) named)) ∙ sym (no_mark old owner obj p none.0)
]
  where
    freed : ((k : ℕ) → k ≢ key → IsNamed new.rows k owner obj → ⊥) → mark_of new owner obj p ≡ Free
    freed never = elim (name_cases new.rows owner obj) [
      | inl there ↦ elim (cases_eq there.0 key) [
        | inl here ↦ mark_named new there.0 p owner obj once_new there.1 ∙ (ap (λ k. mark_at new.rows k p) here ∙ is p)
        | inr apart ↦ absurd (never there.0 apart there.1)
      ]
      | inr nowhere ↦ no_mark new owner obj p nowhere.0
    ]

-- the rows of a table whose marks were changed
pub rows_marked : (old new : Rows) (key at len : ℕ) (change : Mark → Mark) → Marks old new key at len change → (k : ℕ) → row_in (live new k) ≡ row_in (live old k)
rows_marked old new key at len change marks k = elim (cases_eq k key) [
  | inl same ↦ ap (λ n. row_in (live new n)) same ∙ (marks.row ∙ ap (λ n. row_in (live old n)) (sym same))
  | inr differs ↦ ap row_in (marks.others k differs)
]

-- the marks of some places are changed
pub remarks : (old new : Layout) (key at len : ℕ) (change : Mark → Mark) → IsNamedOnce old.rows → Marks old.rows new.rows key at len change → Remarks old new key at len change
remarks old new key at len change once marks = record {
  table = marks;
  here = λ owner obj p named.
      ap (λ k. mark_where new.rows k p) (same_key_named old.rows new.rows owner obj once (rows_marked old.rows new.rows key at len change marks))
      ∙ (ap (λ k. mark_where new.rows k p) (first_key old.rows key owner obj once named)
      ∙ (marks.marks p
      ∙ ap (λ m. cond (is_in at len p) (change m) m) (sym (mark_named old key p owner obj once named))));
  others = λ owner obj p never. elim (name_cases old.rows owner obj) [
    | inl found ↦
        let apart : found.0 ≢ key = λ same. never (subst (λ k. IsNamed old.rows k owner obj) same found.1) in
        ap (λ k. mark_where new.rows k p) (same_key_named old.rows new.rows owner obj once (rows_marked old.rows new.rows key at len change marks))
        ∙ (ap (λ k. mark_where new.rows k p) found.2
        ∙ (ap (λ slot. mark_in slot p) (marks.others found.0 apart) ∙ sym (ap (λ k. mark_where old.rows k p) found.2)))
    | inr none ↦
        ap (λ k. mark_where new.rows k p) (same_key_named old.rows new.rows owner obj once (rows_marked old.rows new.rows key at len change marks) ∙ none.1)
        ∙ sym (ap (λ k. mark_where old.rows k p) none.1)
  ];
}

-- a heap stays sound where its rows stay and their places are held
pub sound_kept : (old new : Layout) → IsSound old → ((key : ℕ) → row_of new key ≡ row_of old key)
    → ((key : ℕ) (row : Row) → row_of old key ≡ Some row → (p : ℕ) → row.len ≤ p → mark_at new.rows key p ≡ Free)
    → ((key : ℕ) (row : Row) → row_of old key ≡ Some row → (p : ℕ) → is_in_row row p ≡ true → is_some (cell new.cells p) ≡ true)
    → length old.cells ≤ length new.cells → IsSound new
sound_kept old new sound rows marks held longer = record {
  named = λ key other owner obj named also. sound.named key other owner obj
      (named_by_row new.rows old.rows key key owner obj (rows key) named) (named_by_row new.rows old.rows other other owner obj (rows other) also);
  held = λ key row is p from until. held key row (sym (rows key) ∙ is) p (in_range row.base row.len p from until);
  within = λ key row is. let w = sound.within key row (sym (rows key) ∙ is) in omega arith;
  apart = λ key other row second differs is also. sound.apart key other row second differs (sym (rows key) ∙ is) (sym (rows other) ∙ also);
  marks = λ key row is. marks key row (sym (rows key) ∙ is);
}

-- a span stays good with its row
pub span_kept : (old new : Layout) (span : Span) (owner : Owner) (obj : Obj) → row_of new span.key ≡ row_of old span.key → IsSpan old span owner obj → IsSpan new span owner obj
span_kept old new span owner obj same good = record {
  named = named_by_row old.rows new.rows span.key span.key owner obj (sym same) good.named;
  places = record {
    some = good.places.some;
    within =
        let there = live_row (λ row. span.at + span.len ≤ row.len) (live old.rows span.key) good.places.within in
        row_live (λ row. span.at + span.len ≤ row.len) (live new.rows span.key) there.0 (same ∙ there.1) there.2;
  };
}

differ : (owner other : Owner) (obj another : Obj) → (IsSame owner obj other another → ⊥) → key_of owner obj ≡ key_of other another → ⊥
differ owner other obj another never same = never (key_owner owner other obj another same, key_obj owner other obj another same)

-- a heap that holds a memory's objects holds those of the changed memory
pub shows_given : (old new : Layout) (m : Memory) (owner : Owner) (obj : Obj) (object : Object) → Shows old m → Puts old new owner obj (Some object) → Shows new (with_object m owner obj object)
shows_given old new m owner obj object shows changed other another = elim (same_cases other another owner obj) [
  | inl same ↦
      ap (λ o. object_of (with_object m owner obj object) o another) same.0
      ∙ (ap (λ a. object_of (with_object m owner obj object) owner a) same.1
      ∙ (read_with_same m owner obj object ∙ (sym changed.here ∙ (ap (λ o. object_in new o obj) (sym same.0) ∙ ap (object_in new other) (sym same.1)))))
  | inr differs ↦
      read_with_other m owner other obj another object (differ other owner another obj differs) ∙ (shows other another ∙ sym (changed.others other another differs))
]

pub shows_ended : (old new : Layout) (m : Memory) (owner : Owner) (obj : Obj) → Shows old m → Puts old new owner obj None → Shows new (without m owner obj)
shows_ended old new m owner obj shows changed other another = elim (same_cases other another owner obj) [
  | inl same ↦
      ap (λ o. object_of (without m owner obj) o another) same.0
      ∙ (ap (λ a. object_of (without m owner obj) owner a) same.1
      ∙ (read_without_same m owner obj ∙ (sym changed.here ∙ (ap (λ o. object_in new o obj) (sym same.0) ∙ ap (object_in new other) (sym same.1)))))
  | inr differs ↦
      read_without_other m owner other obj another (differ other owner another obj differs) ∙ (shows other another ∙ sym (changed.others other another differs))
]

-- the words of a span, and how many
pub words_named : (h : Layout) (span : Span) (owner : Owner) (obj : Obj) → IsNamedOnce h.rows → IsSpan h span owner obj → span_words h span ≡ part (object_in h owner obj) span.at span.len
words_named h span owner obj once good = ap (λ o. part o span.at span.len) (sym (object_named h span.key owner obj once good.named))

-- the row of a span
pub span_row : (h : Layout) (span : Span) → HasPlaces h span → (row : Row) × (row_of h span.key ≡ Some row) × (span.at + span.len ≤ row.len)
span_row h span good = live_row (λ row. span.at + span.len ≤ row.len) (live h.rows span.key) good.within

-- the words of a span stand where its row says
pub span_words_are : (h : Layout) (span : Span) (row : Row) → row_of h span.key ≡ Some row → span.at + span.len ≤ row.len → span_words h span ≡ words_from h.cells (row.base + span.at) span.len
span_words_are h span row is within =
    ap (λ o. part o span.at span.len) (object_of_row h span.key row is) ∙ part_words h.cells row.base row.len span.at span.len within

pub length_span : (h : Layout) (span : Span) → HasPlaces h span → length (span_words h span) ≡ span.len
length_span h span good =
    let row = span_row h span good in
    ap length (span_words_are h span row.0 row.1 row.2) ∙ length_words h.cells (row.0.base + span.at) span.len

pub base_is : (h : Layout) (key : ℕ) (row : Row) → row_of h key ≡ Some row → base_of h key ≡ row.base
base_is h key row is = ap base_in is

-- the length of a named object
pub named_object : (h : Layout) (key : ℕ) (row : Row) (owner : Owner) (obj : Obj) → IsNamedOnce h.rows → IsNamed h.rows key owner obj → row_of h key ≡ Some row
    → IsSomeAnd (object_in h owner obj) (λ object. (object.kind ≡ row.kind) × (length object.words ≡ row.len))
named_object h key row owner obj once named is =
    subst (λ o. IsSomeAnd o (λ object. (object.kind ≡ row.kind) × (length object.words ≡ row.len)))
    (sym (object_named h key owner obj once named ∙ object_of_row h key row is)) (refl, length_words h.cells row.base row.len)

-- a word that stands at a place of an object
pub read_word : (h : Layout) (key : ℕ) (row : Row) (owner : Owner) (obj : Obj) (object : Object) (at : ℕ) (word : Word) → IsNamedOnce h.rows → IsNamed h.rows key owner obj
    → row_of h key ≡ Some row → object_in h owner obj ≡ Some object → at < row.len → Some word ≡ cell h.cells (row.base + at) → Some word ≡ slice_get object.words at
read_word h key row owner obj object at word once named is found within stands =
    let same : words_from h.cells row.base row.len ≡ object.words = out (record { kind = row.kind; words = words_from h.cells row.base row.len }) object
    (sym (object_named h key owner obj once named ∙ object_of_row h key row is) ∙ found) in
    ap Some (ap word_or stands) ∙ (sym (slice_words h.cells row.base row.len at within) ∙ ap (λ ws. slice_get ws at) same)
  where
    out : (a b : Object) → Some a ≡ Some b → a.words ≡ b.words
    out a b e = cc

-- a place of a span stands in the region behind its row's base
pub place_is : (h : Layout) (key at place : ℕ) (row : Row) → row_of h key ≡ Some row → place ≡ base_of h key + at → place ≡ row.base + at
place_is h key at place row is there = there ∙ ap (λ n. n + at) (base_is h key row is)
