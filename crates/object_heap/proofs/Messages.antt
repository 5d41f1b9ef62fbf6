-- What messages leave of a heap: copies from object to object, into a range of their own, and from there.
use Rattle.std.proofs.Common.{◌≡◌, ◌≢◌, ℕ, ◌+◌, ◌-◌, ◌<◌, ◌≤◌, Bool, true, false, cond, List, length, get_or, set, Option, Some, None, is_some, refl, sym, ap, subst, ◌∙◌, inl, inr, ◌⊎◌, arith}
use Rattle.std.proofs.lemmas.Bool.{cases_lt, cases_eq, false≢true}
use Rattle.std.proofs.lemmas.List.{get_or-set_other}
use Rattle.mpc_values.specs.declared.values.Word.{Word}
use Rattle.mpc_values.specs.declared.values.Word.TheVariants.{Undef}
use Rattle.memory_model.specs.Access.{with_word}
use Rattle.mpi_copy.specs.declared.Held.{Held}
use Rattle.mpi_copy.specs.Copies.{Holds, Lands}
use Rattle.block_table.specs.declared.rows.Row.{Row}
use Rattle.block_table.specs.declared.rows.Span.{Span}
use Rattle.block_table.specs.declared.rows.Mark.{Mark}
use Rattle.block_table.specs.declared.rows.Mark.TheVariants.{Free, Sends, Receive}
use Rattle.block_table.specs.Rows.{live, AreMarked, mark_at, is_send, is_receive}
use Rattle.word_region.specs.Places.{Places, cell, is_in, IsFree, Releases, Shifts}
use Rattle.object_heap.specs.declared.heap.Heap.TheInside.{Inside}
use Rattle.object_heap.specs.Layout.{Layout, row_of, is_in_row, IsSound}
use Rattle.object_heap.specs.Objects.{word_or, word_at, words_from, with_words, span_words}
use Rattle.object_heap.specs.Kept.{seen_of, IsKept}
use Rattle.object_heap.specs.Changes.{Edits, KeepsObjects}
use Rattle.object_heap.specs.Copies.{IsCopy, IsOneCopy, KeepsCopies, GainsCopy, LosesCopy, copy_words}
use Rattle.object_heap.proofs.Words.{in_range, range_low, range_high, length_words, get_words, same_words, written_words, overwritten_words}
use Rattle.object_heap.proofs.Rows.{row_live, live_row, one_row}
use Rattle.object_heap.proofs.Heaps.{edits, keeps_objects, sound_kept, span_words_are}
use Rattle.object_heap.proofs.Copies.{keeps_copies, gains_copy, loses_copy}

-- the heap with other places and copies
abbrev pub with_region : Inside → Places → ℕ → Inside
with_region h places copies = record { region = places; table = h.table; copies = copies }

-- a test is true or false
pub bool_cases : (b : Bool) → (b ≡ true) ⊎ (b ≡ false)
bool_cases true = inl refl
bool_cases false = inr refl

-- a place of a row that the other range has not
pub choose_no : {A : Type 0} (b : Bool) (x y z : A) → z ≡ cond b x y → b ≡ false → z ≡ y
choose_no b x y z e out = e ∙ ap (λ t. cond t x y) out

pub choose_yes : {A : Type 0} (b : Bool) (x y z : A) → z ≡ cond b x y → b ≡ true → z ≡ x
choose_yes b x y z e is = e ∙ ap (λ t. cond t x y) is

pub not_both : (b : Bool) → (b ≡ true → ⊥) → b ≡ false
not_both true never = absurd (never refl)
not_both false never = refl

-- the places of a row are no copy's
pub outside_copy : (h : Layout) (held : Held) (key : ℕ) (row : Row) (p : ℕ) → IsCopy h held → row_of h key ≡ Some row → is_in_row row p ≡ true → is_in held.base held.len p ≡ false
outside_copy h held key row p copy is inside =
    not_both (is_in held.base held.len p) (λ also. copy.apart key p also (row_live (λ r. is_in_row r p ≡ true) (live h.rows key) row is inside))

-- the places of a row are not free
pub outside_free : (h : Layout) (base len : ℕ) (key : ℕ) (row : Row) (p : ℕ) → IsSound h → IsFree h.cells base len → row_of h key ≡ Some row → is_in_row row p ≡ true → is_in base len p ≡ false
outside_free h base len key row p sound free is inside =
    not_both (is_in base len p) (λ also. false≢true (ap is_some (sym (free p (range_low base len p also) (range_high base len p also)))
    ∙ sound.held key row is p (range_low row.base row.len p inside) (range_high row.base row.len p inside)))

-- a held place is not free
pub outside_held : (cells : List (Option Word)) (base len p : ℕ) → IsFree cells base len → is_some (cell cells p) ≡ true → is_in base len p ≡ false
outside_held cells base len p free held =
    not_both (is_in base len p) (λ also. false≢true (ap is_some (sym (free p (range_low base len p also) (range_high base len p also))) ∙ held))

-- a range of a row's places lies in the row
pub within_row : (row : Row) (at len p : ℕ) → at + len ≤ row.len → is_in (row.base + at) len p ≡ true → is_in_row row p ≡ true
within_row row at len p within inside =
    let low = range_low (row.base + at) len p inside in let high = range_high (row.base + at) len p inside in
    in_range row.base row.len p (omega arith) (omega arith)

-- a place of another row is not in it
pub other_row : (h : Layout) (key other : ℕ) (row second : Row) (at len p : ℕ) → IsSound h → row_of h key ≡ Some row → row_of h other ≡ Some second → other ≢ key → at + len ≤ row.len
    → is_in_row second p ≡ true → is_in (row.base + at) len p ≡ false
other_row h key other row second at len p sound is also differs within inside =
    not_both (is_in (row.base + at) len p) (λ here. false≢true (sym (sound.apart key other row second (λ e. differs (sym e)) is also p (within_row row at len p within here)) ∙ inside))

-- words are put into a part of a row's range, and the words of all rows' other places stay
pub put_edits : (h : Inside) (region : Places) (copies key : ℕ) (row : Row) (at : ℕ) (words : List Word) → IsSound (seen_of h) → row_of (seen_of h) key ≡ Some row → at + length words ≤ row.len
    → ((k : ℕ) → k < length words → word_at region.cells (row.base + (at + k)) ≡ get_or words k Undef)
    → ((other : ℕ) (second : Row) (p : ℕ) → row_of (seen_of h) other ≡ Some second → is_in_row second p ≡ true → is_in (row.base + at) (length words) p ≡ false
    → cell region.cells p ≡ cell h.region.cells p)
    → Edits (seen_of h) (seen_of (with_region h region copies)) key (λ object. with_words object at words)
put_edits h region copies key row at words sound is within inside outside =
    edits (seen_of h) (seen_of (with_region h region copies)) key row (λ object. with_words object at words) sound refl is
    (λ other second differs also p there. outside other second p also there (other_row (seen_of h) key other row second at (length words) p sound is also differs within there))
    (ap (λ ws. Some (record { kind = row.kind; words = ws }))
    (overwritten_words h.region.cells region.cells row.base row.len at words within inside
    (λ k there out. outside key row (row.base + k) is (in_range row.base row.len (row.base + k) (omega arith) (omega arith)) (moved k out))))
  where
    moved : (k : ℕ) → is_in at (length words) k ≡ false → is_in (row.base + at) (length words) (row.base + k) ≡ false
    moved k out = not_both (is_in (row.base + at) (length words) (row.base + k))
        (λ here. let low = range_low (row.base + at) (length words) (row.base + k) here in let high = range_high (row.base + at) (length words) (row.base + k) here in
        false≢true (sym out ∙ in_range at (length words) k (omega arith) (omega arith)))

-- one word is written
module _ (h : Inside) (key at place : ℕ) (word : Word) (kept : IsKept h) (row : Row) (is : row_of (seen_of h) key ≡ Some row) (within : at < row.len) (there : place ≡ row.base + at) where
  cells' : List (Option Word)
  cells' = set h.region.cells place (Some word)

  inside_cells : place < length h.region.cells
  inside_cells = let w = kept.sound.within key row is in omega arith

  pub write_edits : Edits (seen_of h) (seen_of (with_region h (record { cells = set h.region.cells place (Some word); ranges = h.region.ranges }) h.copies)) key (λ object. with_word object at word)
  write_edits =
      edits (seen_of h) (seen_of (with_region h (record { cells = set h.region.cells place (Some word); ranges = h.region.ranges }) h.copies)) key row (λ object. with_word object at word) kept.sound refl is
      (λ other second differs also p inside.
      get_or-set_other h.region.cells place p (Some word) None
      (λ same. let out = other_row (seen_of h) key other row second at 1 p kept.sound is also differs (omega arith) inside in
      false≢true (sym out ∙ in_range (row.base + at) 1 p (omega arith) (omega arith))))
      (ap (λ ws. Some (record { kind = row.kind; words = ws }))
      (ap (λ q. words_from (set h.region.cells q (Some word)) row.base row.len) there
      ∙ written_words h.region.cells row.base row.len at word within (let w = kept.sound.within key row is in omega arith)))

  pub write_copies : KeepsCopies (seen_of h) (seen_of (with_region h (record { cells = set h.region.cells place (Some word); ranges = h.region.ranges }) h.copies))
  write_copies = keeps_copies (seen_of h) (seen_of (with_region h (record { cells = set h.region.cells place (Some word); ranges = h.region.ranges }) h.copies)) refl
      (λ p held never. (
        get_or-set_other h.region.cells place p (Some word) None
            (λ same. never key (row_live (λ r. is_in_row r p ≡ true) (live h.table key) row is (in_range row.base row.len p (omega arith) (omega arith)))),
        never,
      ))

-- a message goes from one object's places to another's
module _ (h : Inside) (region : Places) (kept : IsKept h) (source target : Row) (from to : Span) (one : row_of (seen_of h) from.key ≡ Some source) (two : row_of (seen_of h) to.key ≡ Some target)
    (whole : from.at + from.len ≤ source.len) (room : to.at + to.len ≤ target.len) (fits : from.len ≤ to.len)
    (start end : ℕ) (starts : start ≡ source.base + from.at) (ends : end ≡ target.base + to.at) (shifts : Shifts h.region.cells region.cells start end from.len) where
  shifted : (p : ℕ) → cell region.cells p ≡ cond (is_in (target.base + to.at) from.len p) (cell h.region.cells (source.base + from.at + (p - (target.base + to.at)))) (cell h.region.cells p)
  shifted p = shifts.cells p
      ∙ (ap (λ n. cond (is_in n from.len p) (cell h.region.cells (start + (p - n))) (cell h.region.cells p)) ends
      ∙ ap (λ n. cond (is_in (target.base + to.at) from.len p) (cell h.region.cells (n + (p - (target.base + to.at)))) (cell h.region.cells p)) starts)

  pub sent_kept : region.ranges ≡ h.region.ranges → IsKept (with_region h region h.copies)
  sent_kept ranges = record {
    sound = sound_kept (seen_of h) (seen_of (with_region h region h.copies)) kept.sound (λ k. refl) kept.sound.marks
        (λ key row is p inside. elim (bool_cases (is_in (target.base + to.at) from.len p)) [
          | inl here ↦
              let low = range_low (target.base + to.at) from.len p here in let high = range_high (target.base + to.at) from.len p here in
              ap is_some (choose_yes (is_in (target.base + to.at) from.len p) (cell h.region.cells (source.base + from.at + (p - (target.base + to.at)))) (cell h.region.cells p) (cell region.cells p) (shifted p) here)
              ∙ kept.sound.held from.key source one (source.base + from.at + (p - (target.base + to.at))) (omega arith) (omega arith)
          | inr out ↦
              ap is_some (choose_no (is_in (target.base + to.at) from.len p) (cell h.region.cells (source.base + from.at + (p - (target.base + to.at)))) (cell h.region.cells p) (cell region.cells p) (shifted p) out)
              ∙ kept.sound.held key row is p (range_low row.base row.len p inside) (range_high row.base row.len p inside)
        ])
        (let e = shifts.end in omega arith);
    ranges = ranges ∙ kept.ranges;
  }

  pub sent_edits : Edits (seen_of h) (seen_of (with_region h region h.copies)) to.key (λ object. with_words object to.at (span_words (seen_of h) from))
  sent_edits =
      let words : span_words (seen_of h) from ≡ words_from h.region.cells (source.base + from.at) from.len = span_words_are (seen_of h) from source one whole in
      let many : length (span_words (seen_of h) from) ≡ from.len = ap length words ∙ length_words h.region.cells (source.base + from.at) from.len in
      put_edits h region h.copies to.key target to.at (span_words (seen_of h) from) kept.sound two (omega arith)
      (λ k inside.
      let here : is_in (target.base + to.at) from.len (target.base + (to.at + k)) ≡ true = in_range (target.base + to.at) from.len (target.base + (to.at + k)) (omega arith) (omega arith) in
      ap word_or (choose_yes (is_in (target.base + to.at) from.len (target.base + (to.at + k))) (cell h.region.cells (source.base + from.at + (target.base + (to.at + k) - (target.base + to.at))))
      (cell h.region.cells (target.base + (to.at + k))) (cell region.cells (target.base + (to.at + k))) (shifted (target.base + (to.at + k))) here)
      ∙ (ap (word_at h.region.cells) (let e : source.base + from.at + (target.base + (to.at + k) - (target.base + to.at)) ≡ source.base + from.at + k = omega arith in e)
      ∙ (sym (get_words h.region.cells (source.base + from.at) from.len k Undef (omega arith)) ∙ ap (λ ws. get_or ws k Undef) (sym words))))
      (λ other second p also inside out.
      choose_no (is_in (target.base + to.at) from.len p) (cell h.region.cells (source.base + from.at + (p - (target.base + to.at)))) (cell h.region.cells p) (cell region.cells p) (shifted p)
      (ap (λ n. is_in (target.base + to.at) n p) (sym many) ∙ out))

  pub sent_copies : KeepsCopies (seen_of h) (seen_of (with_region h region h.copies))
  sent_copies = keeps_copies (seen_of h) (seen_of (with_region h region h.copies)) refl
      (λ p held never. (
        choose_no (is_in (target.base + to.at) from.len p) (cell h.region.cells (source.base + from.at + (p - (target.base + to.at)))) (cell h.region.cells p) (cell region.cells p) (shifted p)
            (not_both (is_in (target.base + to.at) from.len p)
            (λ here. never to.key (row_live (λ r. is_in_row r p ≡ true) (live h.table to.key) target two (within_row target to.at from.len p (omega arith) here)))),
        never,
      ))

mark_differs : (mark : Mark) → is_send mark ≡ true → is_receive mark ≡ true → ⊥
mark_differs Free sent received = false≢true sent
mark_differs (Sends n) sent received = false≢true received
mark_differs Receive sent received = false≢true sent

-- ranges without a common place are apart
pub apart_ranges : (a b n m : ℕ) → 0 < n → n ≤ m → ((p : ℕ) → is_in a n p ≡ true → is_in b m p ≡ true → ⊥) → (a + n ≤ b) ⊎ (b + n ≤ a)
apart_ranges a b n m some fits never = elim (cases_lt a b) [
  | inl before ↦ elim (cases_lt b (a + n)) [
    | inl inside ↦ absurd (never b (in_range a n b (omega arith) inside) (in_range b m b (omega arith) (omega arith)))
    | inr past ↦ inl past
  ]
  | inr behind ↦ elim (cases_lt a (b + m)) [
    | inl inside ↦ absurd (never a (in_range a n a (omega arith) (omega arith)) (in_range b m a behind inside))
    | inr past ↦ inr (omega arith)
  ]
]

-- the places of a send are none of a receive
pub message_apart : (h : Layout) (source target : Row) (from to : Span) → IsSound h → row_of h from.key ≡ Some source → row_of h to.key ≡ Some target
    → from.at + from.len ≤ source.len → to.at + to.len ≤ target.len → 0 < from.len → from.len ≤ to.len
    → AreMarked h.rows from.key from.at from.len is_send → AreMarked h.rows to.key to.at to.len is_receive
    → (source.base + from.at + from.len ≤ target.base + to.at) ⊎ (target.base + to.at + from.len ≤ source.base + from.at)
message_apart h source target from to sound one two whole room some fits sent received =
    apart_ranges (source.base + from.at) (target.base + to.at) from.len to.len some fits
    (λ p here there. elim (cases_eq from.key to.key) [
      | inl same ↦
          let row : source ≡ target = one_row (row_of h to.key) source target (ap (row_of h) (sym same) ∙ one) two in
          let base : source.base ≡ target.base = ap (λ (r : Row). r.base) row in
          let low = range_low (source.base + from.at) from.len p here in let high = range_high (source.base + from.at) from.len p here in
          let low' = range_low (target.base + to.at) to.len p there in let high' = range_high (target.base + to.at) to.len p there in
          mark_differs (mark_at h.rows from.key (p - source.base)) (sent (p - source.base) (omega arith) (omega arith))
          (ap (λ k. is_receive (mark_at h.rows k (p - source.base))) same ∙ received (p - source.base) (omega arith) (omega arith))
      | inr differs ↦
          false≢true (sym (sound.apart from.key to.key source target differs one two p (within_row source from.at from.len p whole here)) ∙ within_row target to.at to.len p room there)
    ])

-- a message is copied into a range of its own
module _ (h : Inside) (region : Places) (copies : ℕ) (kept : IsKept h) (row : Row) (from : Span) (is : row_of (seen_of h) from.key ≡ Some row) (whole : from.at + from.len ≤ row.len) (some : 0 < from.len)
    (start : ℕ) (starts : start ≡ row.base + from.at) (held : Held) (len : held.len ≡ from.len) (first : IsFree h.region.cells held.base from.len)
    (holds : Holds h.region.cells region.cells start held.base from.len) (count : copies ≡ h.copies + 1) where
  free : IsFree h.region.cells held.base held.len
  free = subst (λ n. IsFree h.region.cells held.base n) (sym len) first

  copied : (p : ℕ) → cell region.cells p ≡ cond (is_in held.base held.len p) (cell h.region.cells (row.base + from.at + (p - held.base))) (cell h.region.cells p)
  copied p = holds.cells p
      ∙ (ap (λ n. cond (is_in held.base n p) (cell h.region.cells (start + (p - held.base))) (cell h.region.cells p)) (sym len)
      ∙ ap (λ n. cond (is_in held.base held.len p) (cell h.region.cells (n + (p - held.base))) (cell h.region.cells p)) starts)

  stays : (p : ℕ) → is_in held.base held.len p ≡ false → cell region.cells p ≡ cell h.region.cells p
  stays p out = choose_no (is_in held.base held.len p) (cell h.region.cells (row.base + from.at + (p - held.base))) (cell h.region.cells p) (cell region.cells p) (copied p) out

  row_stays : (key : ℕ) (second : Row) → row_of (seen_of h) key ≡ Some second → (p : ℕ) → is_in_row second p ≡ true → cell region.cells p ≡ cell h.region.cells p
  row_stays key second also p inside = stays p (outside_free (seen_of h) held.base held.len key second p kept.sound free also inside)

  pub hold_kept : region.ranges ≡ h.region.ranges + 1 → IsKept (with_region h region copies)
  hold_kept ranges = record {
    sound = sound_kept (seen_of h) (seen_of (with_region h region copies)) kept.sound (λ k. refl) kept.sound.marks
        (λ key second also p inside. ap is_some (row_stays key second also p inside)
        ∙ kept.sound.held key second also p (range_low second.base second.len p inside) (range_high second.base second.len p inside))
        (let e = holds.end in omega arith);
    ranges = let a = kept.ranges in omega arith;
  }

  pub hold_words : copy_words (seen_of (with_region h region copies)) held ≡ span_words (seen_of h) from
  hold_words =
      same_words region.cells h.region.cells held.base (row.base + from.at) held.len
      (λ k within.
      let here : is_in held.base held.len (held.base + k) ≡ true = in_range held.base held.len (held.base + k) (omega arith) (omega arith) in
      choose_yes (is_in held.base held.len (held.base + k)) (cell h.region.cells (row.base + from.at + (held.base + k - held.base))) (cell h.region.cells (held.base + k)) (cell region.cells (held.base + k)) (copied (held.base + k)) here
      ∙ ap (cell h.region.cells) (let e : row.base + from.at + (held.base + k - held.base) ≡ row.base + from.at + k = omega arith in e))
      ∙ (ap (words_from h.region.cells (row.base + from.at)) len ∙ sym (span_words_are (seen_of h) from row is whole))

  pub hold_objects : KeepsObjects (seen_of h) (seen_of (with_region h region copies))
  hold_objects = keeps_objects (seen_of h) (seen_of (with_region h region copies)) kept.sound.named (λ k. refl) row_stays

  is_copy : IsCopy (seen_of (with_region h region copies)) held
  is_copy = record {
    some = omega arith;
    held = λ p low high.
        ap is_some (choose_yes (is_in held.base held.len p) (cell h.region.cells (row.base + from.at + (p - held.base))) (cell h.region.cells p) (cell region.cells p) (copied p) (in_range held.base held.len p low high))
        ∙ kept.sound.held from.key row is (row.base + from.at + (p - held.base)) (omega arith) (omega arith);
    apart = λ key p inside there.
        let second = live_row (λ r. is_in_row r p ≡ true) (live h.table key) there in
        false≢true (sym (outside_free (seen_of h) held.base held.len key second.0 p kept.sound free second.1 second.2) ∙ inside);
  }

  pub hold_gains : GainsCopy (seen_of h) (seen_of (with_region h region copies)) held
  hold_gains = gains_copy (seen_of h) (seen_of (with_region h region copies)) held count
      (λ p there never. (stays p (outside_held h.region.cells held.base held.len p free there), never))
      is_copy (λ p inside. free p (range_low held.base held.len p inside) (range_high held.base held.len p inside))

-- a copy is discarded
module _ (h : Inside) (region : Places) (kept : IsKept h) (held : Held) (one : IsOneCopy (seen_of h) held) (releases : Releases h.region.cells region.cells held.base held.len)
    (ranges : region.ranges + 1 ≡ h.region.ranges) where
  left : (p : ℕ) → is_in held.base held.len p ≡ false → cell region.cells p ≡ cell h.region.cells p
  left p out = choose_no (is_in held.base held.len p) None (cell h.region.cells p) (cell region.cells p) (releases.cells p) out

  row_left : (key : ℕ) (row : Row) → row_of (seen_of h) key ≡ Some row → (p : ℕ) → is_in_row row p ≡ true → cell region.cells p ≡ cell h.region.cells p
  row_left key row is p inside = left p (outside_copy (seen_of h) held key row p one.stands is inside)

  pub discard_kept : IsKept (with_region h region (h.copies - 1))
  discard_kept = record {
    sound = sound_kept (seen_of h) (seen_of (with_region h region (h.copies - 1))) kept.sound (λ k. refl) kept.sound.marks
        (λ key row is p inside. ap is_some (row_left key row is p inside)
        ∙ kept.sound.held key row is p (range_low row.base row.len p inside) (range_high row.base row.len p inside))
        (let e = releases.end in omega arith);
    ranges = let a = kept.ranges in let b = one.counted in omega arith;
  }

  pub discard_objects : KeepsObjects (seen_of h) (seen_of (with_region h region (h.copies - 1)))
  discard_objects = keeps_objects (seen_of h) (seen_of (with_region h region (h.copies - 1))) kept.sound.named (λ k. refl) row_left

  pub discard_loses : LosesCopy (seen_of h) (seen_of (with_region h region (h.copies - 1))) held
  discard_loses = loses_copy (seen_of h) (seen_of (with_region h region (h.copies - 1))) held (let b = one.counted in omega arith)
      (λ p out there never. (left p out, never))

-- the places of a copy are none of an object's
pub land_apart : (h : Layout) (held : Held) (one : IsOneCopy h held) (row : Row) (to : Span) → row_of h to.key ≡ Some row → to.at + to.len ≤ row.len → held.len ≤ to.len
    → (place : ℕ) → place ≡ row.base + to.at → (held.base + held.len ≤ place) ⊎ (place + held.len ≤ held.base)
land_apart h held one row to is room fits place there =
    subst (λ n. (held.base + held.len ≤ n) ⊎ (n + held.len ≤ held.base)) (sym there)
    (apart_ranges held.base (row.base + to.at) held.len held.len one.stands.some (omega arith)
    (λ p inside also. false≢true (sym (outside_copy h held to.key row p one.stands is (within_row row to.at held.len p (omega arith) also)) ∙ inside)))

-- a copy is landed
module _ (h : Inside) (region : Places) (kept : IsKept h) (held : Held) (one : IsOneCopy (seen_of h) held) (row : Row) (to : Span) (is : row_of (seen_of h) to.key ≡ Some row)
    (room : to.at + to.len ≤ row.len) (fits : held.len ≤ to.len) (place : ℕ) (there : place ≡ row.base + to.at) (lands : Lands h.region.cells region.cells held.base place held.len)
    (ranges : region.ranges + 1 ≡ h.region.ranges) where
  landed : (p : ℕ) → is_in held.base held.len p ≡ false → cell region.cells p ≡ cond (is_in (row.base + to.at) held.len p) (cell h.region.cells (held.base + (p - (row.base + to.at)))) (cell h.region.cells p)
  landed p out =
      choose_no (is_in held.base held.len p) None (cond (is_in place held.len p) (cell h.region.cells (held.base + (p - place))) (cell h.region.cells p)) (cell region.cells p) (lands.cells p) out
      ∙ ap (λ n. cond (is_in n held.len p) (cell h.region.cells (held.base + (p - n))) (cell h.region.cells p)) there

  pub land_kept : IsKept (with_region h region (h.copies - 1))
  land_kept = record {
    sound = sound_kept (seen_of h) (seen_of (with_region h region (h.copies - 1))) kept.sound (λ k. refl) kept.sound.marks
        (λ key second also p inside.
        let out = outside_copy (seen_of h) held key second p one.stands also inside in
        elim (bool_cases (is_in (row.base + to.at) held.len p)) [
          | inl here ↦
              let low = range_low (row.base + to.at) held.len p here in let high = range_high (row.base + to.at) held.len p here in
              ap is_some (choose_yes (is_in (row.base + to.at) held.len p) (cell h.region.cells (held.base + (p - (row.base + to.at)))) (cell h.region.cells p) (cell region.cells p) (landed p out) here)
              ∙ one.stands.held (held.base + (p - (row.base + to.at))) (omega arith) (omega arith)
          | inr away ↦
              ap is_some (choose_no (is_in (row.base + to.at) held.len p) (cell h.region.cells (held.base + (p - (row.base + to.at)))) (cell h.region.cells p) (cell region.cells p) (landed p out) away)
              ∙ kept.sound.held key second also p (range_low second.base second.len p inside) (range_high second.base second.len p inside)
        ])
        (let e = lands.end in omega arith);
    ranges = let a = kept.ranges in let b = one.counted in omega arith;
  }

  pub land_edits : Edits (seen_of h) (seen_of (with_region h region (h.copies - 1))) to.key (λ object. with_words object to.at (copy_words (seen_of h) held))
  land_edits =
      let many : length (copy_words (seen_of h) held) ≡ held.len = length_words h.region.cells held.base held.len in
      put_edits h region (h.copies - 1) to.key row to.at (copy_words (seen_of h) held) kept.sound is (omega arith)
      (λ k inside.
      let here : is_in (row.base + to.at) held.len (row.base + (to.at + k)) ≡ true = in_range (row.base + to.at) held.len (row.base + (to.at + k)) (omega arith) (omega arith) in
      let out = outside_copy (seen_of h) held to.key row (row.base + (to.at + k)) one.stands is (in_range row.base row.len (row.base + (to.at + k)) (omega arith) (omega arith)) in
      ap word_or (choose_yes (is_in (row.base + to.at) held.len (row.base + (to.at + k))) (cell h.region.cells (held.base + (row.base + (to.at + k) - (row.base + to.at))))
      (cell h.region.cells (row.base + (to.at + k))) (cell region.cells (row.base + (to.at + k))) (landed (row.base + (to.at + k)) out) here)
      ∙ (ap (word_at h.region.cells) (let e : held.base + (row.base + (to.at + k) - (row.base + to.at)) ≡ held.base + k = omega arith in e)
      ∙ sym (get_words h.region.cells held.base held.len k Undef (omega arith))))
      (λ other second p also inside away.
      choose_no (is_in (row.base + to.at) held.len p) (cell h.region.cells (held.base + (p - (row.base + to.at)))) (cell h.region.cells p) (cell region.cells p)
      (landed p (outside_copy (seen_of h) held other second p one.stands also inside)) (ap (λ n. is_in (row.base + to.at) n p) (sym many) ∙ away))

  pub land_loses : LosesCopy (seen_of h) (seen_of (with_region h region (h.copies - 1))) held
  land_loses = loses_copy (seen_of h) (seen_of (with_region h region (h.copies - 1))) held (let b = one.counted in omega arith)
      (λ p out kept_there never. (
        choose_no (is_in (row.base + to.at) held.len p) (cell h.region.cells (held.base + (p - (row.base + to.at)))) (cell h.region.cells p) (cell region.cells p) (landed p out)
            (not_both (is_in (row.base + to.at) held.len p)
            (λ here. never to.key (row_live (λ r. is_in_row r p ≡ true) (live h.table to.key) row is (within_row row to.at held.len p (omega arith) here)))),
        never,
      ))
