-- Marks of places by their spans.
use Rattle.std.proofs.Common.{◌≡◌, ℕ, zero, suc, ◌+◌, ◌<◌, ◌≤◌, Bool, true, false, ◌||◌, if◌then◌else◌, refl, sym, ap, subst, ◌∙◌, inl, inr, arith}
use Rattle.std.specs.List.{list_any, range_with_len}
use Rattle.std.proofs.lemmas.Bool.{false≢true, cases_lt}
use Rattle.std.proofs.lemmas.Bool.Decides.{nat_tests}
use Rattle.mpc_values.specs.declared.values.Word.{Word}
use Rattle.mpc_values.specs.declared.values.Obj.{Obj}
use Rattle.mpc_values.specs.declared.owners.Owner.{Owner}
use Rattle.memory_model.specs.declared.kinds.Span.{Span}
use Rattle.memory_model.specs.Memory.{Memory}
use Rattle.memory_model.specs.Marks.{Places}
use Rattle.memory_model.specs.Ranges.{range_of, span_in, span_of}
use Rattle.block_table.specs.declared.rows.Span as row
use Rattle.block_table.specs.declared.rows.Mark.{Mark}
use Rattle.block_table.specs.declared.rows.Mark.TheVariants.{Free, Sends, Receive}
use Rattle.block_table.specs.Rows.{AreMarked, mark_at, is_in, is_free, is_send, is_receive, may_send, with_send, with_receive}
use Rattle.object_heap.specs.Layout.{Layout, IsSound}
use Rattle.object_heap.specs.Marks.{mark_of, mark_where, marks_in}
use Rattle.object_heap.specs.Marks as heap
use Rattle.object_heap.specs.Changes.{KeepsObjects, KeepsSpans}
use Rattle.object_heap.specs.Copies.{KeepsCopies}
use Rattle.object_heap.proofs.Heaps.{mark_named, one_name}
use Rattle.mem_space.specs.Spaces.{Space, owner_for}
use Rattle.mem_space.specs.Ranges.{IsRange, barred}
use Rattle.mem_space.specs.Places.{IsPlaces, IsMarked, CanCount, Keeps, Remarks, Pends, sends}
use Rattle.mem_space.proofs.Stores.{range_within}

either_false : (a b : Bool) → (a || b) ≡ false → (a ≡ false) × (b ≡ false)
either_false true b h = absurd (false≢true (sym h))
either_false false b h = (refl, h)

-- where none of some places passes a test, each of them does not
none_in : (test : ℕ → Bool) (from count p : ℕ) → list_any test (range_with_len from count) ≡ false → from ≤ p → p < from + count → test p ≡ false
none_in test from zero p none low high = absurd (omega arith)
none_in test from (suc count) p none low high =
    let parts = either_false (test from) (list_any test (range_with_len (from + 1) count)) none in
    elim (cases_lt from p) [
      | inl later ↦ none_in test (from + 1) count p parts.1 (omega arith) (omega arith)
      | inr here ↦ let same : from ≡ p = omega arith in subst (λ n. test n ≡ false) same parts.0
    ]

sendable : (mark : Mark) → is_receive mark ≡ false → sends mark < 4294967295 → may_send mark ≡ true
sendable Free never few = refl
sendable (Sends n) never few = grind (arith, nat_tests)
sendable Receive never few = absurd (false≢true (sym never))

receivable : (mark : Mark) → (is_send mark || is_receive mark) ≡ false → is_free mark ≡ true
receivable Free never = refl
receivable (Sends n) never = absurd (false≢true (sym never))
receivable Receive never = absurd (false≢true (sym never))

module _ (s : Space) (task : ℕ) (at : Word) (count : ℕ) (span : row.Span) where
  mark_there : (stored : Bool) (r : IsRange s task at count stored span) (p : ℕ) → mark_at s.heap.rows span.key p ≡ mark_of s.heap (owner_for s.sharing task r.obj) r.obj p
  mark_there stored r p = sym (ap (λ k. mark_where s.heap.rows k p) r.key)

  -- a send may be counted at each place of a range that may be loaded
  pub may_count : (r : IsRange s task at count false span) → CanCount s task at count → AreMarked s.heap.rows span.key span.at span.len may_send
  may_count r few p from until =
      ap may_send (mark_there false r p)
      ∙ sendable (mark_of s.heap (owner_for s.sharing task r.obj) r.obj p)
      (none_in (λ q. is_receive (mark_of s.heap (owner_for s.sharing task r.obj) r.obj q)) span.at count p r.allowed from (omega (arith, r.len)))
      (few r.obj span.at p r.names from (omega (arith, r.len)))

  -- each place of a range that may be stored to is free
  pub all_free : (r : IsRange s task at count true span) → AreMarked s.heap.rows span.key span.at span.len is_free
  all_free r p from until =
      ap is_free (mark_there true r p)
      ∙ receivable (mark_of s.heap (owner_for s.sharing task r.obj) r.obj p)
      (none_in (λ q. is_send (mark_of s.heap (owner_for s.sharing task r.obj) r.obj q) || is_receive (mark_of s.heap (owner_for s.sharing task r.obj) r.obj q)) span.at count p r.allowed from (omega (arith, r.len)))

-- marks of places are marks of the row
pub rows_marked : (s : Space) (span : row.Span) (test : Mark → Bool) → IsSound s.heap → IsMarked s span test → AreMarked s.heap.rows span.key span.at span.len test
rows_marked s span test sound marked p from until =
    ap test (sym (mark_named s.heap span.key p marked.places.owner marked.places.obj sound.named marked.there.there.named))
    ∙ marked.marked p (omega (arith, marked.there.at)) (omega (arith, marked.there.at, marked.there.count))

-- what a change of the heap alone leaves
pub keeps : (s : Space) (h : Layout) → KeepsSpans s.heap h → Keeps s (record s { heap = h })
keeps s h spans = record {
  sharing = refl;
  quota = refl;
  spans = λ span places is lives. record { there = spans span places.owner places.obj is.there; at = is.at; count = is.count };
}

pub remarks : (s : Space) (h : Layout) (span : row.Span) (places : Span) (change : Mark → Mark) → IsPlaces s span places → heap.Remarks s.heap h span.key span.at span.len change
    → KeepsObjects s.heap h → KeepsSpans s.heap h → KeepsCopies s.heap h → Remarks s (record s { heap = h }) places change
remarks s h span places change is marked objects spans copies = record {
  here = λ p.
      marked.here places.owner places.obj p is.there.named
      ∙ (ap (λ a. if is_in a span.len p then change (mark_of s.heap places.owner places.obj p) else mark_of s.heap places.owner places.obj p) is.at
      ∙ ap (λ n. if is_in places.at n p then change (mark_of s.heap places.owner places.obj p) else mark_of s.heap places.owner places.obj p) is.count);
  others = λ owner obj p differs. marked.others owner obj p (λ named. differs (one_name s.heap.rows span.key places.owner owner places.obj obj is.there.named named));
  objects = objects;
  copies = copies;
  made = refl;
  rest = keeps s h spans;
}

spans_by_count : (owner_of : Obj → Owner) (test : Places) (m : Memory) (at : Word) (count : ℕ) → 0 < count → span_of owner_of test m at count ≡ span_in count (range_of owner_of test m at count)
spans_by_count owner_of test m at zero some = absurd (omega arith)
spans_by_count owner_of test m at (suc more) some = refl

pub pends : (s : Space) (h : Layout) (task : ℕ) (at : Word) (count : ℕ) (stored : Bool) (change : Mark → Mark) (span : row.Span) → IsRange s task at count stored span → 0 < count
    → heap.Remarks s.heap h span.key span.at span.len change → KeepsObjects s.heap h → KeepsSpans s.heap h → KeepsCopies s.heap h
    → Pends s (record s { heap = h }) task at count (barred stored (marks_in s.heap)) change span
pends s h task at count stored change span r some marked objects spans copies = record {
  places = record { owner = owner_for s.sharing task r.obj; obj = r.obj; at = span.at; count = count };
  named = λ m shows. spans_by_count (owner_for s.sharing task) (barred stored (marks_in s.heap)) m at count some ∙ ap (span_in count) (range_within s task at count stored span r m shows);
  there = record { there = spans span (owner_for s.sharing task r.obj) r.obj r.there; at = refl; count = r.len };
  len = r.len;
  marks = remarks s h span (record { owner = owner_for s.sharing task r.obj; obj = r.obj; at = span.at; count = count }) change (record { there = r.there; at = refl; count = r.len }) marked objects spans copies;
}

sent_is : (mark : Mark) → is_receive mark ≡ false → is_send (with_send mark) ≡ true
sent_is Free never = refl
sent_is (Sends n) never = refl
sent_is Receive never = absurd (false≢true (sym never))

inside : (at count p : ℕ) → at ≤ p → p < at + count → is_in at count p ≡ true
inside at count p low high = grind (arith, nat_tests)

-- the places of a message that was just marked have its mark
module _ (s : Space) (h : Layout) (task : ℕ) (at : Word) (count : ℕ) (span : row.Span) where
  newly : (stored : Bool) (change : Mark → Mark) (test : Mark → Bool) (r : IsRange s task at count stored span) → heap.Remarks s.heap h span.key span.at span.len change → KeepsSpans s.heap h
      → ((p : ℕ) → span.at ≤ p → p < span.at + count → test (change (mark_of s.heap (owner_for s.sharing task r.obj) r.obj p)) ≡ true) → IsMarked (record s { heap = h }) span test
  newly stored change test r marked spans is = record {
    places = record { owner = owner_for s.sharing task r.obj; obj = r.obj; at = span.at; count = count };
    there = record { there = spans span (owner_for s.sharing task r.obj) r.obj r.there; at = refl; count = r.len };
    marked = λ p low high.
        ap test (marked.here (owner_for s.sharing task r.obj) r.obj p r.there.named
        ∙ ap (λ b. if b then change (mark_of s.heap (owner_for s.sharing task r.obj) r.obj p) else mark_of s.heap (owner_for s.sharing task r.obj) r.obj p) (inside span.at span.len p low (omega (arith, r.len))))
        ∙ is p low high;
  }

  pub newly_sent : (r : IsRange s task at count false span) → heap.Remarks s.heap h span.key span.at span.len with_send → KeepsSpans s.heap h → IsMarked (record s { heap = h }) span is_send
  newly_sent r marked spans =
      newly false with_send is_send r marked spans
      (λ p low high. sent_is (mark_of s.heap (owner_for s.sharing task r.obj) r.obj p) (none_in (λ q. is_receive (mark_of s.heap (owner_for s.sharing task r.obj) r.obj q)) span.at count p r.allowed low high))

  pub newly_received : (r : IsRange s task at count true span) → heap.Remarks s.heap h span.key span.at span.len with_receive → KeepsSpans s.heap h → IsMarked (record s { heap = h }) span is_receive
  newly_received r marked spans = newly true with_receive is_receive r marked spans (λ p low high. refl)
