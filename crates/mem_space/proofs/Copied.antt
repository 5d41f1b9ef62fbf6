-- Words that are copied between places.
use Rattle.std.proofs.Common.{◌≡◌, ℕ, ◌+◌, ◌≤◌, if◌then◌else◌, List, ◌++◌, length, take, drop, Some, refl, sym, ap, subst, ◌∙◌, arith, length-append, length-take, length-drop}
use Rattle.mpc_values.specs.declared.values.Word.{Word}
use Rattle.memory_model.specs.declared.kinds.Span.{Span}
use Rattle.memory_model.specs.Memory.{Memory, object_of, with_object}
use Rattle.memory_model.specs.Ranges.{overwritten, words_in, words_at, written_in, with_words_at}
use Rattle.block_table.specs.declared.rows.Span as row
use Rattle.object_heap.specs.Layout.{Layout, IsSound}
use Rattle.object_heap.specs.Objects.{Shows, part, span_words, with_words}
use Rattle.mpi_copy.specs.declared.Held.{Held}
use Rattle.object_heap.specs.Marks.{KeepsMarks}
use Rattle.object_heap.specs.Copies.{copy_words, KeepsCopies, GainsCopy, LosesCopy}
use Rattle.object_heap.specs.Changes.{Edits, KeepsObjects, KeepsSpans}
use Rattle.object_heap.proofs.Words.{length_words}
use Rattle.object_heap.proofs.Heaps.{shows_given}
use Rattle.mem_space.specs.Spaces.{Space}
use Rattle.mem_space.specs.Places.{IsPlaces, SendsOver}
use Rattle.mem_space.specs.Copies.{Holds, Lands}
use Rattle.mem_space.proofs.Heaps.{Spanned, spanned}
use Rattle.mem_space.proofs.Counts.{SameSizes, sizes_put}
use Rattle.mem_space.proofs.Ranges.{le_true}
use Rattle.mem_space.proofs.Marked.{keeps}

-- the words of a span are those of its places, in every memory that the space shows
pub words_there : (s : Space) (span : row.Span) (places : Span) (m : Memory) → IsSound s.heap → Shows s.heap m → IsPlaces s span places → span_words s.heap span ≡ words_at m (Some places)
words_there s span places m sound shows is =
    let o = spanned s.heap span places.owner places.obj sound is.there in
    let lives : object_of m places.owner places.obj ≡ Some o.object = shows places.owner places.obj ∙ o.is in
    ap (λ x. part x span.at span.len) o.at
    ∙ (ap (λ a. take span.len (drop a o.object.words)) is.at ∙ (ap (λ n. take n (drop places.at o.object.words)) is.count ∙ sym (ap (words_in places) lives)))

pub length_there : (s : Space) (span : row.Span) (places : Span) → IsSound s.heap → IsPlaces s span places → length (span_words s.heap span) ≡ span.len
length_there s span places sound is =
    let o = spanned s.heap span places.owner places.obj sound is.there in
    let a = length-take span.len (drop span.at o.object.words) in let b = length-drop span.at o.object.words in
    ap (λ x. length (part x span.at span.len)) o.at ∙ (let within = o.within in omega arith)

length_over : (words new : List Word) (at : ℕ) → at + length new ≤ length words → length (overwritten words at new) ≡ length words
length_over words new at fits =
    let a = length-append (take at words) (new ++ drop (at + length new) words) in let b = length-append new (drop (at + length new) words) in
    let c = length-take at words in let d = length-drop (at + length new) words in omega arith

-- words are written over the first of some places
module _ (s : Space) (h : Layout) (span : row.Span) (places : Span) (words : List Word) (sound : IsSound s.heap) (is : IsPlaces s span places) (fits : length words ≤ span.len)
    (edits : Edits s.heap h span.key (λ object. with_words object span.at words)) where
  target : Spanned s.heap span places.owner places.obj
  target = spanned s.heap span places.owner places.obj sound is.there

  pub written_sizes : SameSizes s.heap h
  written_sizes =
      let within = target.within in
      sizes_put s.heap h places.owner places.obj target.object (with_words target.object span.at words) target.is (length_over target.object.words words span.at (omega arith))
      (edits.object places.owner places.obj target.object is.there.named target.is)

  pub written_shows : (m : Memory) → Shows s.heap m → Shows h (with_words_at m (Some places) words)
  written_shows m shows =
      let within = target.within in
      let lives : object_of m places.owner places.obj ≡ Some target.object = shows places.owner places.obj ∙ target.is in
      let written : with_words_at m (Some places) words ≡ with_object m places.owner places.obj (with_words target.object places.at words) =
      ap (written_in m places words) lives
      ∙ ap (λ b. if b then with_object m places.owner places.obj (with_words target.object places.at words) else m) (le_true (places.at + length words) (length target.object.words) (omega (arith, is.at))) in
      subst (Shows h) (ap (λ a. with_object m places.owner places.obj (with_words target.object a words)) is.at ∙ sym written)
      (shows_given s.heap h m places.owner places.obj (with_words target.object span.at words) shows (edits.object places.owner places.obj target.object is.there.named target.is))

pub sent_over : (s : Space) (h : Layout) (from to : row.Span) → IsSound s.heap → from.len ≤ to.len → Edits s.heap h to.key (λ object. with_words object to.at (span_words s.heap from))
    → KeepsMarks s.heap h → KeepsSpans s.heap h → KeepsCopies s.heap h → SendsOver s (record s { heap = h }) from to
sent_over s h from to sound fits edits marks spans copies = record {
  words = λ m source target shows is_source is_target.
      let long = length_there s from source sound is_source in
      let short : length (span_words s.heap from) ≤ to.len = omega (arith, fits) in
      subst (λ ws. Shows h (with_words_at m (Some target) ws)) (words_there s from source m sound shows is_source)
      (written_shows s h to target (span_words s.heap from) sound is_target short edits m shows);
  marks = marks;
  copies = copies;
  made = refl;
  rest = keeps s h spans;
}

pub landed : (s : Space) (h : Layout) (held : Held) (to : row.Span) → IsSound s.heap → held.len ≤ to.len → Edits s.heap h to.key (λ object. with_words object to.at (copy_words s.heap held))
    → LosesCopy s.heap h held → KeepsMarks s.heap h → KeepsSpans s.heap h → Lands s (record s { heap = h }) held to
landed s h held to sound fits edits copies marks spans = record {
  words = λ m target shows is.
      let long = length_words s.heap.cells held.base held.len in
      let short : length (copy_words s.heap held) ≤ to.len = omega (arith, fits) in
      written_shows s h to target (copy_words s.heap held) sound is short edits m shows;
  copies = copies;
  marks = marks;
  made = refl;
  rest = keeps s h spans;
}

pub held_words : (s : Space) (h : Layout) (from : row.Span) (held : Held) → IsSound s.heap → held.len ≡ from.len → copy_words h held ≡ span_words s.heap from
    → GainsCopy s.heap h held → KeepsObjects s.heap h → KeepsMarks s.heap h → KeepsSpans s.heap h → Holds s (record s { heap = h }) from held
held_words s h from held sound long words copies objects marks spans = record {
  len = long;
  words = λ m source shows is. words ∙ words_there s from source m sound shows is;
  copies = copies;
  objects = objects;
  marks = marks;
  made = refl;
  rest = keeps s h spans;
}
