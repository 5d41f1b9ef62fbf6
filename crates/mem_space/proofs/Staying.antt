-- Marked places stay marked.
use Rattle.std.proofs.Common.{◌≡◌, ℕ, ◌+◌, ◌<◌, ◌≤◌, Bool, true, false, if◌then◌else◌, Option, Some, None, is_some, refl, sym, ap, ◌∙◌, inl, inr, arith}
use Rattle.std.proofs.lemmas.Bool.{false≢true}
use Rattle.mpc_values.specs.declared.values.Obj.{Obj}
use Rattle.mpc_values.specs.declared.owners.Owner.{Owner}
use Rattle.memory_model.specs.declared.kinds.Span.{Span}
use Rattle.block_table.specs.declared.rows.Span as row
use Rattle.block_table.specs.declared.rows.Mark.{Mark}
use Rattle.block_table.specs.declared.rows.Mark.TheVariants.{Free}
use Rattle.block_table.specs.Rows.{is_in}
use Rattle.block_table.proofs.Names.{same_cases}
use Rattle.object_heap.specs.Layout.{Layout}
use Rattle.object_heap.specs.Objects.{object_in, object_where, key_named}
use Rattle.object_heap.specs.Marks.{mark_of, mark_where, KeepsMarks}
use Rattle.object_heap.proofs.Names.{key_is}
use Rattle.object_heap.proofs.Heaps.{named_row, object_of_row}
use Rattle.mem_space.specs.Spaces.{Space}
use Rattle.mem_space.specs.Places.{IsMarked, Keeps, Remarks}

-- an object with a marked place lives
pub marked_lives : (h : Layout) (owner : Owner) (obj : Obj) (p : ℕ) (test : Mark → Bool) → test Free ≡ false → test (mark_of h owner obj p) ≡ true → is_some (object_in h owner obj) ≡ true
marked_lives h owner obj p test free marked = by (key_named h.rows owner obj) refl
  where
    by : (key : Option ℕ) → key_named h.rows owner obj ≡ key → is_some (object_in h owner obj) ≡ true
    by None none = absurd (false≢true (sym free ∙ (ap (λ k. test (mark_where h.rows k p)) (sym none) ∙ marked)))
    by (Some key) is =
        let row = named_row h.rows key owner obj (key_is h.rows owner obj key is) in
        ap (λ k. is_some (object_where h k)) is ∙ ap is_some (object_of_row h key row.0 row.1)

pub marked_kept : (old new : Space) (span : row.Span) (test : Mark → Bool) → test Free ≡ false → Keeps old new → KeepsMarks old.heap new.heap → IsMarked old span test → IsMarked new span test
marked_kept old new span test free keeps marks is =
    let now : (p : ℕ) → is.places.at ≤ p → p < is.places.at + is.places.count → test (mark_of new.heap is.places.owner is.places.obj p) ≡ true =
    λ p low high. ap test (marks is.places.owner is.places.obj p) ∙ is.marked p low high in
    let some : is.places.at < is.places.at + is.places.count = let n = is.there.there.places.some in omega (arith, is.there.count) in
    record {
      places = is.places;
      there = keeps.spans span is.places is.there (marked_lives new.heap is.places.owner is.places.obj is.places.at test free (now is.places.at (omega arith) some));
      marked = now;
    }

either_marked : (b : Bool) (test : Mark → Bool) (change : Mark → Mark) (mark : Mark) → ((m : Mark) → test m ≡ true → test (change m) ≡ true) → test mark ≡ true → test (if b then change mark else mark) ≡ true
either_marked true test change mark stays is = stays mark is
either_marked false test change mark stays is = is

pub marked_others : (old new : Space) (span : row.Span) (places : Span) (test : Mark → Bool) (change : Mark → Mark) → test Free ≡ false → ((mark : Mark) → test mark ≡ true → test (change mark) ≡ true)
    → Remarks old new places change → IsMarked old span test → IsMarked new span test
marked_others old new span places test change free stays remarks is =
    let now : (p : ℕ) → is.places.at ≤ p → p < is.places.at + is.places.count → test (mark_of new.heap is.places.owner is.places.obj p) ≡ true =
    λ p low high. mark_now p (is.marked p low high) in
    let some : is.places.at < is.places.at + is.places.count = let n = is.there.there.places.some in omega (arith, is.there.count) in
    record {
      places = is.places;
      there = remarks.rest.spans span is.places is.there (marked_lives new.heap is.places.owner is.places.obj is.places.at test free (now is.places.at (omega arith) some));
      marked = now;
    }
  where
    mark_now : (p : ℕ) → test (mark_of old.heap is.places.owner is.places.obj p) ≡ true → test (mark_of new.heap is.places.owner is.places.obj p) ≡ true
    mark_now p was = elim (same_cases is.places.owner is.places.obj places.owner places.obj) [
      | inl same ↦
          let here : test (mark_of new.heap places.owner places.obj p) ≡ true =
          ap test (remarks.here p) ∙ either_marked (is_in places.at places.count p) test change (mark_of old.heap places.owner places.obj p) stays
          (sym (ap (λ o. test (mark_of old.heap o is.places.obj p)) same.0 ∙ ap (λ x. test (mark_of old.heap places.owner x p)) same.1) ∙ was) in
          ap (λ o. test (mark_of new.heap o is.places.obj p)) same.0 ∙ (ap (λ x. test (mark_of new.heap places.owner x p)) same.1 ∙ here)
      | inr differs ↦ ap test (remarks.others is.places.owner is.places.obj p differs) ∙ was
    ]
