use Rattle.std.proofs.Common.{◌≡◌, ℕ, true, None, subst, sym}
use Rattle.mpc_values.specs.declared.values.Obj.{Obj}
use Rattle.mpc_values.specs.declared.owners.Owner.{Owner}
use Rattle.block_table.specs.Rows.{IsNamed, is_free, mark_at}
use Rattle.object_heap.specs.Layout.{Layout}
use Rattle.object_heap.specs.Kept.{seen_of}
use Rattle.object_heap.specs.Marks.{KeepsMarks}
use Rattle.object_heap.specs.Changes.{Puts}
use Rattle.object_heap.specs.Copies.{KeepsCopies}
use Rattle.object_heap.proofs.Made.{with_both, closed_kept, closed_object, closed_marks, closed_copies}
use Rattle.object_heap.proofs.heap.Heap.close.Goals as goal

pub invariant_of-self : goal.invariant_of-self
invariant_of-self c = closed_kept c.self.inside c.release_places.new.region c.close_row-row.new.self c.self.invariant c.args.key c.close_row-row.result (sym c.close_row-row.ensures.row) (subst (λ (h : Layout). (p : ℕ) → is_free (mark_at h.rows c.args.key p) ≡ true) (sym c.self.view_is) c.requires.clear) c.close_row-row.ensures.closed c.release_places.ensures.releases c.release_places.ensures.ranges

pub returns-clause-object : goal.returns-clause-object
returns-clause-object c =
    subst (λ (h : Layout). (owner : Owner) (obj : Obj) → IsNamed h.rows c.args.key owner obj → Puts h (seen_of (with_both c.self.inside c.release_places.new.region c.close_row-row.new.self)) owner obj None) c.self.view_is
    (closed_object c.self.inside c.release_places.new.region c.close_row-row.new.self c.self.invariant c.args.key c.close_row-row.result (sym c.close_row-row.ensures.row) (subst (λ (h : Layout). (p : ℕ) → is_free (mark_at h.rows c.args.key p) ≡ true) (sym c.self.view_is) c.requires.clear) c.close_row-row.ensures.closed c.release_places.ensures.releases)

pub returns-clause-marks : goal.returns-clause-marks
returns-clause-marks c =
    subst (λ (h : Layout). KeepsMarks h (seen_of (with_both c.self.inside c.release_places.new.region c.close_row-row.new.self))) c.self.view_is
    (closed_marks c.self.inside c.release_places.new.region c.close_row-row.new.self c.self.invariant c.args.key c.close_row-row.result (sym c.close_row-row.ensures.row) (subst (λ (h : Layout). (p : ℕ) → is_free (mark_at h.rows c.args.key p) ≡ true) (sym c.self.view_is) c.requires.clear) c.close_row-row.ensures.closed c.release_places.ensures.releases)

pub returns-clause-copies : goal.returns-clause-copies
returns-clause-copies c =
    subst (λ (h : Layout). KeepsCopies h (seen_of (with_both c.self.inside c.release_places.new.region c.close_row-row.new.self))) c.self.view_is
    (closed_copies c.self.inside c.release_places.new.region c.close_row-row.new.self c.self.invariant c.args.key c.close_row-row.result (sym c.close_row-row.ensures.row) (subst (λ (h : Layout). (p : ℕ) → is_free (mark_at h.rows c.args.key p) ≡ true) (sym c.self.view_is) c.requires.clear) c.close_row-row.ensures.closed c.release_places.ensures.releases)
