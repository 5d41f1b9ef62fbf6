use Rattle.std.proofs.Common.{◌≡◌, replicate, Some, None, subst, sym}
use Rattle.mpc_values.specs.declared.values.Word.TheVariants.{Undef}
use Rattle.block_table.specs.Rows.{Rows}
use Rattle.object_heap.specs.Layout.{Layout}
use Rattle.object_heap.specs.Objects.{object_in}
use Rattle.object_heap.specs.Kept.{seen_of}
use Rattle.object_heap.specs.Marks.{KeepsMarks}
use Rattle.object_heap.specs.Changes.{Puts, KeepsObjects}
use Rattle.object_heap.specs.Copies.{KeepsCopies}
use Rattle.object_heap.proofs.Heaps.{name_of_none}
use Rattle.object_heap.proofs.Made.{with_both, added_kept, added_object, added_marks, added_copies, given_up_objects, given_up_copies}
use Rattle.object_heap.proofs.heap.Heap.add.Goals as goal

pub add_row-requires : goal.add_row-requires
add_row-requires c =
    name_of_none (seen_of c.self.inside) c.args.owner c.args.obj (subst (λ (h : Layout). object_in h c.args.owner c.args.obj ≡ None) (sym c.self.view_is) c.requires)

pub invariant_of-self-in-Ok : goal.invariant_of-self-in-Ok
invariant_of-self-in-Ok c =
    let taken = c.in_ok-base.ensures in
    let row = c.in-Ok.ensures in
    let fresh = name_of_none (seen_of c.self.inside) c.args.owner c.args.obj (subst (λ (h : Layout). object_in h c.args.owner c.args.obj ≡ None) (sym c.self.view_is) c.requires) in
    added_kept c.self.inside c.take_places.new.region c.add_row.new.self c.self.invariant c.in-Ok.key c.in_ok-base.base c.args.len c.args.owner c.args.obj c.args.kind taken.first.free taken.takes row.vacant row.added fresh taken.ranges

pub returns-in-Ok-clause-object : goal.returns-in-Ok-clause-object
returns-in-Ok-clause-object c =
    let taken = c.in_ok-base.ensures in
    let row = c.in-Ok.ensures in
    let fresh = name_of_none (seen_of c.self.inside) c.args.owner c.args.obj (subst (λ (h : Layout). object_in h c.args.owner c.args.obj ≡ None) (sym c.self.view_is) c.requires) in
    subst (λ (h : Layout). Puts h (seen_of (with_both c.self.inside c.take_places.new.region c.add_row.new.self)) c.args.owner c.args.obj (Some (record { kind = c.args.kind; words = replicate c.args.len Undef }))) c.self.view_is
    (added_object c.self.inside c.take_places.new.region c.add_row.new.self c.self.invariant c.in-Ok.key c.in_ok-base.base c.args.len c.args.owner c.args.obj c.args.kind taken.first.free taken.takes row.vacant row.added fresh)

pub returns-in-Ok-clause-marks : goal.returns-in-Ok-clause-marks
returns-in-Ok-clause-marks c =
    let taken = c.in_ok-base.ensures in
    let row = c.in-Ok.ensures in
    let fresh = name_of_none (seen_of c.self.inside) c.args.owner c.args.obj (subst (λ (h : Layout). object_in h c.args.owner c.args.obj ≡ None) (sym c.self.view_is) c.requires) in
    subst (λ (h : Layout). KeepsMarks h (seen_of (with_both c.self.inside c.take_places.new.region c.add_row.new.self))) c.self.view_is
    (added_marks c.self.inside c.take_places.new.region c.add_row.new.self c.self.invariant c.in-Ok.key c.in_ok-base.base c.args.len c.args.owner c.args.obj c.args.kind taken.first.free taken.takes row.vacant row.added fresh)

pub returns-in-Ok-clause-copies : goal.returns-in-Ok-clause-copies
returns-in-Ok-clause-copies c =
    let taken = c.in_ok-base.ensures in
    let row = c.in-Ok.ensures in
    let fresh = name_of_none (seen_of c.self.inside) c.args.owner c.args.obj (subst (λ (h : Layout). object_in h c.args.owner c.args.obj ≡ None) (sym c.self.view_is) c.requires) in
    subst (λ (h : Layout). KeepsCopies h (seen_of (with_both c.self.inside c.take_places.new.region c.add_row.new.self))) c.self.view_is
    (added_copies c.self.inside c.take_places.new.region c.add_row.new.self c.self.invariant c.in-Ok.key c.in_ok-base.base c.args.len c.args.owner c.args.obj c.args.kind taken.first.free taken.takes row.vacant row.added fresh)

pub returns-in-Err-clause-copies : goal.returns-in-Err-clause-copies
returns-in-Err-clause-copies c =
    let taken = c.in_ok-base.ensures in
    let same = c.in-Err.ensures in
    subst (λ (h : Layout). KeepsCopies h (seen_of (with_both c.self.inside c.release_places.new.region c.add_row.new.self))) c.self.view_is
    (subst (λ (table : Rows). KeepsCopies (seen_of c.self.inside) (seen_of (with_both c.self.inside c.release_places.new.region table))) (sym same.err)
    (given_up_copies c.self.inside c.take_places.new.region c.release_places.new.region c.self.invariant c.in_ok-base.base c.args.len taken.first.free taken.takes c.release_places.ensures.releases))

pub returns-in-Err-clause-err_objects : goal.returns-in-Err-clause-err_objects
returns-in-Err-clause-err_objects c =
    let taken = c.in_ok-base.ensures in
    let same = c.in-Err.ensures in
    subst (λ (h : Layout). KeepsObjects h (seen_of (with_both c.self.inside c.release_places.new.region c.add_row.new.self))) c.self.view_is
    (subst (λ (table : Rows). KeepsObjects (seen_of c.self.inside) (seen_of (with_both c.self.inside c.release_places.new.region table))) (sym same.err)
    (given_up_objects c.self.inside c.take_places.new.region c.release_places.new.region c.self.invariant c.in_ok-base.base c.args.len taken.first.free taken.takes c.release_places.ensures.releases))
