use Rattle.std.proofs.Common.{◌≡◌, ◌+◌, true, length, Some, None, is_some, refl, sym, subst, ap, ◌∙◌, arith}
use Rattle.std.proofs.lemmas.Bool.{false≢true}
use Rattle.std.proofs.lemmas.Option.{slice_get_read}
use Rattle.mpc_values.specs.declared.values.Obj.TheVariants.{Glob}
use Rattle.tls_levels.specs.Owners.{owner_level}
use Rattle.object_heap.specs.Layout.{Layout}
use Rattle.object_heap.specs.Objects.{object_in}
use Rattle.object_heap.specs.Marks.{KeepsMarks}
use Rattle.object_heap.specs.Copies.{KeepsCopies}
use Rattle.object_heap.specs.Changes.{Puts}
use Rattle.mem_space.specs.First.{first_object}
use Rattle.mem_space.proofs.Images.{HasSome, some_end, some_skip, variable_added, marks_then, copies_then}
use Rattle.mem_space.proofs.first.add_image.Goals as goal
use Rattle.mem_space.proofs.first.add_image.Goals.{then-is_in_image+in_ok-add_variable, else-is_in_image}

pub loop-var-preserved : goal.loop-var-preserved
loop-var-preserved c = elim c.if-is_in_image.branch [
  | then-is_in_image+in_ok-add_variable w ↦
      let i = c.loop-var.invariant in
      let here = slice_get_read c.args.globals.now (length c.args.globals.now) c.loop-var.var-index c.var-item.result refl c.loop-var-test.true c.var-item.is in
      let at : c.var-item.result.level ≡ owner_level c.args.owner = c.is_in_image.ensures.0 w.if-is_in_image.true in
      let absent = subst (λ n. object_in c.loop-var.heap c.args.owner (Glob n) ≡ None → Puts c.loop-var.heap w.add_variable.new.heap c.args.owner (Glob n) (Some (first_object c.var-item.result))) i.number w.in_ok-add_variable.ensures.absent in
      let present = subst (λ n. is_some (object_in c.loop-var.heap c.args.owner (Glob n)) ≡ true → w.add_variable.new.heap ≡ c.loop-var.heap) i.number w.in_ok-add_variable.ensures.present in
      record {
        number = ap (λ n. n + 1) i.number;
        has = λ before has. subst (λ (h : Layout). HasSome c.args.globals.now before c.args.owner (c.loop-var.var-index + 1) h) (sym w.heap-is)
            (variable_added c.args.globals.now before c.args.owner c.loop-var.var-index c.var-item.result c.loop-var.heap w.add_variable.new.heap here at absent present (i.has before has));
        marks = subst (λ (h : Layout). KeepsMarks c.args.heap.now h) (sym w.heap-is) (marks_then c.args.heap.now c.loop-var.heap w.add_variable.new.heap i.marks w.add_variable.ensures.marks);
        copies = subst (λ (h : Layout). KeepsCopies c.args.heap.now h) (sym w.heap-is) (copies_then c.args.heap.now c.loop-var.heap w.add_variable.new.heap i.copies w.add_variable.ensures.copies);
      }
  | else-is_in_image w ↦
      let i = c.loop-var.invariant in
      let here = slice_get_read c.args.globals.now (length c.args.globals.now) c.loop-var.var-index c.var-item.result refl c.loop-var-test.true c.var-item.is in
      record {
        number = ap (λ n. n + 1) i.number;
        has = λ before has. subst (λ (h : Layout). HasSome c.args.globals.now before c.args.owner (c.loop-var.var-index + 1) h) (sym w.heap-is)
            (some_skip c.args.globals.now before c.args.owner c.loop-var.var-index c.var-item.result c.loop-var.heap here (λ same. false≢true (sym w.if-is_in_image.false ∙ c.is_in_image.ensures.1 same)) (i.has before has));
        marks = subst (λ (h : Layout). KeepsMarks c.args.heap.now h) (sym w.heap-is) i.marks;
        copies = subst (λ (h : Layout). KeepsCopies c.args.heap.now h) (sym w.heap-is) i.copies;
      }
]

pub returns-clause-first : goal.returns-clause-first
returns-clause-first c = λ before has.
    let end : c.loop-var.var-index ≡ length c.args.globals.now = omega (arith, c.loop-var-test.false) in
    some_end c.args.globals.now before c.args.owner c.loop-var.heap (subst (λ n. HasSome c.args.globals.now before c.args.owner n c.loop-var.heap) end (c.loop-var.invariant.has before has))
