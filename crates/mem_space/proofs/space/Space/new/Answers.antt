use Rattle.std.proofs.Common.{◌≡◌, [], length, replicate, sym, ap, ◌∙◌}
use Rattle.tls_levels.specs.Sharing.{Sharing}
use Rattle.object_heap.specs.Layout.{Layout}
use Rattle.mem_space.proofs.Images.{first_counted, no_copies}
use Rattle.mem_space.proofs.space.Space.new.Goals as goal

pub invariant_of-result : goal.invariant_of-result
invariant_of-result c =
    let cores : length c.args.cores.now ≡ length c.in_ok-levels.levels.cores = sym (ap (λ (s : Sharing). length s.cores) c.in_ok-levels.ensures.value) in
    record {
      variables = sym c.in_ok-levels.ensures.vars;
      counted = first_counted c.args.globals.now c.owners.result.now c.add_images.new.heap c.args.quota (length c.in_ok-levels.levels.cores) c.in_ok-made.made.items c.in_ok-used.used.items
          c.in_ok-add_images.ensures.first (c.in_ok-made.ensures.items_if_clones_equal (λ y is. is) ∙ ap (λ n. replicate n 0) cores) (c.in_ok-used.ensures.items_if_clones_equal (λ y is. is) ∙ ap (λ n. replicate n 0) cores);
    }

pub returns-clause-copies : goal.returns-clause-copies
returns-clause-copies c = c.add_images.ensures.copies.kept [] (no_copies c.new-heap.result (ap (λ (h : Layout). h.copies) c.new-heap.ensures.layout))
