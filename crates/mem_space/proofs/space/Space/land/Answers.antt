use Rattle.std.proofs.Common.{◌≤◌, length, subst, sym, arith}
use Rattle.block_table.specs.Rows.{is_receive}
use Rattle.object_heap.specs.Copies.{copy_words}
use Rattle.object_heap.proofs.Words.{length_words}
use Rattle.mem_space.specs.Spaces.{Space}
use Rattle.mem_space.specs.Places.{IsMarked}
use Rattle.mem_space.specs.Copies.{Lands}
use Rattle.mem_space.specs.Kept.{seen_of}
use Rattle.mem_space.proofs.Copied.{written_sizes, landed}
use Rattle.mem_space.proofs.Counts.{counted_same}
use Rattle.mem_space.proofs.space.Space.land.Goals as goal

pub invariant_of-self : goal.invariant_of-self
invariant_of-self c =
    let target = subst (λ (s : Space). IsMarked s c.args.to is_receive) (sym c.self.view_is) c.requires.target in
    let long = length_words c.self.inside.heap.cells c.args.held.base c.args.held.len in
    let fits : length (copy_words c.self.inside.heap c.args.held) ≤ c.args.to.len = omega (arith, c.requires.fits) in
    record {
      variables = c.self.invariant.variables;
      counted = counted_same c.self.inside.heap c.land.new.self
          (written_sizes (seen_of c.self.inside) c.land.new.self c.args.to target.places (copy_words c.self.inside.heap c.args.held) c.is_sound.ensures target.there fits c.land.ensures.edits)
          c.self.inside.quota (length c.self.inside.levels.cores) c.self.inside.made.items c.self.inside.used.items c.self.invariant.counted;
    }

pub returns : goal.returns
returns c =
    let after : Space = record (seen_of c.self.inside) { heap = c.land.new.self } in
    subst (λ (s : Space). Lands s after c.args.held c.args.to) c.self.view_is
    (landed (seen_of c.self.inside) c.land.new.self c.args.held c.args.to c.is_sound.ensures c.requires.fits c.land.ensures.edits c.land.ensures.loses c.land.ensures.marks c.land.ensures.spans)
