use Rattle.std.proofs.Common.{◌≤◌, length, subst, sym, arith}
use Rattle.block_table.specs.Rows.{is_send, is_receive}
use Rattle.object_heap.specs.Objects.{span_words}
use Rattle.mem_space.specs.Spaces.{Space}
use Rattle.mem_space.specs.Places.{IsMarked, SendsOver}
use Rattle.mem_space.specs.Kept.{seen_of}
use Rattle.mem_space.proofs.Marked.{rows_marked}
use Rattle.mem_space.proofs.Copied.{length_there, written_sizes, sent_over}
use Rattle.mem_space.proofs.Counts.{counted_same}
use Rattle.mem_space.proofs.space.Space.send_over.Goals as goal

pub send_over-requires-clause-sent : goal.send_over-requires-clause-sent
send_over-requires-clause-sent c =
    rows_marked (seen_of c.self.inside) c.args.from is_send c.is_sound.ensures (subst (λ (s : Space). IsMarked s c.args.from is_send) (sym c.self.view_is) c.requires.source)

pub send_over-requires-clause-received : goal.send_over-requires-clause-received
send_over-requires-clause-received c =
    rows_marked (seen_of c.self.inside) c.args.to is_receive c.is_sound.ensures (subst (λ (s : Space). IsMarked s c.args.to is_receive) (sym c.self.view_is) c.requires.target)

pub invariant_of-self : goal.invariant_of-self
invariant_of-self c =
    let source = subst (λ (s : Space). IsMarked s c.args.from is_send) (sym c.self.view_is) c.requires.source in
    let target = subst (λ (s : Space). IsMarked s c.args.to is_receive) (sym c.self.view_is) c.requires.target in
    let long = length_there (seen_of c.self.inside) c.args.from source.places c.is_sound.ensures source.there in
    let fits : length (span_words c.self.inside.heap c.args.from) ≤ c.args.to.len = omega (arith, c.requires.fits) in
    record {
      variables = c.self.invariant.variables;
      counted = counted_same c.self.inside.heap c.send_over.new.self
          (written_sizes (seen_of c.self.inside) c.send_over.new.self c.args.to target.places (span_words c.self.inside.heap c.args.from) c.is_sound.ensures target.there fits c.send_over.ensures.edits)
          c.self.inside.quota (length c.self.inside.levels.cores) c.self.inside.made.items c.self.inside.used.items c.self.invariant.counted;
    }

pub returns : goal.returns
returns c =
    let after : Space = record (seen_of c.self.inside) { heap = c.send_over.new.self } in
    subst (λ (s : Space). SendsOver s after c.args.from c.args.to) c.self.view_is
    (sent_over (seen_of c.self.inside) c.send_over.new.self c.args.from c.args.to c.is_sound.ensures c.requires.fits c.send_over.ensures.edits c.send_over.ensures.marks c.send_over.ensures.spans c.send_over.ensures.copies)
