use Rattle.std.proofs.Common.{true, subst, sym}
use Rattle.block_table.specs.Rows.{with_receive}
use Rattle.memory_model.specs.Marks.{barred_to_stores}
use Rattle.object_heap.specs.Marks.{marks_in}
use Rattle.mem_space.specs.Spaces.{Space}
use Rattle.mem_space.specs.Places.{Pends}
use Rattle.mem_space.specs.Ranges.{IsRange}
use Rattle.mem_space.specs.Kept.{seen_of}
use Rattle.mem_space.proofs.Marked.{all_free, pends, newly_received}
use Rattle.mem_space.proofs.space.Space.pend_recv.Goals as goal

pub mark_recv-requires-clause-may : goal.mark_recv-requires-clause-may
mark_recv-requires-clause-may c =
    let r = subst (λ (s : Space). IsRange s c.args.task c.args.at c.args.count true c.in_ok-span.span) (sym c.self.view_is) c.in_ok-span.ensures.ok in
    all_free (seen_of c.self.inside) c.args.task c.args.at c.args.count c.in_ok-span.span r

pub returns-clause-ok : goal.returns-clause-ok
returns-clause-ok c =
    let r = subst (λ (s : Space). IsRange s c.args.task c.args.at c.args.count true c.in_ok-span.span) (sym c.self.view_is) c.in_ok-span.ensures.ok in
    let after : Space = record (seen_of c.self.inside) { heap = c.mark_recv.new.self } in
    subst (λ (s : Space). Pends s after c.args.task c.args.at c.args.count (barred_to_stores (marks_in s.heap)) with_receive c.in_ok-span.span) c.self.view_is
    (pends (seen_of c.self.inside) c.mark_recv.new.self c.args.task c.args.at c.args.count true with_receive c.in_ok-span.span r c.requires.some
    c.mark_recv.ensures.marks c.mark_recv.ensures.objects c.mark_recv.ensures.spans c.mark_recv.ensures.copies)

pub returns-clause-marked : goal.returns-clause-marked
returns-clause-marked c =
    let r = subst (λ (s : Space). IsRange s c.args.task c.args.at c.args.count true c.in_ok-span.span) (sym c.self.view_is) c.in_ok-span.ensures.ok in
    newly_received (seen_of c.self.inside) c.mark_recv.new.self c.args.task c.args.at c.args.count c.in_ok-span.span r c.mark_recv.ensures.marks c.mark_recv.ensures.spans
