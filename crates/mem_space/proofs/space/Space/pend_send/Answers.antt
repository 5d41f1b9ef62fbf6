use Rattle.std.proofs.Common.{false, subst, sym}
use Rattle.block_table.specs.Rows.{with_send}
use Rattle.memory_model.specs.Marks.{barred_to_loads}
use Rattle.object_heap.specs.Marks.{marks_in}
use Rattle.mem_space.specs.Spaces.{Space}
use Rattle.mem_space.specs.Places.{CanCount, Pends}
use Rattle.mem_space.specs.Ranges.{IsRange}
use Rattle.mem_space.specs.Kept.{seen_of}
use Rattle.mem_space.proofs.Marked.{may_count, pends, newly_sent}
use Rattle.mem_space.proofs.space.Space.pend_send.Goals as goal

pub mark_send-requires-clause-may : goal.mark_send-requires-clause-may
mark_send-requires-clause-may c =
    let r = subst (λ (s : Space). IsRange s c.args.task c.args.at c.args.count false c.in_ok-span.span) (sym c.self.view_is) c.in_ok-span.ensures.ok in
    may_count (seen_of c.self.inside) c.args.task c.args.at c.args.count c.in_ok-span.span r (subst (λ (s : Space). CanCount s c.args.task c.args.at c.args.count) (sym c.self.view_is) c.requires.few)

pub returns-clause-ok : goal.returns-clause-ok
returns-clause-ok c =
    let r = subst (λ (s : Space). IsRange s c.args.task c.args.at c.args.count false c.in_ok-span.span) (sym c.self.view_is) c.in_ok-span.ensures.ok in
    let after : Space = record (seen_of c.self.inside) { heap = c.mark_send.new.self } in
    subst (λ (s : Space). Pends s after c.args.task c.args.at c.args.count (barred_to_loads (marks_in s.heap)) with_send c.in_ok-span.span) c.self.view_is
    (pends (seen_of c.self.inside) c.mark_send.new.self c.args.task c.args.at c.args.count false with_send c.in_ok-span.span r c.requires.some
    c.mark_send.ensures.marks c.mark_send.ensures.objects c.mark_send.ensures.spans c.mark_send.ensures.copies)

pub returns-clause-marked : goal.returns-clause-marked
returns-clause-marked c =
    let r = subst (λ (s : Space). IsRange s c.args.task c.args.at c.args.count false c.in_ok-span.span) (sym c.self.view_is) c.in_ok-span.ensures.ok in
    newly_sent (seen_of c.self.inside) c.mark_send.new.self c.args.task c.args.at c.args.count c.in_ok-span.span r c.mark_send.ensures.marks c.mark_send.ensures.spans
