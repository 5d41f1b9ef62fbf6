use Rattle.std.proofs.Common.{Bool, if◌then◌else◌, subst, sym}
use Rattle.memory_model.specs.declared.kinds.Span.{Span}
use Rattle.block_table.specs.Rows.{is_send, is_receive, without_send, without_receive}
use Rattle.mem_space.specs.Spaces.{Space}
use Rattle.mem_space.specs.Places.{IsPlaces, IsMarked, Remarks}
use Rattle.mem_space.specs.Kept.{seen_of}
use Rattle.mem_space.proofs.Marked.{rows_marked, remarks}
use Rattle.mem_space.proofs.space.Space.unpend.Goals as goal

pub unmark_send-requires-clause-marked : goal.unmark_send-requires-clause-marked
unmark_send-requires-clause-marked c =
    rows_marked (seen_of c.self.inside) c.args.span is_send c.is_sound.ensures
    (subst (λ (b : Bool). IsMarked (seen_of c.self.inside) c.args.span (if b then is_send else is_receive)) c.if-send.true
    (subst (λ (s : Space). IsMarked s c.args.span (if c.args.send then is_send else is_receive)) (sym c.self.view_is) c.requires))

pub unmark_recv-requires-clause-marked : goal.unmark_recv-requires-clause-marked
unmark_recv-requires-clause-marked c =
    rows_marked (seen_of c.self.inside) c.args.span is_receive c.is_sound.ensures
    (subst (λ (b : Bool). IsMarked (seen_of c.self.inside) c.args.span (if b then is_send else is_receive)) c.if-send.false
    (subst (λ (s : Space). IsMarked s c.args.span (if c.args.send then is_send else is_receive)) (sym c.self.view_is) c.requires))

pub returns-then-send : goal.returns-then-send
returns-then-send c =
    let after : Space = record (seen_of c.self.inside) { heap = c.unmark_send.new.self } in
    subst (λ (b : Bool). (places : Span) → IsPlaces c.args.self.now c.args.span places → Remarks c.args.self.now after places (if b then without_send else without_receive)) (sym c.if-send.true)
    (subst (λ (s : Space). (places : Span) → IsPlaces s c.args.span places → Remarks s after places without_send) c.self.view_is
    (λ places is. remarks (seen_of c.self.inside) c.unmark_send.new.self c.args.span places without_send is c.unmark_send.ensures.marks c.unmark_send.ensures.objects c.unmark_send.ensures.spans c.unmark_send.ensures.copies))

pub returns-else-send : goal.returns-else-send
returns-else-send c =
    let after : Space = record (seen_of c.self.inside) { heap = c.unmark_recv.new.self } in
    subst (λ (b : Bool). (places : Span) → IsPlaces c.args.self.now c.args.span places → Remarks c.args.self.now after places (if b then without_send else without_receive)) (sym c.if-send.false)
    (subst (λ (s : Space). (places : Span) → IsPlaces s c.args.span places → Remarks s after places without_receive) c.self.view_is
    (λ places is. remarks (seen_of c.self.inside) c.unmark_recv.new.self c.args.span places without_receive is c.unmark_recv.ensures.marks c.unmark_recv.ensures.objects c.unmark_recv.ensures.spans c.unmark_recv.ensures.copies))
