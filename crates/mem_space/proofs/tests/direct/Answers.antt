use Rattle.std.proofs.Common.{◌≡◌, true, length, refl, sym, ap, ◌∙◌}
use Rattle.std.proofs.lemmas.Bool.{false≢true}
use Rattle.tls_levels.specs.Sharing.{Sharing}
use Rattle.block_table.specs.declared.rows.Mark.{Mark}
use Rattle.block_table.specs.declared.rows.Mark.TheVariants.{Free, Sends, Receive}
use Rattle.block_table.specs.Rows.{is_send, is_receive, with_send, without_send}
use Rattle.mem_space.proofs.Staying.{marked_kept, marked_others}
use Rattle.mem_space.proofs.tests.direct.Goals as goal

-- no send takes a receive's mark
with_stays : (mark : Mark) → is_receive mark ≡ true → is_receive (with_send mark) ≡ true
with_stays Free is = absurd (false≢true is)
with_stays (Sends n) is = absurd (false≢true is)
with_stays Receive is = refl

without_stays : (mark : Mark) → is_receive mark ≡ true → is_receive (without_send mark) ≡ true
without_stays Free is = absurd (false≢true is)
without_stays (Sends n) is = absurd (false≢true is)
without_stays Receive is = refl

pub send_over-requires-clause-target : goal.send_over-requires-clause-target
send_over-requires-clause-target c =
    marked_others c.pend_recv.new.self c.pend_send.new.self c.in-Ok.target c.in-Ok-pend_send.ensures.ok.places is_receive with_send refl with_stays c.in-Ok-pend_send.ensures.ok.marks c.in-Ok.ensures.marked

pub unpend-requires : goal.unpend-requires
unpend-requires c = marked_kept c.pend_send.new.self c.send_over.new.self c.in-Ok-pend_send.source is_send refl c.send_over.ensures.rest c.send_over.ensures.marks c.in-Ok-pend_send.ensures.marked

pub unpend-requires-2 : goal.unpend-requires-2
unpend-requires-2 c =
    let source = marked_kept c.pend_send.new.self c.send_over.new.self c.in-Ok-pend_send.source is_send refl c.send_over.ensures.rest c.send_over.ensures.marks c.in-Ok-pend_send.ensures.marked in
    let marked = marked_others c.pend_recv.new.self c.pend_send.new.self c.in-Ok.target c.in-Ok-pend_send.ensures.ok.places is_receive with_send refl with_stays c.in-Ok-pend_send.ensures.ok.marks c.in-Ok.ensures.marked in
    marked_others c.send_over.new.self c.unpend.new.self c.in-Ok.target source.places is_receive without_send refl without_stays (c.unpend.ensures source.places source.there)
    (marked_kept c.pend_send.new.self c.send_over.new.self c.in-Ok.target is_receive refl c.send_over.ensures.rest c.send_over.ensures.marks marked)

pub returns : goal.returns
returns c =
    let source = marked_kept c.pend_send.new.self c.send_over.new.self c.in-Ok-pend_send.source is_send refl c.send_over.ensures.rest c.send_over.ensures.marks c.in-Ok-pend_send.ensures.marked in
    let marked = marked_others c.pend_recv.new.self c.pend_send.new.self c.in-Ok.target c.in-Ok-pend_send.ensures.ok.places is_receive with_send refl with_stays c.in-Ok-pend_send.ensures.ok.marks c.in-Ok.ensures.marked in
    let ended = c.unpend.ensures source.places source.there in
    let target = marked_others c.send_over.new.self c.unpend.new.self c.in-Ok.target source.places is_receive without_send refl without_stays ended
    (marked_kept c.pend_send.new.self c.send_over.new.self c.in-Ok.target is_receive refl c.send_over.ensures.rest c.send_over.ensures.marks marked) in
    record {
      two = ap (λ (s : Sharing). length s.cores) ((c.unpend-2.ensures target.places target.there).rest.sharing ∙ (ended.rest.sharing ∙ (c.send_over.ensures.rest.sharing ∙ (c.in-Ok-pend_send.ensures.ok.marks.rest.sharing ∙ c.in-Ok.ensures.ok.marks.rest.sharing)))) ∙ c.requires.two;
    }
