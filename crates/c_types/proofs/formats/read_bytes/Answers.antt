use Rattle.c_types.proofs.DraftSteps.{begun_new, took_none, took_next}
use Rattle.c_types.proofs.formats.read_bytes.Goals as goal

pub loop-byte-init : goal.loop-byte-init
loop-byte-init c = begun_new c.new-draft.result c.new-draft.ensures _

pub returns-in-None : goal.returns-in-None
returns-in-None c =
    took_none c.args.bytes.now c.loop-byte.byte-index c.loop-byte.draft c.take.new.draft c.loop-byte.begun _ _ c.loop-byte-test.true c.in-None.is c.in_ok-next.ensures c.loop-byte.invariant

pub loop-byte-preserved : goal.loop-byte-preserved
loop-byte-preserved c =
    took_next c.args.bytes.now c.loop-byte.byte-index c.loop-byte.draft c.take.new.draft c.loop-byte.begun c.in-Some.next _ _ c.loop-byte-test.true c.in-Some.is c.in_ok-next.ensures c.loop-byte.invariant
