use Rattle.c_types.proofs.DraftSteps.{took_byte, took_long}
use Rattle.c_types.proofs.formats.take.Goals as goal

pub returns-in_ok-put_byte-in-Outside : goal.returns-in_ok-put_byte-in-Outside
returns-in_ok-put_byte-in-Outside c =
    took_byte c.args.draft.now c.put_byte.new.self _ _ c.in-Outside.is c.if-byte-eq37.false c.in_ok-put_byte-in-Outside.ensures

pub returns-in_ok-put_number-in-PercentL : goal.returns-in_ok-put_number-in-PercentL
returns-in_ok-put_number-in-PercentL c =
    took_long c.args.draft.now c.put_number.new.self _ _ c.in-PercentL.is c.if-byte-ne100.false c.in_ok-put_number-in-PercentL.ensures
