use Rattle.c_types.proofs.DraftSteps.{took_int, took_percent}
use Rattle.c_types.proofs.formats.take_conversion.Goals as goal

pub returns-then-byte-eq100 : goal.returns-then-byte-eq100
returns-then-byte-eq100 c = took_int c.args.draft.now c.put_number.new.self _ c.if-byte-eq100.true c.in_ok-put_number.ensures

pub returns-then-byte-eq37 : goal.returns-then-byte-eq37
returns-then-byte-eq37 c = took_percent c.args.draft.now c.put_byte.new.self _ c.if-byte-eq37.true c.in_ok-put_byte.ensures
