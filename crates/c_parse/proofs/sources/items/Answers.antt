use Rattle.std.proofs.Common.{◌∙◌, sym}
use Rattle.c_parse.specs.Sources.{is_over, one_more_item}
use Rattle.c_parse.proofs.Turns.{turn_steps, turn_stops, turns_over}
use Rattle.c_parse.proofs.sources.items.Goals as goal

pub loop-turn-preserved : goal.loop-turn-preserved
loop-turn-preserved c = turn_steps is_over one_more_item _ _ _ _ _ _ _ c.loop-turn.invariant c.loop-turn-test.true (sym c.is_over.ensures ∙ c.if-is_over.false) c.in_ok-found.ensures

pub returns-then-is_over : goal.returns-then-is_over
returns-then-is_over c = turn_stops is_over one_more_item _ _ _ _ c.loop-turn.invariant (sym c.is_over.ensures ∙ c.if-is_over.true)

pub returns : goal.returns
returns c = turns_over is_over one_more_item _ _ _ _ _ c.loop-turn.invariant c.loop-turn-test.false
