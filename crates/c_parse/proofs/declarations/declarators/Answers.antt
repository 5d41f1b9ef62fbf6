use Rattle.std.proofs.Common.{◌∙◌, sym, ap, not}
use Rattle.c_parse.specs.Declarations.{declarator}
use Rattle.c_parse.specs.Reading.{no_comma, one_more}
use Rattle.c_parse.proofs.Turns.{turn_steps, turn_stops, turns_over}
use Rattle.c_parse.proofs.declarations.declarators.Goals as goal

pub loop-turn-preserved : goal.loop-turn-preserved
loop-turn-preserved c =
    turn_steps no_comma (one_more (declarator c.args.depth c.args.base)) _ _ _ _ _ _ _ c.loop-turn.invariant c.loop-turn-test.true (ap not (sym c.sees.ensures ∙ c.if-not-sees.false)) c.in_ok-found.ensures

pub returns-then-not-sees : goal.returns-then-not-sees
returns-then-not-sees c = turn_stops no_comma (one_more (declarator c.args.depth c.args.base)) _ _ _ _ c.loop-turn.invariant (ap not (sym c.sees.ensures ∙ c.if-not-sees.true))

pub returns : goal.returns
returns c = turns_over no_comma (one_more (declarator c.args.depth c.args.base)) _ _ _ _ _ c.loop-turn.invariant c.loop-turn-test.false
