use Rattle.std.proofs.Common.{◌∙◌, sym}
use Rattle.c_parse.specs.declared.symbols.Mark.TheVariants.{CloseBrace}
use Rattle.c_parse.specs.Reading.{sees}
use Rattle.c_parse.specs.Statements.{inside, one_more_item}
use Rattle.c_parse.proofs.Turns.{turn_steps, turn_stops, turns_over}
use Rattle.c_parse.proofs.bodies.Statements.items.Goals as goal

pub loop-turn-preserved : goal.loop-turn-preserved
loop-turn-preserved g c =
    turn_steps (sees CloseBrace) (one_more_item (inside c.args.self.now.depth)) _ _ _ _ _ _ _ c.loop-turn.invariant c.loop-turn-test.true (sym c.sees.ensures ∙ c.if-sees.false) c.in_ok-found.ensures

pub returns-then-sees : goal.returns-then-sees
returns-then-sees g c = turn_stops (sees CloseBrace) (one_more_item (inside c.args.self.now.depth)) _ _ _ _ c.loop-turn.invariant (sym c.sees.ensures ∙ c.if-sees.true)

pub returns : goal.returns
returns g c = turns_over (sees CloseBrace) (one_more_item (inside c.args.self.now.depth)) _ _ _ _ _ c.loop-turn.invariant c.loop-turn-test.false
