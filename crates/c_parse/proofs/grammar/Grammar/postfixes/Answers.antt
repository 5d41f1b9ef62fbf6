use Rattle.std.proofs.Common.{◌∙◌, sym}
use Rattle.c_parse.specs.Expressions.{nest, stops, postfix}
use Rattle.c_parse.proofs.Turns.{turn_steps}
use Rattle.c_parse.proofs.grammar.Grammar.postfixes.Goals as goal

pub loop-turn-preserved : goal.loop-turn-preserved
loop-turn-preserved g c =
    let n = nest c.args.self.now.depth in
    turn_steps (stops n) (postfix n c.args.at) _ _ _ _ _ _ _ c.loop-turn.invariant c.loop-turn-test.true (sym c.stops.ensures ∙ c.if-stops.false) c.in_ok-whole.ensures
