use Rattle.std.proofs.Common.{◌-◌, ◌∙◌, sym, arith, rules}
use Rattle.c_tree.specs.SyntaxOf.{expr_of}
use Rattle.c_parse.specs.Expressions.{nest, climb, ends, operation}
use Rattle.c_parse.proofs.Depths.{climb_more, climb_none}
use Rattle.c_parse.proofs.Turns.{turn_steps}
use Rattle.c_parse.proofs.grammar.Grammar.+climb.Goals as goal

pub climb-returns-in_err-whole : goal.climb-returns-in_err-whole
climb-returns-in_err-whole g t c = rw (climb_more (nest c.args.self.now.depth) c.args.levels c.args.at (expr_of c.args.first) c.args.cursor.now (omega arith)) (search rules)

pub climb-loop-turn-preserved : goal.climb-loop-turn-preserved
climb-loop-turn-preserved g t c =
    let n = nest c.args.self.now.depth in
    turn_steps (ends n (c.args.levels - 1)) (operation n (c.args.levels - 1) (climb n (c.args.levels - 1)) c.args.at) _ _ _ _ _ _ _ c.loop-turn.invariant c.loop-turn-test.true (sym c.ends.ensures ∙ c.if-ends.false) c.in_ok-whole-2.ensures

pub climb-returns-then-levels-eq0 : goal.climb-returns-then-levels-eq0
climb-returns-then-levels-eq0 g t c = climb_none (nest c.args.self.now.depth) c.args.levels c.args.at (expr_of c.args.first) c.args.cursor.now (omega arith)

pub climb-loop-turn-init : goal.climb-loop-turn-init
climb-loop-turn-init g t c = rw (climb_more (nest c.args.self.now.depth) c.args.levels c.args.at (expr_of c.args.first) c.args.cursor.now (omega arith)) (search rules)
