use Rattle.std.proofs.Common.{◌≡◌, ◌-◌}
use Rattle.c_tree.specs.SyntaxOf.{expr_of}
use Rattle.c_parse.specs.Reading.{repeat_from}
use Rattle.c_parse.specs.Expressions.{nest, postfixes, stops, postfix}
use Rattle.c_parse.proofs.grammar.Grammar.postfixes.Given as goal

abbrev pub invariant-loop-turn : goal.invariant-loop-turn
invariant-loop-turn g l =
    postfixes (nest l.self.depth) l.at (expr_of l.fn.operand) l.fn.cursor
    ≡ repeat_from (stops (nest l.self.depth)) (postfix (nest l.self.depth) l.at) (l._turn-end - l._turn) (expr_of l.whole) l.cursor
