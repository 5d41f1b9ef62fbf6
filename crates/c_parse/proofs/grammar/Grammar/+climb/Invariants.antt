use Rattle.std.proofs.Common.{◌≡◌, ◌+◌, ◌-◌, ◌*◌}
use Rattle.c_tree.specs.SyntaxOf.{expr_of}
use Rattle.c_parse.specs.Reading.{repeat_from}
use Rattle.c_parse.specs.Expressions.{nest, climb, ends, operation}
use Rattle.c_parse.proofs.grammar.Grammar.+climb.Given as goal

abbrev pub decreases-climb : goal.decreases-climb
decreases-climb g l = 2 * l.levels

abbrev pub decreases-operation : goal.decreases-operation
decreases-operation g l = 2 * l.level + 1

abbrev pub invariant-climb-loop-turn : goal.invariant-climb-loop-turn
invariant-climb-loop-turn g l =
    climb (nest l.self.depth) l.levels l.at (expr_of l.fn.first) l.fn.cursor
    ≡ repeat_from (ends (nest l.self.depth) (l.levels - 1)) (operation (nest l.self.depth) (l.levels - 1) (climb (nest l.self.depth) (l.levels - 1)) l.at) (l._turn-end - l._turn) (expr_of l.whole) l.cursor
