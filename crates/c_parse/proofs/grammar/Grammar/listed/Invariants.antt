use Rattle.std.proofs.Common.{◌≡◌, ◌-◌, map}
use Rattle.c_tree.specs.SyntaxOf.{expr_of}
use Rattle.c_parse.specs.declared.grammar.Part.TheVariants as part
use Rattle.c_parse.specs.Reading.{separated, repeat_from, no_comma, one_more}
use Rattle.c_parse.specs.Expressions.{nest}
use Rattle.c_parse.proofs.grammar.Grammar.listed.Given as goal

abbrev pub invariant-loop-turn : goal.invariant-loop-turn
invariant-loop-turn g l =
    separated ((nest l.self.depth).below part.Assign) l.fn.cursor
    ≡ repeat_from no_comma (one_more ((nest l.self.depth).below part.Assign)) (l._turn-end - l._turn) (map expr_of l.found.items) l.cursor
