use Rattle.std.proofs.Common.{◌≡◌, ◌-◌, map}
use Rattle.c_tree.specs.SyntaxOf.{expr_of}
use Rattle.c_parse.specs.declared.grammar.Part.TheVariants as part
use Rattle.c_parse.specs.Expressions.{expression}
use Rattle.c_parse.specs.Reading.{separated, repeat_from, no_comma, one_more}
use Rattle.c_parse.proofs.declarations.listed.Given as goal

abbrev pub invariant-loop-turn : goal.invariant-loop-turn
invariant-loop-turn l = separated (expression l.depth part.Assign) l.fn.cursor ≡ repeat_from no_comma (one_more (expression l.depth part.Assign)) (l._turn-end - l._turn) (map expr_of l.found.items) l.cursor
