use Rattle.std.proofs.Common.{◌≡◌, ◌-◌, map, ◌∷◌, []}
use Rattle.c_tree.specs.SyntaxOf.{declarator_of}
use Rattle.c_parse.specs.Declarations.{declarator}
use Rattle.c_parse.specs.Reading.{repeat, repeat_from, no_comma, one_more}
use Rattle.c_parse.proofs.declarations.declarators.Given as goal

abbrev pub invariant-loop-turn : goal.invariant-loop-turn
invariant-loop-turn l = repeat no_comma (one_more (declarator l.depth l.base)) (declarator_of l.fn.first ∷ []) l.fn.cursor ≡ repeat_from no_comma (one_more (declarator l.depth l.base)) (l._turn-end - l._turn) (map declarator_of l.found.items) l.cursor
