use Rattle.std.proofs.Common.{◌≡◌, ◌-◌, map}
use Rattle.c_tree.specs.SyntaxOf.{stmt_of}
use Rattle.c_parse.specs.declared.symbols.Mark.TheVariants.{CloseBrace}
use Rattle.c_parse.specs.Reading.{sees, repeat_from}
use Rattle.c_parse.specs.Statements.{inside, items, one_more_item}
use Rattle.c_parse.proofs.bodies.Statements.items.Given as goal

abbrev pub invariant-loop-turn : goal.invariant-loop-turn
invariant-loop-turn g l =
    items (inside l.self.depth) l.fn.cursor
    ≡ repeat_from (sees CloseBrace) (one_more_item (inside l.self.depth)) (l._turn-end - l._turn) (map stmt_of l.found.items) l.cursor
