use Rattle.std.proofs.Common.{◌≡◌, ◌-◌, map}
use Rattle.c_tree.specs.SyntaxOf.{item_of}
use Rattle.c_parse.specs.Reading.{repeat_from}
use Rattle.c_parse.specs.Sources.{items, is_over, one_more_item}
use Rattle.c_parse.proofs.sources.items.Given as goal

abbrev pub invariant-loop-turn : goal.invariant-loop-turn
invariant-loop-turn l = items l.fn.cursor ≡ repeat_from is_over one_more_item (l._turn-end - l._turn) (map item_of l.found.items) l.cursor
