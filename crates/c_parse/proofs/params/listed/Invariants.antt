use Rattle.std.proofs.Common.{◌≡◌, ◌-◌}
use Rattle.c_parse.specs.Declarations.{param}
use Rattle.c_parse.specs.Reading.{separated, repeat_from, no_comma, one_more}
use Rattle.c_parse.proofs.params.listed.Given as goal

abbrev pub invariant-loop-turn : goal.invariant-loop-turn
invariant-loop-turn l = separated param l.fn.cursor ≡ repeat_from no_comma (one_more (param)) (l._turn-end - l._turn) l.found.items l.cursor
