use Rattle.std.proofs.Common.{◌≡◌, ◌&&◌, drop}
use Rattle.c_types.specs.Units as units
use Rattle.c_types.proofs.directives.with_level.Given as goal

abbrev pub invariant-loop-name : goal.invariant-loop-name
invariant-loop-name l =
    (units.with_level l.level l.names (drop l.name-index l.all) ≡ units.with_level l.level l.initial.names l.all)
    × ((l.may && units.may_level l.level l.names (drop l.name-index l.all)) ≡ units.may_level l.level l.initial.names l.all)
