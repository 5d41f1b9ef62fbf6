use Rattle.std.proofs.Common.{◌≡◌, drop}
use Rattle.c_types.specs.Statements as statements
use Rattle.c_types.proofs.sharing.levels_from.Given as goal

abbrev pub invariant-loop-name : goal.invariant-loop-name
invariant-loop-name l = statements.levels_from l.is_barrier l.names l.found (drop l.name-index l.others) ≡ statements.levels_from l.is_barrier l.names l.initial.found l.others
