use Rattle.std.proofs.Common.{◌≡◌, drop}
use Rattle.c_types.specs.Keys.{by_text}
use Rattle.c_types.specs.KnownNames as names
use Rattle.c_types.proofs.known_names.listed.Given as goal

abbrev pub invariant-loop-row : goal.invariant-loop-row
invariant-loop-row l = names.listed l.name (by_text l.rows) ≡ names.listed l.name (by_text (drop l.row-index l.rows))
