use Rattle.std.proofs.Common.{◌≡◌}
use Rattle.std.specs.List.{filter, range_with_len}
use Rattle.topology.specs.Places.{is_in}
use Rattle.topology.proofs.placements.members.Given as goal

abbrev pub invariant-loop-core : goal.invariant-loop-core
invariant-loop-core l = l.list.items ≡ filter (is_in l.machine l.id) (range_with_len 0 l.core)
