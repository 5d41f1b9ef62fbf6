use Rattle.std.proofs.Common.{◌≡◌, map}
use Rattle.std.specs.List.{range_with_len}
use Rattle.topology.specs.Instances.{flat_core}
use Rattle.topology.proofs.machines.flat.Given as goal

abbrev pub invariant-loop-core : goal.invariant-loop-core
invariant-loop-core l = l.list.items ≡ map flat_core (range_with_len 0 l.core)
