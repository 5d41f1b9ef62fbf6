use Rattle.std.proofs.Common.{length, ap, refl, arith}
use Rattle.std.proofs.lemmas.List.FromFn.{map-range_with_len_more, length-map-range_with_len}
use Rattle.topology.specs.Instances.{flat_core}
use Rattle.topology.proofs.MachineLaws.{list_all-flat}
use Rattle.topology.proofs.machines.flat.Goals as goal

pub loop-core-preserved : goal.loop-core-preserved
loop-core-preserved c =
    rw (c.in_ok-push.ensures.items, c.loop-core.invariant, map-range_with_len_more flat_core 0 c.loop-core.core c.loop-core.core (omega arith)) refl

pub of-requires-clause-most : goal.of-requires-clause-most
of-requires-clause-most c =
    omega (arith, ap length c.loop-core.invariant, length-map-range_with_len flat_core 0 c.loop-core.core)

pub of-requires-clause-fits : goal.of-requires-clause-fits
of-requires-clause-fits c = rw c.loop-core.invariant (list_all-flat 0 c.loop-core.core (omega arith))
