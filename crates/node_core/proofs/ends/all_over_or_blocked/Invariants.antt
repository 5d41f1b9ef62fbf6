use Rattle.std.proofs.Common.{◌≡◌, drop}
use Rattle.run_model.specs.Setup.{Setup}
use Rattle.run_model.specs.World.{World}
use Rattle.node_core.proofs.Going.{all_from}
use Rattle.node_core.proofs.ends.all_over_or_blocked.Given as goal

abbrev pub invariant-loop-part : goal.invariant-loop-part
invariant-loop-part l = (setup : Setup) (w : World) → all_from setup w 0 l.parts ≡ all_from setup w l.part-index (drop l.part-index l.parts)
