use Rattle.std.specs.Prelude.{refl}
use Rattle.run_model.specs.Played.{computing}
use Rattle.world_cases.proofs.matching.Goals as goal

pub returns : goal.returns
unfolding computing
returns c = record {
  six = refl;
}
