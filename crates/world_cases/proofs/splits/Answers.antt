use Rattle.std.specs.Prelude.{refl}
use Rattle.run_model.specs.Played.{computing}
use Rattle.world_cases.proofs.splits.Goals as goal

pub returns : goal.returns
unfolding computing
returns c = record {
  two_colours = refl;
  duplicate_is_apart = refl;
}
