use Rattle.std.specs.Prelude.{refl}
use Rattle.run_model.specs.Played.{computing}
use Rattle.world_cases.proofs.stencil_of_two.Goals as goal

pub returns : goal.returns
unfolding computing
returns c = record {
  two_ranks = refl;
}
