use Rattle.std.specs.Prelude.{refl}
use Rattle.run_model.specs.Played.{computing}
use Rattle.world_cases.proofs.held.Goals as goal

pub returns : goal.returns
unfolding computing
returns c = record {
  enough = refl;
  too_many = refl;
  of_another = refl;
  too_long = refl;
  synchronous = refl;
}
