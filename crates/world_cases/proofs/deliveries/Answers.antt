use Rattle.std.specs.Prelude.{refl}
use Rattle.run_model.specs.Played.{computing}
use Rattle.world_cases.proofs.deliveries.Goals as goal

pub returns : goal.returns
unfolding computing
returns c = record {
  tags = refl;
  truncated = refl;
  in_part = refl;
  of_another_type = refl;
  nobody = refl;
}
