use Rattle.std.specs.Prelude.{refl}
use Rattle.run_model.specs.Played.{computing}
use Rattle.world_cases.proofs.tags_and_order.Goals as goal

pub returns : goal.returns
unfolding computing
returns c = record {
  by_tag = refl;
  by_order = refl;
}
