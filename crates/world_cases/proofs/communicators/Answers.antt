use Rattle.std.specs.Prelude.{refl}
use Rattle.run_model.specs.Played.{computing}
use Rattle.world_cases.proofs.communicators.Goals as goal

pub returns : goal.returns
unfolding computing
returns c = record {
  two_colours = refl;
  bad_colour = refl;
  apart = refl;
  world_is_not_freed = refl;
  ranks_not_tasks = refl;
}
