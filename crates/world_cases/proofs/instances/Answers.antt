use Rattle.std.specs.Prelude.{refl}
use Rattle.run_model.specs.Played.{computing}
use Rattle.world_cases.proofs.instances.Goals as goal

pub returns : goal.returns
unfolding computing
returns c = record {
  one_copy = refl;
  compactly = refl;
  two_copies = refl;
  apart = refl;
  one_runs_each_round = refl;
  first_of_each = refl;
}
