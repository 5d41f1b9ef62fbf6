use Rattle.std.specs.Prelude.{refl}
use Rattle.run_model.specs.Played.{computing}
use Rattle.world_cases.proofs.whole_runs.Goals as goal

pub returns : goal.returns
unfolding computing
returns c = record {
  both_print_seven = refl;
  finished = refl;
  stuck = refl;
  blocked = refl;
  four_words = refl;
  five_words = refl;
}
