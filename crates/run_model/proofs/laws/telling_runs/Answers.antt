use Rattle.std.specs.Prelude.{refl}
use Rattle.run_model.specs.Played.{computing}
use Rattle.run_model.proofs.laws.telling_runs.Goals as goal

pub returns : goal.returns
unfolding computing
returns c = record {
  rank_first = refl;
  count_before_range = refl;
  eager_marks = refl;
  one_goes_on = refl;
  going = refl;
  both_are_held = refl;
  stuck = refl;
  calls = refl;
  abort = refl;
  abort_is = refl;
  results_at_leave = refl;
}
